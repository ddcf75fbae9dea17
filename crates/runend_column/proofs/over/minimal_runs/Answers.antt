use Rattle.runend_column.proofs.MinimalRuns.{joined_dtype, joined_form, joined_parts, joined_rows}
use Rattle.runend_column.proofs.PassedOn.{no_value}
use Rattle.runend_column.proofs.over.minimal_runs.Goals as goal

pub new_unchecked-requires : goal.new_unchecked-requires
new_unchecked-requires g c = joined_parts c.args.ends c.args.values c.in_ok-joined_ends.joined_ends c.in_ok-joined_ends.joined_values c.args.offset c.args.count c.in_ok-joined_ends.ensures.joined c.requires.plain

pub returns-clause-rows : goal.returns-clause-rows
returns-clause-rows g c =
    joined_rows c.args.ends c.args.values c.in_ok-joined_ends.joined_ends c.in_ok-joined_ends.joined_values c.args.offset c.args.count c.in_ok-joined_ends.ensures.joined c.new_unchecked.result c.new_unchecked.ensures

pub returns-clause-dtype : goal.returns-clause-dtype
returns-clause-dtype g c =
    joined_dtype c.args.ends c.args.values c.in_ok-joined_ends.joined_ends c.in_ok-joined_ends.joined_values c.args.offset c.args.count c.in_ok-joined_ends.ensures.joined c.new_unchecked.result c.new_unchecked.ensures

pub returns-clause-form : goal.returns-clause-form
returns-clause-form g c =
    joined_form c.args.ends c.args.values c.in_ok-joined_ends.joined_ends c.in_ok-joined_ends.joined_values c.args.offset c.args.count c.in_ok-joined_ends.ensures.joined c.new_unchecked.result c.new_unchecked.ensures

pub returns-in_err-joined_ends-clause-dtype : goal.returns-in_err-joined_ends-clause-dtype
returns-in_err-joined_ends-clause-dtype g c = no_value _ c.from_residual.result c.from_residual.ensures.0

pub returns-in_err-joined_ends-clause-form : goal.returns-in_err-joined_ends-clause-form
returns-in_err-joined_ends-clause-form g c = no_value _ c.from_residual.result c.from_residual.ensures.0

pub returns-in_err-joined_ends-clause-rows : goal.returns-in_err-joined_ends-clause-rows
returns-in_err-joined_ends-clause-rows g c = no_value _ c.from_residual.result c.from_residual.ensures.0
