use Rattle.std.proofs.Common.{◌∙◌, map, ap, arith}
use Rattle.std.specs.Prelude.{is_some}
use Rattle.std.proofs.lemmas.List.{take_all}
use Rattle.runend_map.proofs.MapResultRows.{mapped_next}
use Rattle.runend_column.proofs.PassedOn.{no_value, only_error}
use Rattle.runend_map.proofs.answers.flags_of.Goals as goal

pub loop-row-preserved : goal.loop-row-preserved
loop-row-preserved g c =
    mapped_next is_some c.args.rows.now c.loop-row.row c.index-rows-row.result c.is_some.result c.loop-row.flags c.append.new.self c.loop-row-test.true c.index-rows-row.is c.loop-row.invariant c.is_some.ensures
    c.in_ok-append.ensures.ok

pub returns-clause-only : goal.returns-clause-only
returns-clause-only g c = tt

pub returns-clause-flags : goal.returns-clause-flags
returns-clause-flags g c = c.loop-row.invariant ∙ ap (map is_some) (take_all c.loop-row.row c.args.rows.now (omega arith))

pub returns-in_err-append-clause-flags : goal.returns-in_err-append-clause-flags
returns-in_err-append-clause-flags g c = no_value _ c.from_residual-in_err-append.result c.from_residual-in_err-append.ensures.0

pub returns-in_err-append-clause-only : goal.returns-in_err-append-clause-only
returns-in_err-append-clause-only g c = only_error c.from_residual-in_err-append.result c.in_err-append.field-0.0 _ c.from_residual-in_err-append.ensures.1 c.in_err-append.ensures.only

pub returns-in_err-flags-clause-flags : goal.returns-in_err-flags-clause-flags
returns-in_err-flags-clause-flags g c = no_value _ c.from_residual.result c.from_residual.ensures.0

pub returns-in_err-flags-clause-only : goal.returns-in_err-flags-clause-only
returns-in_err-flags-clause-only g c = only_error c.from_residual.result c.in_err-flags.field-0.0 _ c.from_residual.ensures.1 c.in_err-flags.ensures.only
