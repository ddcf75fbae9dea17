use Rattle.std.proofs.Common.{◌∙◌, false, map, ap, arith}
use Rattle.std.specs.Prelude.{unwrap_or}
use Rattle.std.proofs.lemmas.List.{take_all}
use Rattle.runend_column.proofs.PassedOn.{no_value, only_error}
use Rattle.runend_map.proofs.answers.bits_of.Goals as goal

pub returns-clause-only : goal.returns-clause-only
returns-clause-only g c = tt

pub returns-clause-bits : goal.returns-clause-bits
returns-clause-bits g c = c.loop-row.invariant ∙ ap (map (λ r. unwrap_or r false)) (take_all c.loop-row.row c.args.rows.now (omega arith))

pub returns-in_err-append-clause-bits : goal.returns-in_err-append-clause-bits
returns-in_err-append-clause-bits g c = no_value _ c.from_residual-in_err-append.result c.from_residual-in_err-append.ensures.0

pub returns-in_err-append-clause-only : goal.returns-in_err-append-clause-only
returns-in_err-append-clause-only g c = only_error c.from_residual-in_err-append.result c.in_err-append.field-0.0 _ c.from_residual-in_err-append.ensures.1 c.in_err-append.ensures.only

pub returns-in_err-bits-clause-bits : goal.returns-in_err-bits-clause-bits
returns-in_err-bits-clause-bits g c = no_value _ c.from_residual.result c.from_residual.ensures.0

pub returns-in_err-bits-clause-only : goal.returns-in_err-bits-clause-only
returns-in_err-bits-clause-only g c = only_error c.from_residual.result c.in_err-bits.field-0.0 _ c.from_residual.ensures.1 c.in_err-bits.ensures.only
