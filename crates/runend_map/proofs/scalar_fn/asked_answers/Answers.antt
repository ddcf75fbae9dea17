use Rattle.std.proofs.Common.{List, Option, subst, ap, ◌∙◌}
use Rattle.std.specs.List.{AllZip}
use Rattle.column_core.specs.FlatColumn.{leaf_of}
use Rattle.column_core.specs.Leaf.{single_rows}
use Rattle.column_core.specs.Value.{Value}
use Rattle.runend_array.specs.Array.{column_of}
use Rattle.runend_map.specs.MapInputs.{IsAsked}
use Rattle.runend_map.specs.MapResult.{number_row, is_native}
use Rattle.runend_map.proofs.KeptRows.{if_ok}
use Rattle.runend_map.proofs.MapResultRows.{may_ask}
use Rattle.runend_column.proofs.PassedOn.{no_value, only_error}
use Rattle.runend_map.proofs.scalar_fn.asked_answers.Goals as goal

pub answers_to-answers-requires-clause-callable : goal.answers_to-answers-requires-clause-callable
answers_to-answers-requires-clause-callable g c =
    may_ask (number_row g.S.NativePType.number) (λ x. g.F.Fn.pre c.args.function.now (x, tt)) (column_of c.args.column.now) (single_rows (leaf_of c.in_ok-values.values)) c.in_ok-values.ensures.valid
    c.in_ok-values.ensures.rows c.requires.callable

pub returns-clause-each : goal.returns-clause-each
returns-clause-each g c =
    if_ok c.answers_to-answers.result (λ answers zipped.
    subst (λ (rs : List (Option Value)). AllZip (IsAsked (number_row g.S.NativePType.number) (λ x y. g.F.Fn.post c.args.function.now (x, tt) y)) rs answers.items) c.in_ok-values.ensures.rows zipped)
    c.answers_to-answers.ensures.each

pub returns-clause-only : goal.returns-clause-only
returns-clause-only g c = c.answers_to-answers.ensures.only

pub returns-clause-valid : goal.returns-clause-valid
returns-clause-valid g c = c.in_ok-values.ensures.valid

pub answers_to-answers-requires-clause-native : goal.answers_to-answers-requires-clause-native
answers_to-answers-requires-clause-native g c = ap (is_native g.S.NativePType.PTYPE) c.in_ok-values.ensures.dtype ∙ c.requires.native

pub returns-in_err-values-clause-each : goal.returns-in_err-values-clause-each
returns-in_err-values-clause-each g c = no_value _ c.from_residual.result c.from_residual.ensures.0

pub returns-in_err-values-clause-only : goal.returns-in_err-values-clause-only
returns-in_err-values-clause-only g c = only_error c.from_residual.result c.in_err-values.field-0.0 _ c.from_residual.ensures.1 c.in_err-values.ensures.only
