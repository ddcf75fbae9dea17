use Rattle.std.proofs.Common.{◌↔◌, List, Option, subst}
use Rattle.std.specs.Prelude.{IsTrue}
use Rattle.column_core.specs.Value.{Value}
use Rattle.column_ops.specs.OrderFacts.{IsConstant}
use Rattle.runend_array.specs.Array.{column_of}
use Rattle.runend_aggregate.proofs.VisibleFacts.{constant, rows_between}
use Rattle.runend_aggregate.proofs.order.is_constant.Goals as goal

pub returns-clause-answer : goal.returns-clause-answer
returns-clause-answer g c =
    let r = c.args.array.now in
    let runs = c.visible_runs in
    let between = rows_between r (column_of c.values.result.now) runs.result.start runs.result.end c.values.ensures.form runs.ensures.first runs.ensures.stop in
    let told = subst (λ (xs : List (Option Value)). IsTrue c.are_equal.result ↔ IsConstant xs) between c.are_equal.ensures in
    let law = constant r runs.ensures.valid in
    (λ h. law.0 (told.0 h), λ h. told.1 (law.1 h))
