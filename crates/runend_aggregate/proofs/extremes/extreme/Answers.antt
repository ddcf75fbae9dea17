use Rattle.std.proofs.Common.{◌≡◌, List, Option, None, subst}
use Rattle.std.specs.Prelude.{All, IfNone, IfSome}
use Rattle.column_core.specs.ScalarView.{sees}
use Rattle.column_core.specs.Value.{Value}
use Rattle.column_ops.specs.OrderFacts.{IsFurthest}
use Rattle.runend_array.specs.Array.{column_of}
use Rattle.runend_aggregate.proofs.VisibleFacts.{furthest_found, none_found, rows_between}
use Rattle.runend_aggregate.proofs.extremes.extreme.Goals as goal

pub returns-clause-none : goal.returns-clause-none
returns-clause-none g c =
    let r = c.args.array.now in
    let runs = c.visible_runs in
    let between = rows_between r (column_of c.values.result.now) runs.result.start runs.result.end c.values.ensures.form runs.ensures.first runs.ensures.stop in
    none_found c.end_of.result r runs.ensures.valid (subst (λ (xs : List (Option Value)). IfNone c.end_of.result (All (λ row. row ≡ None) xs)) between c.end_of.ensures.none)

pub returns-clause-some : goal.returns-clause-some
returns-clause-some g c =
    let r = c.args.array.now in
    let runs = c.visible_runs in
    let between = rows_between r (column_of c.values.result.now) runs.result.start runs.result.end c.values.ensures.form runs.ensures.first runs.ensures.stop in
    furthest_found c.end_of.result (λ row. sees row) c.args.side r runs.ensures.valid (subst (λ (xs : List (Option Value)). IfSome c.end_of.result (λ row. IsFurthest c.args.side xs (sees row))) between c.end_of.ensures.some)
