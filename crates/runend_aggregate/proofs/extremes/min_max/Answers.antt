use Rattle.std.proofs.Common.{◌≡◌, List, Option, None, subst}
use Rattle.std.specs.Prelude.{All, IfNone, IfSome}
use Rattle.std.specs.declared.cmp.Ordering.TheVariants.{Less, Greater}
use Rattle.column_core.specs.ScalarView.{sees}
use Rattle.column_core.specs.Value.{Value}
use Rattle.column_ops.specs.OrderFacts.{IsGreatest, IsLeast}
use Rattle.runend_array.specs.Array.{column_of}
use Rattle.runend_aggregate.proofs.VisibleFacts.{furthest_found, none_found, rows_between}
use Rattle.runend_aggregate.proofs.extremes.min_max.Goals as goal

pub returns-clause-none : goal.returns-clause-none
returns-clause-none g c =
    let r = c.args.array.now in
    let runs = c.visible_runs in
    let between = rows_between r (column_of c.values.result.now) runs.result.start runs.result.end c.values.ensures.form runs.ensures.first runs.ensures.stop in
    none_found c.ends_of.result r runs.ensures.valid (subst (λ (xs : List (Option Value)). IfNone c.ends_of.result (All (λ row. row ≡ None) xs)) between c.ends_of.ensures.none)

pub returns-clause-least : goal.returns-clause-least
returns-clause-least g c =
    let r = c.args.array.now in
    let runs = c.visible_runs in
    let between = rows_between r (column_of c.values.result.now) runs.result.start runs.result.end c.values.ensures.form runs.ensures.first runs.ensures.stop in
    furthest_found c.ends_of.result (λ ends. sees ends.0) Less r runs.ensures.valid (subst (λ (xs : List (Option Value)). IfSome c.ends_of.result (λ ends. IsLeast xs (sees ends.0))) between c.ends_of.ensures.least)

pub returns-clause-greatest : goal.returns-clause-greatest
returns-clause-greatest g c =
    let r = c.args.array.now in
    let runs = c.visible_runs in
    let between = rows_between r (column_of c.values.result.now) runs.result.start runs.result.end c.values.ensures.form runs.ensures.first runs.ensures.stop in
    furthest_found c.ends_of.result (λ ends. sees ends.1) Greater r runs.ensures.valid (subst (λ (xs : List (Option Value)). IfSome c.ends_of.result (λ ends. IsGreatest xs (sees ends.1))) between c.ends_of.ensures.greatest)
