use Rattle.std.proofs.Common.{◌+◌, ◌^◌, ◌∙◌, ◌<◌, ℕ, List, ap, arith, length, map, subst, sym}
use Rattle.std.specs.Prelude.{All}
use Rattle.row_groups.specs.Groups.{row_alone}
use Rattle.row_groups.proofs.Changes.{length-starts, starts_within}
use Rattle.row_stretches.specs.declared.stretches.Stretch.{Stretch}
use Rattle.row_stretches.specs.Stretches.{IsWithin, stretch_places}
use Rattle.runend_windows.specs.Starts.{starts_from}
use Rattle.tables.proofs.GroupTables.{heads_zipped, ok_then3, places_alone, within_alone}
use Rattle.tables.proofs.groups.heads_of_each.Goals as goal

pub rows_alone-order-requires : goal.rows_alone-order-requires
rows_alone-order-requires g c =
    let begun = c.deref.ensures.value ∙ c.in_ok-starts.ensures.starts in
    let within = starts_within c.args.count c.args.ends.now c.requires.ends in
    subst (λ (starts : List ℕ). All (λ row. row + 1 < 2 ^ 64) starts) (sym begun) (λ k d below. let inside = within k d below in omega (arith, inside))

pub stretches_of_each-requires-clause-within : goal.stretches_of_each-requires-clause-within
stretches_of_each-requires-clause-within g c =
    let begun = c.deref.ensures.value ∙ c.in_ok-starts.ensures.starts in
    let alone = c.deref-2.ensures.value ∙ c.in_ok-order.ensures.stretches ∙ ap (map row_alone) begun in
    subst (All (IsWithin c.args.count)) (sym alone) (within_alone c.args.count (starts_from 0 c.args.ends.now) (starts_within c.args.count c.args.ends.now c.requires.ends))

pub stretches_of_each-requires-clause-small : goal.stretches_of_each-requires-clause-small
stretches_of_each-requires-clause-small g c =
    let begun = c.deref.ensures.value ∙ c.in_ok-starts.ensures.starts in
    let alone = c.deref-2.ensures.value ∙ c.in_ok-order.ensures.stretches ∙ ap (map row_alone) begun in
    let long = ap (λ (order : List Stretch). length (stretch_places order)) alone ∙ ap length (places_alone (starts_from 0 c.args.ends.now)) ∙ length-starts 0 c.args.ends.now in
    omega (arith, long)

pub returns-clause-heads : goal.returns-clause-heads
returns-clause-heads g c =
    let begun = c.deref.ensures.value ∙ c.in_ok-starts.ensures.starts in
    let alone = c.deref-2.ensures.value ∙ c.in_ok-order.ensures.stretches ∙ ap (map row_alone) begun in
    ok_then3 c.stretches_of_each.result _ _ _ _ (λ made shown dtypes formats. heads_zipped c.args.columns.now made.items c.args.count c.deref-2.result.now c.args.ends.now c.requires.ends c.requires.even alone shown dtypes formats)
    c.stretches_of_each.ensures.rows c.stretches_of_each.ensures.dtypes c.stretches_of_each.ensures.formats
