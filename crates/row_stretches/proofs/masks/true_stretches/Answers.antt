use Rattle.std.proofs.Common.{◌≡◌, ◌∙◌, ℤ, List, Option, ap, length, map, subst, sym}
use Rattle.std.specs.Prelude.{IfOk, unsigned_abs}
use Rattle.std.proofs.lemmas.List.{length-map}
use Rattle.std.proofs.lemmas.Result.{IfOk-weaker}
use Rattle.column_core.specs.FlatColumn.{leaf_of}
use Rattle.column_core.specs.Leaf.{single_rows}
use Rattle.column_core.specs.Value.{Value}
use Rattle.column_ops.specs.Filter.{filter_rows}
use Rattle.runend_array.specs.Array.{rows}
use Rattle.runend_builder.specs.Builder.{shown_rows}
use Rattle.runend_builder.proofs.Builds.{rows_of_cover}
use Rattle.runend_windows.specs.Cover.{IsTightCover}
use Rattle.runend_windows.specs.Ends.{ends_of}
use Rattle.row_stretches.specs.Masks.{AreTrueStretches, is_true, truths_of}
use Rattle.row_stretches.specs.Stretches.{stretch_rows}
use Rattle.row_stretches.proofs.TrueRows.{rows_selected}
use Rattle.row_stretches.proofs.masks.true_stretches.Goals as goal

pub stretches_among-order-requires-clause-cover : goal.stretches_among-order-requires-clause-cover
stretches_among-order-requires-clause-cover g c =
    let ends = ends_of c.in_ok-ends.ends in
    let values = single_rows (leaf_of c.in_ok-ends.values) in
    let cover = c.in_ok-ends.ensures.encoding.cover in
    let shown = subst (λ (all : List (Option Value)). IsTightCover all ends values) (sym (rows_of_cover (rows c.args.mask.now) ends values cover)) cover in
    subst (λ (numbers : List ℤ). IsTightCover (shown_rows (map unsigned_abs numbers) values) (map unsigned_abs numbers) values) (sym c.values.ensures.shows) shown

pub returns-clause-stretches : goal.returns-clause-stretches
returns-clause-stretches g c =
    let ends = ends_of c.in_ok-ends.ends in
    let values = single_rows (leaf_of c.in_ok-ends.values) in
    let cover = c.in_ok-ends.ensures.encoding.cover in
    let shown = ap (λ (numbers : List ℤ). shown_rows (map unsigned_abs numbers) values) c.values.ensures.shows ∙ rows_of_cover (rows c.args.mask.now) ends values cover in
    subst (λ (all : List (Option Value)). IfOk c.stretches_among-order.result (λ order. AreTrueStretches (truths_of all) order.items)) shown c.stretches_among-order.ensures.stretches

pub returns-clause-selects : goal.returns-clause-selects
returns-clause-selects g c =
    let mask = rows c.args.mask.now in
    let ends = ends_of c.in_ok-ends.ends in
    let values = single_rows (leaf_of c.in_ok-ends.values) in
    let cover = c.in_ok-ends.ensures.encoding.cover in
    let shown = ap (λ (numbers : List ℤ). shown_rows (map unsigned_abs numbers) values) c.values.ensures.shows ∙ rows_of_cover mask ends values cover in
    let made = subst (λ (all : List (Option Value)). IfOk c.stretches_among-order.result (λ order. AreTrueStretches (truths_of all) order.items)) shown c.stretches_among-order.ensures.stretches in
    IfOk-weaker c.stretches_among-order.result (λ order. AreTrueStretches (truths_of mask) order.items)
    (λ order. (all : List (Option Value)) → length all ≡ length mask → stretch_rows all order.items ≡ filter_rows (truths_of mask) all)
    (λ order are all long. rows_selected all (truths_of mask) order.items are (long ∙ sym (length-map mask is_true))) made
