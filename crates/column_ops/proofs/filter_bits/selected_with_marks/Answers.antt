use Rattle.std.proofs.Common.{◌≡◌, ◌∙◌, ◌++◌, ◌∷◌, [], Some, None, false, get_or, length, map, sym, ap, arith}
use Rattle.std.specs.Prelude.{unwrap_or}
use Rattle.std.proofs.lemmas.List.{map_push}
use Rattle.column_core.specs.Optionals.{optionals}
use Rattle.column_ops.specs.Filter.{filter_rows}
use Rattle.column_ops.proofs.Blanked.{items_or, length-items_or}
use Rattle.column_ops.proofs.Made.{filter_rows-map}
use Rattle.column_ops.proofs.SelectedRows.{items-places, length-filter_rows, mark-here, place-next, split-end, split-next}
use Rattle.column_ops.proofs.filter_bits.selected_with_marks.Goals as goal

pub shown_bit-requires-clause-within : goal.shown_bit-requires-clause-within
shown_bit-requires-clause-within g c =
    let next = place-next c.args.mask.now c.loop-row.yielded c.loop-row.row-iterator _ c.in-Some.row c.loop-row.invariant.split c.in-Some.ensures.steps in
    omega (arith, next.0, c.requires.masked)

pub value-requires : goal.value-requires
value-requires g c =
    let next = place-next c.args.mask.now c.loop-row.yielded c.loop-row.row-iterator _ c.in-Some.row c.loop-row.invariant.split c.in-Some.ensures.steps in
    omega (arith, next.0, c.requires.masked, c.requires.marked)

pub loop-row-preserved : goal.loop-row-preserved
loop-row-preserved g c =
    let marks = c.args.marks.now in
    let shown = items_or c.args.bits.now marks false in
    let row = c.in-Some.row in
    let bit = c.shown_bit.result in
    let mark = c.value.result in
    let yielded = c.loop-row.yielded in
    let inv = c.loop-row.invariant in
    record {
      split = split-next c.args.mask.now yielded c.loop-row.row-iterator _ row inv.split c.in-Some.ensures.steps;
      kept = ap (map (λ x. Some x)) c.in_ok-append.ensures.ok ∙ map_push (λ x. Some x) c.loop-row.kept bit ∙ ap (λ xs. xs ++ Some bit ∷ []) inv.kept
          ∙ ap (λ x. map (λ i. get_or (map (λ x. Some x) shown) i None) yielded ++ x ∷ []) (mark-here shown row bit c.shown_bit.ensures) ∙ sym (map_push (λ i. get_or (map (λ x. Some x) shown) i None) yielded row);
      flags = ap (map (λ x. Some x)) c.in_ok-append-2.ensures.ok ∙ map_push (λ x. Some x) c.loop-row.flags mark ∙ ap (λ xs. xs ++ Some mark ∷ []) inv.flags
          ∙ ap (λ x. map (λ i. get_or (map (λ x. Some x) marks) i None) yielded ++ x ∷ []) (mark-here marks row mark c.value.ensures) ∙ sym (map_push (λ i. get_or (map (λ x. Some x) marks) i None) yielded row);
    }

pub finish-requires : goal.finish-requires
finish-requires g c =
    let mask = c.args.mask.now in
    let shown = items_or c.args.bits.now c.args.marks.now false in
    let long : length mask ≡ length shown = c.requires.masked ∙ sym (length-items_or c.args.bits.now c.args.marks.now false c.requires.marked) in
    let all = split-end mask c.loop-row.yielded c.loop-row.row-iterator c.loop-row.invariant.split c.in-None.ensures.steps.0 in
    let same : c.loop-row.kept ≡ filter_rows mask shown = items-places mask shown c.loop-row.kept long (c.loop-row.invariant.kept ∙ ap (map (λ i. get_or (map (λ x. Some x) shown) i None)) all) in
    c.true_count-count.ensures ∙ sym (length-filter_rows mask shown long) ∙ sym (ap length same)

pub finish-requires-2 : goal.finish-requires-2
finish-requires-2 g c =
    let mask = c.args.mask.now in
    let marks = c.args.marks.now in
    let long : length mask ≡ length marks = c.requires.masked ∙ sym c.requires.marked in
    let all = split-end mask c.loop-row.yielded c.loop-row.row-iterator c.loop-row.invariant.split c.in-None.ensures.steps.0 in
    let same : c.loop-row.flags ≡ filter_rows mask marks = items-places mask marks c.loop-row.flags long (c.loop-row.invariant.flags ∙ ap (map (λ i. get_or (map (λ x. Some x) marks) i None)) all) in
    c.true_count-count.ensures ∙ sym (length-filter_rows mask marks long) ∙ sym (ap length same)

pub returns-clause-shown : goal.returns-clause-shown
returns-clause-shown g c =
    let mask = c.args.mask.now in
    let shown = items_or c.args.bits.now c.args.marks.now false in
    let long : length mask ≡ length shown = c.requires.masked ∙ sym (length-items_or c.args.bits.now c.args.marks.now false c.requires.marked) in
    let all = split-end mask c.loop-row.yielded c.loop-row.row-iterator c.loop-row.invariant.split c.in-None.ensures.steps.0 in
    c.freeze.ensures ∙ c.in_ok-kept-2.ensures.bits ∙ items-places mask shown c.loop-row.kept long (c.loop-row.invariant.kept ∙ ap (map (λ i. get_or (map (λ x. Some x) shown) i None)) all)
    ∙ filter_rows-map (λ row. unwrap_or row false) mask (optionals c.args.bits.now c.args.marks.now)

pub returns-clause-flags : goal.returns-clause-flags
returns-clause-flags g c =
    let mask = c.args.mask.now in
    let marks = c.args.marks.now in
    let all = split-end mask c.loop-row.yielded c.loop-row.row-iterator c.loop-row.invariant.split c.in-None.ensures.steps.0 in
    c.freeze-2.ensures ∙ c.in_ok-flags-2.ensures.bits ∙ items-places mask marks c.loop-row.flags (c.requires.masked ∙ sym c.requires.marked) (c.loop-row.invariant.flags ∙ ap (map (λ i. get_or (map (λ x. Some x) marks) i None)) all)
