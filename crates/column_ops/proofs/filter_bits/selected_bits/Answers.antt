use Rattle.std.proofs.Common.{◌≡◌, ◌∙◌, ◌++◌, ◌∷◌, [], Some, None, get_or, length, map, sym, ap, arith}
use Rattle.std.proofs.lemmas.List.{map_push}
use Rattle.column_ops.specs.Filter.{filter_rows}
use Rattle.column_ops.proofs.SelectedRows.{items-places, length-filter_rows, mark-here, place-next, split-end, split-next}
use Rattle.column_ops.proofs.filter_bits.selected_bits.Goals as goal

pub value-requires : goal.value-requires
value-requires g c =
    let next = place-next c.args.mask.now c.loop-row.yielded c.loop-row.row-iterator _ c.in-Some.row c.loop-row.invariant.split c.in-Some.ensures.steps in
    omega (arith, next.0, c.requires)

pub loop-row-preserved : goal.loop-row-preserved
loop-row-preserved g c =
    let bits = c.args.bits.now in
    let row = c.in-Some.row in
    let bit = c.value.result in
    let yielded = c.loop-row.yielded in
    let inv = c.loop-row.invariant in
    let here = mark-here bits row bit c.value.ensures in
    let before = map (λ i. get_or (map (λ x. Some x) bits) i None) yielded in
    record {
      split = split-next c.args.mask.now yielded c.loop-row.row-iterator _ row inv.split c.in-Some.ensures.steps;
      bits = ap (map (λ x. Some x)) c.in_ok-append.ensures.ok ∙ map_push (λ x. Some x) c.loop-row.kept bit ∙ ap (λ xs. xs ++ Some bit ∷ []) inv.bits
          ∙ ap (λ x. before ++ x ∷ []) here ∙ sym (map_push (λ i. get_or (map (λ x. Some x) bits) i None) yielded row);
    }

pub finish-requires : goal.finish-requires
finish-requires g c =
    let bits = c.args.bits.now in
    let all = split-end c.args.mask.now c.loop-row.yielded c.loop-row.row-iterator c.loop-row.invariant.split c.in-None.ensures.steps.0 in
    let same : c.loop-row.kept ≡ filter_rows c.args.mask.now bits = items-places c.args.mask.now bits c.loop-row.kept c.requires (c.loop-row.invariant.bits ∙ ap (map (λ i. get_or (map (λ x. Some x) bits) i None)) all) in
    c.true_count-count.ensures ∙ sym (length-filter_rows c.args.mask.now bits c.requires) ∙ sym (ap length same)

pub returns-clause-bits : goal.returns-clause-bits
returns-clause-bits g c =
    let bits = c.args.bits.now in
    let all = split-end c.args.mask.now c.loop-row.yielded c.loop-row.row-iterator c.loop-row.invariant.split c.in-None.ensures.steps.0 in
    c.freeze.ensures ∙ c.in_ok-kept-2.ensures.bits ∙ items-places c.args.mask.now bits c.loop-row.kept c.requires (c.loop-row.invariant.bits ∙ ap (map (λ i. get_or (map (λ x. Some x) bits) i None)) all)
