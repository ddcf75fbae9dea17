use Rattle.std.proofs.Common.{◌∙◌, ◌+◌, ◌++◌, ◌∷◌, [], Some, None, get_or, map, sym, ap, arith}
use Rattle.std.proofs.lemmas.List.{length_push, map_push}
use Rattle.column_ops.proofs.SelectedRows.{item-here, items-places, place-next, split-end, split-next}
use Rattle.column_ops.proofs.filter_items.selected_items.Goals as goal

pub offset_bounds-items-row : goal.offset_bounds-items-row
offset_bounds-items-row g c =
    let next = place-next c.args.bits.now c.loop-row.yielded c.loop-row.row-iterator _ c.in-Some.row c.loop-row.invariant.split c.in-Some.ensures.steps in
    omega (arith, next.0, c.requires)

pub bounds-items-row : goal.bounds-items-row
bounds-items-row g c =
    let next = place-next c.args.bits.now c.loop-row.yielded c.loop-row.row-iterator _ c.in-Some.row c.loop-row.invariant.split c.in-Some.ensures.steps in
    omega (arith, next.0, c.requires)

pub push_reserved-requires : goal.push_reserved-requires
push_reserved-requires g c =
    let next = place-next c.args.bits.now c.loop-row.yielded c.loop-row.row-iterator _ c.in-Some.row c.loop-row.invariant.split c.in-Some.ensures.steps in
    omega (arith, next.1, c.loop-row.invariant.len, c.loop-row.invariant.room)

pub loop-row-preserved : goal.loop-row-preserved
loop-row-preserved g c =
    let items = c.args.items.now in
    let row = c.in-Some.row in
    let item = c.index-items-row.result in
    let yielded = c.loop-row.yielded in
    let inv = c.loop-row.invariant in
    let next = place-next c.args.bits.now yielded c.loop-row.row-iterator _ row inv.split c.in-Some.ensures.steps in
    let here = item-here items row item (omega (arith, next.0, c.requires)) c.index-items-row.is in
    let before = map (λ i. get_or (map (λ x. Some x) items) i None) yielded in
    record {
      split = split-next c.args.bits.now yielded c.loop-row.row-iterator _ row inv.split c.in-Some.ensures.steps;
      items = ap (map (λ x. Some x)) c.push_reserved.ensures.items ∙ map_push (λ x. Some x) c.loop-row.kept.items item ∙ ap (λ xs. xs ++ Some item ∷ []) inv.items
          ∙ ap (λ x. before ++ x ∷ []) here ∙ sym (map_push (λ i. get_or (map (λ x. Some x) items) i None) yielded row);
      len = c.push_reserved.ensures.len ∙ ap (λ n. n + 1) inv.len ∙ sym (length_push yielded row);
      room = rw c.push_reserved.ensures.capacity inv.room;
    }

pub returns-clause-items : goal.returns-clause-items
returns-clause-items g c =
    let items = c.args.items.now in
    let all = split-end c.args.bits.now c.loop-row.yielded c.loop-row.row-iterator c.loop-row.invariant.split c.in-None.ensures.steps.0 in
    items-places c.args.bits.now items c.loop-row.kept.items c.requires (c.loop-row.invariant.items ∙ ap (map (λ i. get_or (map (λ x. Some x) items) i None)) all)
