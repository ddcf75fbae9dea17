use Rattle.std.proofs.Common.{◌≡◌, ◌∙◌, ◌+◌, ◌++◌, ◌∷◌, [], None, get_or, length, map, sym, ap, arith}
use Rattle.std.specs.Prelude.{unwrap_or}
use Rattle.std.proofs.lemmas.List.{length_push, map_push}
use Rattle.std.proofs.lemmas.Option.{get_or_from_slice_get}
use Rattle.column_base.specs.ValidityForm.{flags}
use Rattle.column_base.specs.Validity.{form_of, validity_flags}
use Rattle.column_base.proofs.ValidityRows.{length-flags}
use Rattle.column_core.specs.Optionals.{optionals}
use Rattle.column_core.proofs.OptionalRows.{length-optionals}
use Rattle.column_ops.proofs.SelectedRows.{place-next, rows-places, split-end, split-next}
use Rattle.column_ops.proofs.filter_items.selected_rows.Goals as goal

pub item_at-requires-clause-within : goal.item_at-requires-clause-within
item_at-requires-clause-within g c =
    let next = place-next c.args.bits.now c.loop-row.yielded c.loop-row.row-iterator _ c.in-Some.row c.loop-row.invariant.split c.in-Some.ensures.steps in
    omega (arith, next.0, c.requires.masked)

pub push_reserved-requires : goal.push_reserved-requires
push_reserved-requires g c =
    let next = place-next c.args.bits.now c.loop-row.yielded c.loop-row.row-iterator _ c.in-Some.row c.loop-row.invariant.split c.in-Some.ensures.steps in
    omega (arith, next.1, c.loop-row.invariant.len, c.loop-row.invariant.room)

pub loop-row-preserved : goal.loop-row-preserved
loop-row-preserved g c =
    let rows = optionals c.args.items.now (validity_flags c.args.validity.now (length c.args.items.now)) in
    let row = c.in-Some.row in
    let yielded = c.loop-row.yielded in
    let inv = c.loop-row.invariant in
    let blank = c.args.blank in
    let here = sym (get_or_from_slice_get rows row c.item_at.result None c.item_at.ensures.row) in
    let read = c.unwrap_or.ensures ∙ ap (λ r. unwrap_or r blank) here in
    let before = map (λ r. unwrap_or r blank) (map (λ i. get_or rows i None) yielded) in
    let more = ap (map (λ r. unwrap_or r blank)) (map_push (λ i. get_or rows i None) yielded row) ∙ map_push (λ r. unwrap_or r blank) (map (λ i. get_or rows i None) yielded) (get_or rows row None) in
    record {
      split = split-next c.args.bits.now yielded c.loop-row.row-iterator _ row inv.split c.in-Some.ensures.steps;
      items = c.push_reserved.ensures.items ∙ ap (λ xs. xs ++ c.unwrap_or.result ∷ []) inv.items ∙ ap (λ x. before ++ x ∷ []) read ∙ sym more;
      len = c.push_reserved.ensures.len ∙ ap (λ n. n + 1) inv.len ∙ sym (length_push yielded row);
      room = rw c.push_reserved.ensures.capacity inv.room;
    }

pub returns-clause-items : goal.returns-clause-items
returns-clause-items g c =
    let items = c.args.items.now in
    let form = form_of c.args.validity.now in
    let rows = optionals items (flags form (length items)) in
    let long : length c.args.bits.now ≡ length rows = c.requires.masked ∙ sym (length-optionals items (flags form (length items)) (length-flags form (length items) c.requires.fits)) in
    let all = split-end c.args.bits.now c.loop-row.yielded c.loop-row.row-iterator c.loop-row.invariant.split c.in-None.ensures.steps.0 in
    c.loop-row.invariant.items ∙ ap (λ places. map (λ r. unwrap_or r c.args.blank) (map (λ i. get_or rows i None) places)) all
    ∙ ap (map (λ r. unwrap_or r c.args.blank)) (rows-places c.args.bits.now rows long)
