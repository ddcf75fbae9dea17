use Rattle.std.proofs.Common.{◌≡◌, ◌∙◌, ◌+◌, ◌++◌, ◌∷◌, [], Some, get_or, length, map, take, refl, sym, ap}
use Rattle.std.specs.Prelude.{slice_get}
use Rattle.std.proofs.lemmas.List.{map_more, map_push}
use Rattle.std.proofs.lemmas.Option.{slice_get_read}
use Rattle.column_ops.proofs.take_items.items_at.Goals as goal

pub loop-position-preserved : goal.loop-position-preserved
loop-position-preserved g c =
    let items = c.args.items.now in
    let positions = c.args.positions.now in
    let inv = c.loop-position.invariant in
    let at = c.loop-position.position-index in
    let position = get_or positions at 0 in
    let item = c.index-items-position.result in
    let here : slice_get items position ≡ Some item = slice_get_read items (length items) position item refl (c.requires at 0 c.loop-position-test.true) c.index-items-position.is in
    let before = map (λ k. slice_get items k) (take at positions) in
    record {
      items = ap (map (λ x. Some x)) c.push_reserved.ensures.items ∙ map_push (λ x. Some x) c.loop-position.taken.items item ∙ ap (λ xs. xs ++ Some item ∷ []) inv.items
          ∙ ap (λ x. before ++ x ∷ []) (sym here) ∙ sym (map_more (λ k. slice_get items k) positions at 0 c.loop-position-test.true);
      len = c.push_reserved.ensures.len ∙ ap (λ n. n + 1) inv.len;
      room = rw c.push_reserved.ensures.capacity inv.room;
    }
