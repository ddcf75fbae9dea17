use Rattle.std.proofs.Common.{◌∙◌, ◌+◌, ◌++◌, ◌∷◌, [], get_or, map, take, sym, ap, arith}
use Rattle.std.proofs.lemmas.List.{map_more, take_all}
use Rattle.column_ops.proofs.take_items.items_or_blank.Goals as goal

pub loop-position-preserved : goal.loop-position-preserved
loop-position-preserved g c =
    let positions = c.args.positions.now in
    let inv = c.loop-position.invariant in
    let at = c.loop-position.position-index in
    record {
      items = c.push_reserved.ensures.items ∙ ap (λ xs. xs ++ c.item_or.result ∷ []) inv.items ∙ ap (λ x. map (λ k. get_or c.args.items.now k c.args.blank) (take at positions) ++ x ∷ []) c.item_or.ensures
          ∙ sym (map_more (λ k. get_or c.args.items.now k c.args.blank) positions at 0 c.loop-position-test.true);
      len = c.push_reserved.ensures.len ∙ ap (λ n. n + 1) inv.len;
      room = rw c.push_reserved.ensures.capacity inv.room;
    }

pub returns-clause-items : goal.returns-clause-items
returns-clause-items g c =
    let all = take_all c.loop-position.position-index c.args.positions.now (omega arith) in
    c.loop-position.invariant.items ∙ ap (map (λ k. get_or c.args.items.now k c.args.blank)) all
