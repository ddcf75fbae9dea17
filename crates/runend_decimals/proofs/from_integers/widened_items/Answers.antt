use Rattle.std.proofs.Common.{FitsSigned, ◌≡◌, ◌∙◌, ◌+◌, ◌++◌, ◌∷◌, [], ℤ, List, map, take, sym, ap, rules}
use Rattle.std.specs.Int.{w128}
use Rattle.std.proofs.lemmas.Int.{to_z-of_z}
use Rattle.std.proofs.lemmas.List.{map_more}
use Rattle.runend_decimals.proofs.from_integers.widened_items.Goals as goal

pub loop-item-preserved : goal.loop-item-preserved
loop-item-preserved g c =
    let number = g.T.NativePType.number in
    let inv = c.loop-item.invariant in
    let item = c.item-item.result in
    let wide : ℤ = c.widen.result in
    let fits : FitsSigned w128 c.widen.result = search rules in
    let passed : List ℤ = map number (take c.loop-item.item-index c.args.items.now) in
    let same = c.widen.ensures ∙ ap number c.item-item.is in
    let pushed : passed ++ wide ∷ [] ≡ map number (take (c.loop-item.item-index + 1) c.args.items.now) =
    ap (λ (n : ℤ). passed ++ n ∷ []) same ∙ sym (map_more number c.args.items.now c.loop-item.item-index item c.loop-item-test.true) in
    record {
      items = c.push_reserved.ensures.items ∙ ap (λ (n : ℤ). c.loop-item.widened.items ++ n ∷ []) (to_z-of_z w128 c.widen.result fits) ∙ ap (λ (xs : List ℤ). xs ++ wide ∷ []) inv.items ∙ pushed;
      len = c.push_reserved.ensures.len ∙ ap (λ n. n + 1) inv.len;
      room = rw c.push_reserved.ensures.capacity inv.room;
    }
