use Rattle.std.proofs.Common.{◌++◌, ◌∷◌, [], ◌∙◌, ap, sym, length, length-append, arith}
use Rattle.std.proofs.lemmas.List.{append_assoc, append-nil}
use Rattle.runend_column.proofs.SetPlaces.{length-places}
use Rattle.runend_column.proofs.bit_indices.set_bit_indices.Goals as goal

pub push_reserved-requires : goal.push_reserved-requires
push_reserved-requires g c =
    let inv = c.loop-place.invariant in
    let all = ap length inv.left ∙ length-places c.args.bits.now in
    let parts = length-append c.loop-place.places.items c.loop-place.place-iterator in
    let rest = ap length c.in-Some.ensures.steps in
    omega (arith, inv.room, all, parts, rest)

pub loop-place-preserved : goal.loop-place-preserved
loop-place-preserved g c =
    let inv = c.loop-place.invariant in
    record {
      left = rw c.push_reserved.ensures.items (append_assoc c.loop-place.places.items (c.in-Some.place ∷ []) c.next.new.self
          ∙ ap (λ xs. c.loop-place.places.items ++ xs) (sym c.in-Some.ensures.steps) ∙ inv.left);
      room = rw c.push_reserved.ensures.capacity inv.room;
    }

pub returns-clause-places : goal.returns-clause-places
returns-clause-places g c =
    let none = c.in-None.ensures.steps.0 in
    sym (append-nil c.loop-place.places.items) ∙ ap (λ xs. c.loop-place.places.items ++ xs) (sym none) ∙ c.loop-place.invariant.left
