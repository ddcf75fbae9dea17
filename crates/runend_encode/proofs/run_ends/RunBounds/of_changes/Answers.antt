use Rattle.std.proofs.Common.{◌++◌, ◌∷◌, [], ◌∙◌, ap, sym, length, length-append, arith}
use Rattle.std.proofs.lemmas.List.{append_assoc}
use Rattle.column_ops.proofs.SelectedRows.{length-places}
use Rattle.runend_encode.proofs.run_ends.RunBounds.of_changes.Goals as goal

pub push_reserved-requires-in-loop-place : goal.push_reserved-requires-in-loop-place
push_reserved-requires-in-loop-place g c =
    let inv = c.loop-place.invariant in
    let all = ap length inv.left in
    let places = length-places c.args.bits.now in
    let parts = length-append c.loop-place.rows.items c.loop-place.place-iterator in
    let rest = ap length c.in-Some.ensures.steps in
    omega (arith, inv.room, all, places, parts, rest)

pub loop-place-preserved : goal.loop-place-preserved
loop-place-preserved g c =
    let inv = c.loop-place.invariant in
    record {
      left = rw c.push_reserved-in-loop-place.ensures.items (append_assoc c.loop-place.rows.items (c.in-Some.place ∷ []) c.next.new.self
          ∙ ap (λ xs. c.loop-place.rows.items ++ xs) (sym c.in-Some.ensures.steps) ∙ inv.left);
      room = rw c.push_reserved-in-loop-place.ensures.capacity inv.room;
    }

pub push_reserved-requires-2 : goal.push_reserved-requires-2
push_reserved-requires-2 g c =
    let inv = c.loop-place.invariant in
    let all = ap length inv.left in
    let places = length-places c.args.bits.now in
    let parts = length-append c.loop-place.rows.items c.loop-place.place-iterator in
    omega (arith, inv.room, all, places, parts)
