use Rattle.std.proofs.Common.{◌≡◌, ◌∙◌, ap, arith, ℕ, List, ◌-◌, ◌++◌, length}
use Rattle.column_fields.specs.Varint.{varint}
use Rattle.column_fields.proofs.LengthLaws.{lengths_step, lengths_done, lengths_left}
use Rattle.column_fields.proofs.KeptLaws.{kept_on}
use Rattle.column_fields.proofs.RoomLaws.{refused}
use Rattle.column_fields.proofs.lengths.put_each.Goals as goal

pub loop-stop-preserved : goal.loop-stop-preserved
loop-stop-preserved g c =
    let natural = g.E.UnsignedPType.natural in
    let out : List ℕ = g.W.BufMut.written c.loop-stop.out in
    let is : c.saturating_sub.result ≡ natural c.stop-item.result - c.loop-stop.begin = omega (arith, c.saturating_sub.ensures, c.end-end.ensures.value) in
    let new : g.W.BufMut.written c.put_varint.new.out ≡ out ++ varint (natural c.stop-item.result - c.loop-stop.begin) = c.in_ok-put_varint.ensures.ok ∙ ap (λ (n : ℕ). out ++ varint n) is in
    record {
      shows = rw c.end-end.ensures.value (lengths_step natural c.args.ends.now c.loop-stop.stop-index c.loop-stop.begin c.stop-item.result out _ _ c.loop-stop-test.true c.stop-item.is c.loop-stop.invariant.shows new);
      kept = kept_on _ _ _ c.loop-stop.invariant.kept c.in_ok-put_varint.ensures.kept;
      room = rw c.end-end.ensures.value (omega (arith, lengths_left natural c.args.ends.now c.loop-stop.stop-index c.loop-stop.begin c.stop-item.result c.loop-stop-test.true c.stop-item.is, ap (λ (n : ℕ). length (varint n)) is, c.loop-stop.invariant.room, c.in_ok-put_varint.ensures.room));
    }

pub returns-clause-ok : goal.returns-clause-ok
returns-clause-ok g c = lengths_done g.E.UnsignedPType.natural c.args.ends.now c.loop-stop.stop-index c.loop-stop.begin (g.W.BufMut.written c.loop-stop.out) _ (omega arith) c.loop-stop.invariant.shows

pub returns-in_err-put_varint-clause-room : goal.returns-in_err-put_varint-clause-room
returns-in_err-put_varint-clause-room g c =
    let natural = g.E.UnsignedPType.natural in
    let is : c.saturating_sub.result ≡ natural c.stop-item.result - c.loop-stop.begin = omega (arith, c.saturating_sub.ensures, c.end-end.ensures.value) in
    refused _ _ _ _ c.from_residual.ensures.0 (omega (arith, lengths_left natural c.args.ends.now c.loop-stop.stop-index c.loop-stop.begin c.stop-item.result c.loop-stop-test.true c.stop-item.is, ap (λ (n : ℕ). length (varint n)) is, c.loop-stop.invariant.room, c.in_err-put_varint.ensures.room))

pub returns-clause-room : goal.returns-clause-room
returns-clause-room g c = omega (arith, c.loop-stop.invariant.room)
