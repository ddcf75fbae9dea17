use Rattle.std.proofs.Common.{◌∙◌, ap, map, List, ℕ, ◌++◌, arith, length}
use Rattle.column_fields.proofs.OneByteLaws.{eight_spelt}
use Rattle.column_fields.proofs.RoomLaws.{refused}
use Rattle.column_fields.proofs.lengths.put_eight.Goals as goal

pub returns-in-Some-clause-ok : goal.returns-in-Some-clause-ok
returns-in-Some-clause-ok g c =
    let same = c.in-Some.ensures ∙ eight_spelt c.args.start (map g.E.UnsignedPType.natural c.args.ends.now) c.eight_lengths-lengths.result c.eight_lengths-lengths.ensures.lengths in
    c.in_ok-put_slice.ensures.ok ∙ ap (λ (b : List ℕ). g.W.BufMut.written c.args.out.now ++ b) same

pub returns-in-Some-two_bytes_at_most-clause-ok : goal.returns-in-Some-two_bytes_at_most-clause-ok
returns-in-Some-two_bytes_at_most-clause-ok g c =
    let same = c.in-Some-two_bytes_at_most.ensures.bytes ∙ eight_spelt c.args.start (map g.E.UnsignedPType.natural c.args.ends.now) c.eight_lengths-lengths.result c.eight_lengths-lengths.ensures.lengths in
    c.in_ok-put_slice-2.ensures.ok ∙ ap (λ (b : List ℕ). g.W.BufMut.written c.args.out.now ++ b) same

pub returns-in_err-put_slice-clause-room : goal.returns-in_err-put_slice-clause-room
returns-in_err-put_slice-clause-room g c =
    let same = c.in-Some.ensures ∙ eight_spelt c.args.start (map g.E.UnsignedPType.natural c.args.ends.now) c.eight_lengths-lengths.result c.eight_lengths-lengths.ensures.lengths in
    refused _ _ _ _ c.from_residual.ensures.0 (omega (arith, ap length same, c.in_err-put_slice.ensures.spare.0))

pub returns-in-Some-clause-room : goal.returns-in-Some-clause-room
returns-in-Some-clause-room g c =
    let same = c.in-Some.ensures ∙ eight_spelt c.args.start (map g.E.UnsignedPType.natural c.args.ends.now) c.eight_lengths-lengths.result c.eight_lengths-lengths.ensures.lengths in
    omega (arith, ap length same, c.in_ok-put_slice.ensures.spare)

pub returns-in_err-put_slice-2-clause-room : goal.returns-in_err-put_slice-2-clause-room
returns-in_err-put_slice-2-clause-room g c =
    let same = c.in-Some-two_bytes_at_most.ensures.bytes ∙ eight_spelt c.args.start (map g.E.UnsignedPType.natural c.args.ends.now) c.eight_lengths-lengths.result c.eight_lengths-lengths.ensures.lengths in
    refused _ _ _ _ c.from_residual-in_err-put_slice-2.ensures.0 (omega (arith, ap length same, c.in_err-put_slice-2.ensures.spare.0))

pub returns-in-Some-two_bytes_at_most-clause-room : goal.returns-in-Some-two_bytes_at_most-clause-room
returns-in-Some-two_bytes_at_most-clause-room g c =
    let same = c.in-Some-two_bytes_at_most.ensures.bytes ∙ eight_spelt c.args.start (map g.E.UnsignedPType.natural c.args.ends.now) c.eight_lengths-lengths.result c.eight_lengths-lengths.ensures.lengths in
    omega (arith, ap length same, c.in_ok-put_slice-2.ensures.spare)
