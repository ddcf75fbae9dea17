use Rattle.std.proofs.Common.{◌∙◌, ap, map, List, ℕ, ◌++◌, arith, length}
use Rattle.column_fields.proofs.BlockLaws.{block_spelt}
use Rattle.column_fields.proofs.RoomLaws.{refused}
use Rattle.column_fields.proofs.lengths.put_block.Goals as goal

pub returns-in_err-put_slice-clause-room : goal.returns-in_err-put_slice-clause-room
returns-in_err-put_slice-clause-room g c =
    let natural = g.E.UnsignedPType.natural in
    let same = block_spelt (natural c.args.start) (map natural c.args.ends.now) c.length_bytes-bytes.result c.length_bytes-bytes.ensures (c.are_varints.ensures.0 c.if-are_varints.true) in
    refused _ _ _ _ c.from_residual.ensures.0 (omega (arith, ap length same, c.in_err-put_slice.ensures.spare.0))

pub returns-then-are_varints-clause-ok : goal.returns-then-are_varints-clause-ok
returns-then-are_varints-clause-ok g c =
    let natural = g.E.UnsignedPType.natural in
    let same = block_spelt (natural c.args.start) (map natural c.args.ends.now) c.length_bytes-bytes.result c.length_bytes-bytes.ensures (c.are_varints.ensures.0 c.if-are_varints.true) in
    c.in_ok-put_slice.ensures.ok ∙ ap (λ (b : List ℕ). g.W.BufMut.written c.args.out.now ++ b) same

pub returns-then-are_varints-clause-room : goal.returns-then-are_varints-clause-room
returns-then-are_varints-clause-room g c =
    let natural = g.E.UnsignedPType.natural in
    let same = block_spelt (natural c.args.start) (map natural c.args.ends.now) c.length_bytes-bytes.result c.length_bytes-bytes.ensures (c.are_varints.ensures.0 c.if-are_varints.true) in
    omega (arith, ap length same, c.in_ok-put_slice.ensures.spare)
