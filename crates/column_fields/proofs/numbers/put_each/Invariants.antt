use Rattle.std.proofs.Common.{◌≡◌, ◌+◌, ◌≤◌, ◌++◌, length, map, take, drop}
use Rattle.std.specs.List.{All}
use Rattle.column_base.specs.Types.{HasNumber}
use Rattle.column_fields.specs.NumberBytes.{numbers_bytes}
use Rattle.column_fields.specs.Kept.{StaysInFront}
use Rattle.column_fields.proofs.numbers.put_each.Given as goal

abbrev pub invariant-loop-item : goal.invariant-loop-item
invariant-loop-item g l = record {
  shows : (g.W.BufMut.written l.out) ≡ (g.W.BufMut.written l.fn.out) ++ numbers_bytes g.T.NativePType.PTYPE (map g.T.NativePType.number (take l.item-index l.items));
  fits : All (λ n. HasNumber g.T.NativePType.PTYPE n) (map g.T.NativePType.number (take l.item-index l.items));
  kept : StaysInFront (g.W.BufMut.written l.fn.out) (g.W.BufMut.written l.out);
  room : g.W.BufMut.spare l.fn.out + length (numbers_bytes g.T.NativePType.PTYPE (map g.T.NativePType.number (drop l.item-index l.items))) ≤ g.W.BufMut.spare l.out + length (numbers_bytes g.T.NativePType.PTYPE (map g.T.NativePType.number l.items));
}
