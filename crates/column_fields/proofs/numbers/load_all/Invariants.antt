use Rattle.std.proofs.Common.{◌≡◌, ◌+◌, ◌*◌, ◌++◌, map, length, vec_len, vec_capacity}
use Rattle.std.specs.List.{All}
use Rattle.column_base.specs.Types.{HasNumber}
use Rattle.column_fields.specs.NumberBytes.{numbers_bytes, size_of}
use Rattle.column_fields.proofs.numbers.load_all.Given as goal

abbrev pub invariant-loop-row : goal.invariant-loop-row
invariant-loop-row g l = record {
  shows : numbers_bytes g.T.NativePType.PTYPE (map g.T.NativePType.number l.items.items) ++ l.rest ≡ l.bytes;
  left : length l.rest + l._row * size_of g.T.NativePType.PTYPE ≡ l.count * size_of g.T.NativePType.PTYPE;
  len : vec_len l.items ≡ l._row;
  room : vec_capacity l.items ≡ l.count;
  fits : All (λ n. HasNumber g.T.NativePType.PTYPE n) (map g.T.NativePType.number l.items.items);
}
