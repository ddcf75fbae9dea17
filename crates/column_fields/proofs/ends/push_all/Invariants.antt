use Rattle.std.proofs.Common.{◌≡◌, ◌+◌, ◌++◌, map, take, vec_len, vec_capacity}
use Rattle.column_fields.proofs.ends.push_all.Given as goal

abbrev pub invariant-loop-number : goal.invariant-loop-number
invariant-loop-number g l = record {
  shows : map g.E.UnsignedPType.natural l.ends.items ≡ map g.E.UnsignedPType.natural l.fn.ends.items ++ take l.number-index l.numbers;
  len : vec_len l.ends ≡ vec_len l.fn.ends + l.number-index;
  room : vec_capacity l.ends ≡ vec_capacity l.fn.ends;
}
