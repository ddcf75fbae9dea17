use Rattle.std.proofs.Common.{◌≡◌, ◌+◌, ◌++◌, map, take, vec_capacity, vec_len}
use Rattle.runend_builder.specs.Encodings.{behind}
use Rattle.runend_builder.proofs.ends.push_stored.Given as goal

abbrev pub invariant-loop-end : goal.invariant-loop-end
invariant-loop-end g l = record {
  pushed : l.ends.items ≡ l.fn.ends.items ++ behind l.count (map g.E.UnsignedPType.natural (take l.end-index l.part));
  len : vec_len l.ends ≡ vec_len l.fn.ends + l.end-index;
  room : vec_capacity l.ends ≡ vec_capacity l.fn.ends;
}
