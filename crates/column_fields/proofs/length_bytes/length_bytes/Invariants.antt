use Rattle.std.proofs.Common.{◌≡◌, ◌++◌, length, map, take, drop}
use Rattle.column_fields.specs.Lengths.{lengths_from}
use Rattle.column_fields.proofs.BlockLaws.{cut}
use Rattle.column_fields.proofs.length_bytes.length_bytes.Given as goal

-- the bytes so far, and what is left
abbrev pub invariant-loop-run : goal.invariant-loop-run
invariant-loop-run g l = record {
  long : length l.bytes ≡ 64;
  shows : take l.run l.bytes ++ cut (lengths_from (g.E.UnsignedPType.natural l.begin) (map g.E.UnsignedPType.natural (drop l.run l.ends))) ≡ cut (lengths_from (g.E.UnsignedPType.natural l.fn.start) (map g.E.UnsignedPType.natural l.ends));
}
