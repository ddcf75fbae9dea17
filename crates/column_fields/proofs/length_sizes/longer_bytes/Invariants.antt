use Rattle.std.proofs.Common.{◌≡◌, ◌+◌, ◌*◌, ◌≤◌, length, map, drop}
use Rattle.column_fields.specs.Lengths.{lengths_bytes}
use Rattle.column_fields.proofs.length_sizes.longer_bytes.Given as goal

abbrev pub invariant-loop-stop : goal.invariant-loop-stop
invariant-loop-stop g l = record {
  counted : l.longer + l.stop-index + length (lengths_bytes (g.E.UnsignedPType.natural l.begin) (map g.E.UnsignedPType.natural (drop l.stop-index l.ends))) ≡ length (lengths_bytes (g.E.UnsignedPType.natural l.fn.start) (map g.E.UnsignedPType.natural l.ends));
  small : l.longer ≤ l.stop-index * 9;
}
