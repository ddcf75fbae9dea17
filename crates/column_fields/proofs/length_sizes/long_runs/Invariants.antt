use Rattle.std.proofs.Common.{◌≡◌, ◌+◌, ◌≤◌, map, drop}
use Rattle.std.specs.Prelude.{nat_le}
use Rattle.std.specs.List.{count_by}
use Rattle.column_fields.specs.Lengths.{lengths_from}
use Rattle.column_fields.proofs.length_sizes.long_runs.Given as goal

abbrev pub invariant-loop-stop : goal.invariant-loop-stop
invariant-loop-stop g l = record {
  counted : l.long + count_by (nat_le 128) (lengths_from (g.E.UnsignedPType.natural l.begin) (map g.E.UnsignedPType.natural (drop l.stop-index l.ends))) ≡ count_by (nat_le 128) (lengths_from (g.E.UnsignedPType.natural l.fn.start) (map g.E.UnsignedPType.natural l.ends));
  small : l.long ≤ l.stop-index;
}
