use Rattle.std.proofs.Common.{◌≡◌, length, max, pos, map, take, drop}
use Rattle.std.specs.List.{All}
use Rattle.column_base.specs.Types.{HasNumber}
use Rattle.column_fields.specs.Lengths.{greatest, lengths_from}
use Rattle.column_fields.proofs.length_sizes.longest_run.Given as goal

abbrev pub invariant-loop-stop : goal.invariant-loop-stop
invariant-loop-stop g l = record {
  longest : max (g.E.UnsignedPType.natural l.longest) (greatest (lengths_from (g.E.UnsignedPType.natural l.begin) (map g.E.UnsignedPType.natural (drop l.stop-index l.ends)))) ≡ greatest (lengths_from (g.E.UnsignedPType.natural l.fn.start) (map g.E.UnsignedPType.natural l.ends));
  fits : All (λ end. HasNumber g.E.NativePType.PTYPE (pos end)) (map g.E.UnsignedPType.natural (take l.stop-index l.ends));
}
