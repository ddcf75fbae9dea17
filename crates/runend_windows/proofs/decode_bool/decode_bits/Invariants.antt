use Rattle.std.proofs.Common.{map}
use Rattle.std.specs.Prelude.{unsigned_abs}
use Rattle.runend_windows.proofs.FilledRows.{Filled}
use Rattle.runend_windows.proofs.decode_bool.decode_bits.Given as goal

abbrev pub invariant-loop-index : goal.invariant-loop-index
invariant-loop-index g l = Filled (map unsigned_abs (map g.E.NativePType.number l.ends)) l.values l.offset l.count l.index l.start l.rows
