use Rattle.std.proofs.Common.{length, map}
use Rattle.std.specs.Prelude.{unsigned_abs}
use Rattle.column_base.specs.Validity.{validity_flags}
use Rattle.runend_windows.proofs.Decoded.{Decoded}
use Rattle.runend_windows.proofs.decode.decode_flags.Given as goal

abbrev pub invariant-loop-run : goal.invariant-loop-run
invariant-loop-run g l = Decoded (map unsigned_abs (map g.E.NativePType.number l.ends)) (validity_flags l.validity (length l.ends)) l.offset l.count l.run l.rows
