use Rattle.std.proofs.Common.{◌≡◌, map}
use Rattle.std.specs.Prelude.{unsigned_abs}
use Rattle.runend_windows.proofs.Decoded.{Decoded}
use Rattle.runend_windows.proofs.decode.decode_valid.Given as goal

abbrev pub invariant-loop-run : goal.invariant-loop-run
invariant-loop-run g l =
    record {
      rows : Decoded (map unsigned_abs (map g.E.NativePType.number l.ends)) l.values l.offset l.count l.run l.rows.rows;
      limit : l.rows.limit ≡ l.count;
    }
