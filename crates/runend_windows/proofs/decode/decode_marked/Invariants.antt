use Rattle.std.proofs.Common.{◌≡◌, length, map}
use Rattle.std.specs.Prelude.{unsigned_abs}
use Rattle.column_core.specs.Optionals.{optionals}
use Rattle.runend_windows.specs.Encoding.{blanked}
use Rattle.runend_windows.proofs.Decoded.{Decoded, reached}
use Rattle.runend_windows.proofs.Marked.{Marked}
use Rattle.runend_windows.proofs.decode.decode_marked.Given as goal

abbrev pub invariant-loop-run : goal.invariant-loop-run
invariant-loop-run g l =
    let ends = map unsigned_abs (map g.E.NativePType.number l.ends) in
    record {
      rows : Decoded ends (blanked l.blank (optionals l.values l.marks)) l.offset l.count l.run l.rows.rows;
      limit : l.rows.limit ≡ l.count;
      marked : Marked ends l.marks l.offset l.count l.run l.bits;
      long : length l.bits ≡ l.count;
      start : l.start ≡ reached ends l.offset l.count l.run;
    }
