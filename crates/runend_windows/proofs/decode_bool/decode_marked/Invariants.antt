use Rattle.std.proofs.Common.{false, map}
use Rattle.std.specs.Prelude.{unsigned_abs}
use Rattle.column_core.specs.Optionals.{optionals}
use Rattle.runend_windows.specs.Encoding.{blanked}
use Rattle.runend_windows.proofs.FilledRows.{Filled}
use Rattle.runend_windows.proofs.decode_bool.decode_marked.Given as goal

abbrev pub invariant-loop-index : goal.invariant-loop-index
invariant-loop-index g l =
    let ends = map unsigned_abs (map g.E.NativePType.number l.ends) in
    record {
      rows : Filled ends (blanked false (optionals l.values l.marks)) l.offset l.count l.index l.start l.rows;
      flags : Filled ends l.marks l.offset l.count l.index l.valid l.flags;
    }
