-- The pieces of the stretches so far are there.
use Rattle.std.proofs.Common.{◌≡◌, length, map, take}
use Rattle.std.specs.Prelude.{unsigned_abs}
use Rattle.row_stretches.specs.Pieces.{AreCut, runs_of}
use Rattle.row_stretches.specs.Stretches.{stretch_places, stretch_rows}
use Rattle.row_stretches.proofs.pieces.pieces_in.Given as goal

abbrev pub invariant-loop-stretch : goal.invariant-loop-stretch
invariant-loop-stretch g l =
    let ends = map unsigned_abs (map g.E.NativePType.number l.fn.ends) in
    record {
      cut : AreCut (length ends) (stretch_rows (runs_of ends l.fn.offset l.fn.count) (take l.stretch-index l.fn.order)) l.pieces.ends.items l.pieces.runs.items l.pieces.count;
      counted : l.pieces.count ≡ length (stretch_places (take l.stretch-index l.fn.order));
    }
