-- The pieces of the stretches so far are there.
use Rattle.std.proofs.Common.{◌≡◌, length, take}
use Rattle.runend_array.specs.Lists.{list_rows}
use Rattle.row_stretches.specs.Copies.{AreCopies}
use Rattle.row_stretches.specs.Stretches.{stretch_places, stretch_rows}
use Rattle.row_stretches.proofs.lists.pieces_of_lists.Given as goal

abbrev pub invariant-loop-stretch : goal.invariant-loop-stretch
invariant-loop-stretch g l =
    let all = list_rows l.fn.lists in
    record {
      copies : AreCopies all (stretch_rows all (take l.stretch-index l.fn.order)) l.pieces.ends.items l.pieces.runs.items l.pieces.count;
      counted : l.pieces.count ≡ length (stretch_places (take l.stretch-index l.fn.order));
    }
