-- A bit for each row so far: whether it is not null.
use Rattle.std.proofs.Common.{◌≡◌, map, take}
use Rattle.std.specs.Prelude.{is_some}
use Rattle.runend_array.specs.Array.{rows}
use Rattle.tables.proofs.valid.valid_lists.Given as goal

abbrev pub invariant-loop-row : goal.invariant-loop-row
invariant-loop-row g l = l.bits ≡ map is_some (take l.row (rows l.column))
