-- No column so far has lists.
use Rattle.std.proofs.Common.{◌≡◌, None, map, take}
use Rattle.column_core.specs.Kinds.{list_fault}
use Rattle.column_core.specs.Refusal.{first_fault}
use Rattle.tables.proofs.Worked.{dtype_in}
use Rattle.tables.proofs.joined.first_list_fault.Given as goal

abbrev pub invariant-loop-column : goal.invariant-loop-column
invariant-loop-column g l = first_fault list_fault (take l.column-index (map dtype_in l.columns)) ≡ None
