-- The indices before this place have no fault.
use Rattle.std.proofs.Common.{◌≡◌, None, take}
use Rattle.column_core.specs.PrimitiveForm.{optional_numbers}
use Rattle.column_ops.specs.Take.{take_fault}
use Rattle.tables.proofs.refusals.fault_of_indices.Given as goal

abbrev pub invariant-loop-place : goal.invariant-loop-place
invariant-loop-place g l = record { sound : take_fault (take l.place (optional_numbers l.indices)) l.count ≡ None }
