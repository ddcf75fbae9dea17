-- Columns of lists that are made of what C passes.
use Rattle.std.specs.Prelude.{◌≡◌, ◌⊎◌, ℕ, List, length, Some, None}
use Rattle.std.specs.Global.{Global}
use Rattle.column_base.specs.declared.error.VortexError.{VortexError}
use Rattle.column_base.specs.ValidityForm.{ValidityForm}
use Rattle.runend_array.specs.Array.{column_of}
use Rattle.runend_array.specs.declared.array_ref.ArrayRef.{ArrayRef}
use Rattle.runend_column.specs.ListParts.{AreListsOver, ListsOverFault}
use Rattle.c_columns.specs.Bits.{validity_by, validity_fault}

-- lists over the elements of a column
abbrev pub ArePassedLists : List ℕ → List ℕ → ValidityForm → ArrayRef Global → ArrayRef Global → Type 0
ArePassedLists offsets sizes validity elements c = AreListsOver (column_of elements) offsets sizes validity (column_of c)

-- why there are none: there are fewer bits than rows, or else the fault of such parts
abbrev pub PassedListsFault : List ℕ → List ℕ → ℕ → List ℕ → ℕ → ArrayRef Global → VortexError → Type 0
PassedListsFault offsets sizes nulls bits first elements error =
    (validity_fault nulls bits first (length offsets) ≡ Some error)
    ⊎ ((validity_fault nulls bits first (length offsets) ≡ None) × ListsOverFault (column_of elements) offsets sizes (validity_by nulls bits first (length offsets)) error)
