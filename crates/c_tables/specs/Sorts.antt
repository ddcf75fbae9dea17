-- Tables with their rows in another order, by names and flags that C passes.
use Rattle.std.specs.Prelude.{◌≡◌, ◌/◌, ◌%◌, ℕ, List, Option, None, length, map, nat_eq}
use Rattle.std.specs.Global.{Global}
use Rattle.std.specs.Option.{option_or}
use Rattle.column_base.specs.declared.dtype.DType.{DType}
use Rattle.column_base.specs.declared.error.VortexError.{VortexError}
use Rattle.column_core.specs.Refusal.{first_fault}
use Rattle.column_ops.specs.CompareFault.{length_fault}
use Rattle.runend_array.specs.Array.{dtype_of, rows}
use Rattle.runend_array.specs.declared.array_ref.ArrayRef.{ArrayRef}
use Rattle.row_groups.specs.declared.keys.RowOrder.{RowOrder}
use Rattle.c_tables.specs.TableCalls.{IsNamesRefusal, names_in, row_name_fault, text_fault}
use Rattle.tables.specs.KeyFaults.{IsKeysError}
use Rattle.tables.specs.Sorting.{IsSorting, KeyForm}
use Rattle.tables.specs.Tables.{IsKept, TableForm}
use Rattle.tables.specs.declared.fault.TableError.{TableError}

-- the order that a number says: its lowest bit that greater rows come first, the next one that nulls come last
abbrev pub order_by : ℕ → RowOrder
order_by flags = record { descending = nat_eq (flags % 2) 1; nulls_last = nat_eq (flags / 2 % 2) 1 }

-- why names do not suit this number of flags: they are not texts, or of another number
abbrev pub shape_fault : DType → ℕ → ℕ → Option VortexError
shape_fault dtype names count = option_or (text_fault dtype) (length_fault names count)

-- the same, or a row has no name
abbrev pub keys_fault : ArrayRef Global → List ℕ → Option VortexError
keys_fault names flags = option_or (shape_fault (dtype_of names) (length (rows names)) (length flags)) (first_fault row_name_fault (rows names))

-- the rows of a table in the stable order by the columns of the names in a column, each in the order of its flags
pub record IsSortedBy (names : ArrayRef Global) (flags : List ℕ) (before after : TableForm) : Type 0 where
  pub accepted : keys_fault names flags ≡ None
  pub keys : List KeyForm
  pub named : map (λ key. key.name) keys ≡ names_in names
  pub ordered : map (λ key. key.order) keys ≡ map order_by flags
  pub sorted : IsSorting before keys after
  pub count : after.count ≡ before.count
  pub kept : IsKept before after

-- why they are not put in order: for the names and flags, then as a table is not sorted by these names, or for memory
abbrev pub IsSortRefusal : ArrayRef Global → List ℕ → TableForm → TableError → Type 0
IsSortRefusal names flags t error = IsNamesRefusal (keys_fault names flags) (IsKeysError t (names_in names)) error
