-- Running totals of a column in a handle: what is made of it, and how the call ends.
use Rattle.std.specs.Prelude.{◌≡◌, ◌⊎◌, ℕ, ℤ, pos, map, Option, Some, None}
use Rattle.std.specs.Global.{Global}
use Rattle.column_base.specs.declared.dtype.DType.TheVariants as column
use Rattle.column_base.specs.declared.dtype.Nullability.TheVariants.{Nullable}
use Rattle.column_core.specs.Computed.{IsComputed}
use Rattle.column_core.specs.Leaf.{OfNumbers}
use Rattle.column_core.specs.PrimitiveForm.{PrimitiveForm, optional_numbers, primitive_dtype}
use Rattle.column_sums.specs.SumAnswer.{number_in}
use Rattle.runend_array.specs.Array.{column_of, dtype_of, rows}
use Rattle.runend_array.specs.Column.{OfLeaf}
use Rattle.runend_array.specs.declared.array_ref.ArrayRef.{ArrayRef}
use Rattle.runend_pairs.specs.GroupFaults.{numbers_fault}
use Rattle.runend_pairs.specs.Sums.{sum_of, summed_ptype}
use Rattle.runend_pairs.specs.Totals.{AreRunEnds, AreRunningAnswers, IsFirstLargeTotal}
use Rattle.runend_pairs.specs.declared.total_fault.TotalError.{TotalError}
use Rattle.runend_pairs.specs.declared.total_fault.TotalError.TheVariants.{Overflow, Refused}
use Rattle.runend_windows.specs.Ends.{ends_of}
use Rattle.c_columns.specs.Ending.{AreFields, IsRefusedAs}
use Rattle.c_columns.specs.declared.error_fields.ErrorFields.{ErrorFields}
use Rattle.c_kernels.specs.Floats.{EndsFirstBy}

-- two flat columns: where the runs of equal neighbouring rows end, and for each run the sum of all rows before its end
pub record AreTotals (numbers ends totals : ArrayRef Global) : Type 0 where
  pub stops : PrimitiveForm
  pub sums : PrimitiveForm
  pub ends_form : column_of ends ≡ OfLeaf (OfNumbers stops)
  pub runs : AreRunEnds (rows numbers) (dtype_of numbers) stops
  pub totals_form : column_of totals ≡ OfLeaf (OfNumbers sums)
  pub answers : AreRunningAnswers sum_of (ends_of stops) (map number_in (rows numbers)) (optional_numbers sums)
  pub dtype : primitive_dtype sums ≡ column.Primitive (summed_ptype (dtype_of numbers)) Nullable
  pub computed : IsComputed sums

-- a refusal by its number and its fields: with 14, and the run as the first field, for a total that does not fit
abbrev pub IsTotalError : TotalError → ℤ → ErrorFields → Type 0
IsTotalError (Refused error) code fields = IsRefusedAs error code fields
IsTotalError (Overflow run) code fields = (code ≡ pos 14) × AreFields fields run 0 0

-- a column of integers is refused with the first run at whose end the total does not fit
pub record EndsByLargeTotal (column : ArrayRef Global) (code : ℤ) (fields : ErrorFields) : Type 0 where
  pub run : ℕ
  pub none : numbers_fault (dtype_of column) ≡ None
  pub large : IsFirstLargeTotal (dtype_of column) (rows column) run
  pub reported : IsTotalError (Overflow run) code fields

-- how the call ends: with 22 where the handle is empty; by the fault of the type, and then it is never out of memory
abbrev pub EndsOnTotals : Option (ArrayRef Global) → ℤ → ErrorFields → Type 0
EndsOnTotals None code fields = code ≡ pos 22
EndsOnTotals (Some c) code fields = EndsFirstBy (numbers_fault (dtype_of c)) code fields ⊎ EndsByLargeTotal c code fields
