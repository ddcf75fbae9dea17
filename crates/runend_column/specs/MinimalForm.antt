-- Run columns of integers in minimal form.
use Rattle.std.specs.Prelude.{◌≡◌}
use Rattle.column_base.specs.declared.dtype.PType.{PType}
use Rattle.column_base.specs.declared.dtype.DType.{DType}
use Rattle.column_base.specs.declared.dtype.DType.TheVariants as column
use Rattle.runend_windows.specs.Cover.{IsTightCover}
use Rattle.runend_array.specs.Column.{Column, OfLeaf, OfConstant, OfLists, OfRuns, Runs, column_of_runs, column_rows, runs_with}
use Rattle.runend_array.specs.Encoding.{IsComputedFlat}
use Rattle.runend_column.specs.VisibleForm.{IsOverVisibleRuns}

-- minimal form: the tight exact cover of its own rows, with ends of this type and flat values
pub record AreMinimalRuns (wanted : PType) (part : Runs) : Type 0 where
  pub cover : IsTightCover (column_rows (column_of_runs part)) part.ends (column_rows part.values)
  pub offset : part.offset ≡ 0
  pub ends_type : part.ends_type ≡ wanted
  pub values : IsComputedFlat part.values

-- a column in minimal form: it is a run column
abbrev pub IsMinimalForm : PType → Column → Type 0
IsMinimalForm wanted (OfLeaf leaf) = ⊥
IsMinimalForm wanted (OfConstant constant) = ⊥
IsMinimalForm wanted (OfLists lists) = ⊥
IsMinimalForm wanted (OfRuns ends_type ends values offset count) = AreMinimalRuns wanted (runs_with ends_type ends values offset count)

-- what a kernel makes of the values of runs, by their type: integers in minimal form, and other values over the
-- visible runs
abbrev pub IsRunForm : DType → Runs → Column → Type 0
IsRunForm (column.Primitive t n) whole part = IsMinimalForm whole.ends_type part
IsRunForm (column.Bool n) whole part = IsOverVisibleRuns whole part
IsRunForm (column.Decimal d n) whole part = IsOverVisibleRuns whole part
IsRunForm (column.Utf8 n) whole part = IsOverVisibleRuns whole part
IsRunForm (column.Binary n) whole part = IsOverVisibleRuns whole part
IsRunForm (column.List e n) whole part = IsOverVisibleRuns whole part
