-- The run columns that encodings of rows are.
use Rattle.std.specs.Prelude.{◌≡◌, List, Option, length}
use Rattle.column_base.specs.declared.dtype.DType.{DType}
use Rattle.column_base.specs.Types.{IsLeastFor}
use Rattle.column_core.specs.Value.{Value}
use Rattle.runend_windows.specs.Cover.{IsTightCover}
use Rattle.runend_windows.specs.Window.{last_end}
use Rattle.runend_array.specs.Column.{Column, OfLeaf, OfConstant, OfLists, OfRuns, Runs, column_dtype, column_rows}
use Rattle.runend_array.specs.Encoding.{IsComputedFlat}

-- a run column that is the encoding of rows of a type: their only tight exact cover, from the first row to the last,
-- with ends of the least unsigned type and flat values
pub record IsEncodedRows (rows : List (Option Value)) (wanted : DType) (runs : Runs) : Type 0 where
  pub cover : IsTightCover rows runs.ends (column_rows runs.values)
  pub offset : runs.offset ≡ 0
  pub count : runs.count ≡ length rows
  pub dtype : column_dtype runs.values ≡ wanted
  pub narrow : IsLeastFor (last_end runs.ends) runs.ends_type
  pub flat : IsComputedFlat runs.values

-- a constant
abbrev pub IsConstantForm : Column → Type 0
IsConstantForm (OfLeaf leaf) = ⊥
IsConstantForm (OfConstant constant) = Unit {0}
IsConstantForm (OfLists lists) = ⊥
IsConstantForm (OfRuns ends_type ends values offset count) = ⊥
