-- What encoders and decoders return.
use Rattle.std.specs.Prelude.{◌≡◌, List, length, Option, None}
use Rattle.column_base.specs.declared.dtype.PType.{PType}
use Rattle.column_base.specs.declared.dtype.PType.TheVariants.{U64}
use Rattle.column_base.specs.declared.dtype.DType.{DType}
use Rattle.column_base.specs.declared.dtype.DType.TheVariants as column
use Rattle.column_base.specs.Types.{IsLeastFor}
use Rattle.column_base.specs.ValidityForm.{NeverNull}
use Rattle.column_core.specs.Value.{Value}
use Rattle.column_core.specs.PrimitiveForm.{PrimitiveForm, primitive_dtype}
use Rattle.column_core.specs.Leaf.{OfNumbers}
use Rattle.column_core.specs.Computed.{IsComputedLeaf}
use Rattle.runend_windows.specs.Window.{last_end}
use Rattle.runend_windows.specs.Cover.{IsTightCover}
use Rattle.runend_windows.specs.Ends.{ends_of}
use Rattle.runend_windows.specs.Encoding.{HasNullsAlone, IsAllInvalid, number_rows}
use Rattle.runend_array.specs.Column.{Column, OfLeaf, OfConstant, OfLists, OfRuns, Runs, column_rows, column_dtype}

-- integers of this native type
abbrev pub IsNumbersOf : PType → DType → Type 0
IsNumbersOf ptype (column.Primitive t n) = t ≡ ptype
IsNumbersOf ptype t = ⊥

-- a plain column of integers
abbrev pub IsPlainNumbers : Column → Type 0
IsPlainNumbers (OfLeaf (OfNumbers form)) = Unit {0}
IsPlainNumbers c = ⊥

-- a flat form as a call computes it
abbrev pub IsComputedFlat : Column → Type 0
IsComputedFlat (OfLeaf leaf) = IsComputedLeaf leaf
IsComputedFlat (OfConstant constant) = ⊥
IsComputedFlat (OfLists lists) = Unit {0}
IsComputedFlat (OfRuns ends_type ends values offset count) = ⊥

-- the encoding of a flat column of integers: ends and values that are a tight exact cover of its rows. Ends are of the
-- least type that holds them, and values are flat; a column whose validity says that all of its rows are null has u64
-- ends and one constant null
pub record IsEncoding (array ends : PrimitiveForm) (values : Column) : Type 0 where
  pub cover : IsTightCover (number_rows array) (ends_of ends) (column_rows values)
  pub dtype : column_dtype values ≡ primitive_dtype array
  pub required : ends.validity ≡ NeverNull
  pub narrow : ¬ IsAllInvalid array → IsLeastFor (last_end (ends_of ends)) ends.ptype
  pub flat : ¬ IsAllInvalid array → IsComputedFlat values
  pub wide : IsAllInvalid array → ends.ptype ≡ U64
  pub null : IsAllInvalid array → values ≡ OfConstant (record { dtype = primitive_dtype array; value = None; count = 1 })

-- the run column of the encoding of a column
pub record IsEncoded (array : PrimitiveForm) (runs : Runs) : Type 0 where
  pub cover : IsTightCover (number_rows array) runs.ends (column_rows runs.values)
  pub window : (runs.offset ≡ 0) × (runs.count ≡ length (number_rows array))
  pub dtype : column_dtype runs.values ≡ primitive_dtype array
  pub narrow : ¬ IsAllInvalid array → IsLeastFor (last_end runs.ends) runs.ends_type
  pub flat : ¬ IsAllInvalid array → IsComputedFlat runs.values
  pub wide : IsAllInvalid array → runs.ends_type ≡ U64
  pub null : IsAllInvalid array → runs.values ≡ OfConstant (record { dtype = primitive_dtype array; value = None; count = 1 })

-- what only a plain column of integers has
abbrev pub IsEncodedColumn : Column → Runs → Type 0
IsEncodedColumn (OfLeaf (OfNumbers form)) runs = IsEncoded form runs
IsEncodedColumn c runs = ⊥

-- the form of a decoded column: a constant null exactly where there is a run value and each is null, else flat
abbrev pub IsDecodedForm : List (Option Value) → Column → Type 0
IsDecodedForm values (OfConstant constant) = HasNullsAlone values × (constant.value ≡ None)
IsDecodedForm values (OfLeaf leaf) = (¬ HasNullsAlone values) × IsComputedLeaf leaf
IsDecodedForm values (OfLists lists) = ⊥
IsDecodedForm values (OfRuns ends_type ends run_values offset count) = ⊥
