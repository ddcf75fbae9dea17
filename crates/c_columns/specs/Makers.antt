-- Columns that are made of what C passes.
use Rattle.std.specs.Prelude.{◌≡◌, ◌⊎◌, ℕ, zero, suc, ◌+◌, ◌^◌, ◌<◌, ◌≤◌, ℤ, pos, List, [], ◌∷◌, Bool, length, map, slice_index_or, Some, None}
use Rattle.std.specs.Global.{Global}
use Rattle.column_base.specs.declared.dtype.PType.{PType}
use Rattle.column_base.specs.declared.dtype.DType.{DType}
use Rattle.column_base.specs.declared.dtype.DecimalDType.{DecimalDType}
use Rattle.column_base.specs.declared.dtype.Nullability.TheVariants.{NonNullable}
use Rattle.column_base.specs.Types.{nullability_of}
use Rattle.column_base.specs.declared.error.VortexError.{VortexError}
use Rattle.column_base.specs.declared.error.VortexError.TheVariants.{EndsNotStrict, NoRunsWindow, NullNotAllowed, TypeMismatch}
use Rattle.column_base.specs.ValidityForm.{ValidityForm}
use Rattle.column_core.specs.PrimitiveForm.{primitive_with}
use Rattle.column_core.specs.BoolForm.{bool_with}
use Rattle.column_core.specs.DecimalForm.{decimal_with}
use Rattle.column_core.specs.VarBinForm.{varbin_with, zero_view}
use Rattle.column_core.specs.VarBinFault.{VarBinFault}
use Rattle.column_core.specs.Leaf.{OfNumbers, OfTruths, OfDecimals, OfVarBins}
use Rattle.column_core.specs.declared.varbinview.View.{View}
use Rattle.column_core.specs.declared.varbinview.VarBinKind.{VarBinKind}
use Rattle.runend_array.specs.Column.{Column, OfConstant, OfLeaf, Runs, runs_of, column_of_runs, AreParts}
use Rattle.runend_array.specs.Array.{column_of}
use Rattle.runend_array.specs.declared.array_ref.ArrayRef.{ArrayRef}
use Rattle.runend_column.specs.Fault.{IsRecordedColumn}
use Rattle.c_columns.specs.Bits.{validity_by, validity_fault}
use Rattle.c_columns.specs.Pairs.{number_in}
use Rattle.c_columns.specs.Values.{IsPassedIn, value_in}
use Rattle.c_columns.specs.declared.row_value.RowValue.{RowValue}
use Rattle.c_columns.specs.declared.pairs.Pair.{Pair}

-- the flat column of these numbers
abbrev pub IsFlatOf : PType → List ℤ → ValidityForm → ArrayRef Global → Type 0
IsFlatOf ptype numbers validity c = column_of c ≡ OfLeaf (OfNumbers (primitive_with ptype numbers validity))

-- the flat column of these booleans
abbrev pub AreTruthsOf : List Bool → ValidityForm → ArrayRef Global → Type 0
AreTruthsOf truths validity c = column_of c ≡ OfLeaf (OfTruths (bool_with truths validity))

-- the flat column of these decimals
abbrev pub AreDecimalsOf : DecimalDType → List Pair → ValidityForm → ArrayRef Global → Type 0
AreDecimalsOf decimal pairs validity c = column_of c ≡ OfLeaf (OfDecimals (decimal_with decimal (map number_in pairs) validity))

-- view k is from offset k to offset k + 1 of the one buffer
pub record AreCuts (offsets : List ℤ) (views : List View) : Type 0 where
  pub count : length offsets ≡ length views + 1
  pub buffers : (k : ℕ) → k < length views → (slice_index_or views k zero_view).buffer ≡ 0
  pub starts : (k : ℕ) → k < length views → pos ((slice_index_or views k zero_view).start) ≡ slice_index_or offsets k (pos 0)
  pub stops : (k : ℕ) → k < length views → pos ((slice_index_or views k zero_view).start + (slice_index_or views k zero_view).size) ≡ slice_index_or offsets (k + 1) (pos 0)

-- the flat column of texts or bytes that lie one after the other
pub record AreTextsOf (kind : VarBinKind) (offsets : List ℤ) (bytes : List ℕ) (validity : ValidityForm) (c : ArrayRef Global) : Type 0 where
  pub views : List View
  pub cuts : AreCuts offsets views
  pub is : column_of c ≡ OfLeaf (OfVarBins (varbin_with kind views (bytes ∷ []) validity))

-- bytes that begin and stop where a `usize` says, and do not stop before they begin
pub record IsCut (start stop : ℤ) : Type 0 where
  pub from : ℕ
  pub to : ℕ
  pub begins : start ≡ pos from
  pub stops : stop ≡ pos to
  pub order : from ≤ to
  pub numbered : to < 2 ^ 64

-- row k is cut from offset k to offset k + 1
abbrev pub IsRowCut : List ℤ → ℕ → Type 0
IsRowCut offsets row = IsCut (slice_index_or offsets row (pos 0)) (slice_index_or offsets (row + 1) (pos 0))

-- the first row that is none
pub record IsFirstUncut (offsets : List ℤ) (row : ℕ) : Type 0 where
  pub there : row + 1 < length offsets
  pub uncut : ¬ IsRowCut offsets row
  pub before : (k : ℕ) → k < row → IsRowCut offsets k

-- why offsets cut no rows: no offset is given, or an offset is negative or below the one before
abbrev pub CutsFault : List ℤ → VortexError → Type 0
CutsFault offsets (NoRunsWindow offset count) = (length offsets ≡ 0) × (offset ≡ 0) × (count ≡ 0)
CutsFault offsets (EndsNotStrict row) = IsFirstUncut offsets row
CutsFault offsets error = ⊥

-- why rows that are cut are not a flat column: there are fewer bits than rows, or else the first fault of such parts
pub record IsCutFault (kind : VarBinKind) (offsets : List ℤ) (bytes : List ℕ) (nulls : ℕ) (bits : List ℕ) (first : ℕ) (error : VortexError) : Type 0 where
  pub views : List View
  pub cuts : AreCuts offsets views
  pub is : (validity_fault nulls bits first (length views) ≡ Some error)
      ⊎ ((validity_fault nulls bits first (length views) ≡ None) × VarBinFault (varbin_with kind views (bytes ∷ []) (validity_by nulls bits first (length views))) error)

-- the first fault of texts or bytes that lie one after the other
abbrev pub TextsFault : VarBinKind → List ℤ → List ℕ → ℕ → List ℕ → ℕ → VortexError → Type 0
TextsFault kind offsets bytes nulls bits first error = CutsFault offsets error ⊎ IsCutFault kind offsets bytes nulls bits first error

-- a copy in the same form
abbrev pub IsCopyOf : ArrayRef Global → ArrayRef Global → Type 0
IsCopyOf c d = column_of d ≡ column_of c

-- the run column of these parts, which are such
abbrev pub IsRunColumnOf : Column → Column → ℕ → ℕ → Column → Type 0
IsRunColumnOf ends values offset count c = AreParts ends values offset count × (c ≡ column_of_runs (runs_of ends values offset count))

abbrev pub AreRunsOf : ℕ → ℕ → ArrayRef Global → ArrayRef Global → ArrayRef Global → Type 0
AreRunsOf offset count ends values c = IsRunColumnOf (column_of ends) (column_of values) offset count (column_of c)

-- the run column of these parts by the record that the bytes spell
pub record AreRecordedRuns (bytes : List ℕ) (dtype : DType) (count : ℕ) (ends values c : ArrayRef Global) : Type 0 where
  pub runs : Runs
  pub recorded : IsRecordedColumn bytes dtype count (column_of ends) (column_of values) runs
  pub is : column_of c ≡ column_of_runs runs

-- one value of a type, in each of `count` rows
abbrev pub IsConstantOf : DType → RowValue → List ℕ → ℕ → ArrayRef Global → Type 0
IsConstantOf dtype value text count c = column_of c ≡ OfConstant (record { dtype = dtype; value = value_in value.kind value text; count = count })

-- why there is not such a column: null in a type without null, or a value that is not of the type
abbrev pub IsNoValueOf : DType → ℕ → RowValue → List ℕ → VortexError → Type 0
IsNoValueOf dtype zero value text error = (error ≡ NullNotAllowed) × (nullability_of dtype ≡ NonNullable)
IsNoValueOf dtype (suc k) value text error = (error ≡ TypeMismatch) × (¬ IsPassedIn dtype (suc k) value text)

abbrev pub ConstantFault : DType → RowValue → List ℕ → VortexError → Type 0
ConstantFault dtype value text error = IsNoValueOf dtype value.kind value text error
