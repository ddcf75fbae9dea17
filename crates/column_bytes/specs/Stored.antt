-- Which forms have bytes: those that columns have.
use Rattle.std.specs.Prelude.{ℕ, ◌^◌, ◌<◌, All, List, length, FitsSigned}
use Rattle.std.specs.Int.{w128}
use Rattle.column_base.specs.Types.{HasNumber}
use Rattle.column_base.specs.declared.dtype.PType.{PType}
use Rattle.column_base.specs.ValidityForm.{HasLength, NeverNull}
use Rattle.column_core.specs.Leaf.{Leaf, OfNumbers, OfTruths, OfDecimals, OfVarBins}
use Rattle.column_core.specs.PrimitiveForm.{PrimitiveForm}
use Rattle.column_core.specs.BoolForm.{BoolForm, bool_with}
use Rattle.column_core.specs.DecimalForm.{DecimalForm}
use Rattle.column_fields.specs.DecimalFields.{IsDecimalType}
use Rattle.column_fields.specs.Lengths.{AreEndsOf}
use Rattle.column_bytes.specs.Bytes.{index_form}
use Rattle.column_bytes.specs.Values.{IsStoredScalar}
use Rattle.column_bytes.specs.Texts.{AreTexts}
use Rattle.runend_array.specs.Lists.{Index, PlainIndex, RunIndex, RowValidityForm, ByRows, ByRuns, Lists, AreLists}
use Rattle.runend_array.specs.Column.{Column, Constant, OfLeaf, OfConstant, OfLists, OfRuns, AreRuns, runs_with}

-- each number is one of the type, and the validity speaks of each row
pub record AreNumbers (form : PrimitiveForm) : Type 0 where
  pub fit : All (λ n. HasNumber form.ptype n) form.numbers
  pub counted : HasLength form.validity (length form.numbers)
  pub small : length form.numbers < 2 ^ 64

-- the validity speaks of each row
pub record AreTruths (form : BoolForm) : Type 0 where
  pub counted : HasLength form.validity (length form.bits)
  pub small : length form.bits < 2 ^ 64

-- precision, scale and numbers are those of native types, and the validity speaks of each row
pub record AreDecimals (form : DecimalForm) : Type 0 where
  pub typed : IsDecimalType form.decimal
  pub fit : All (λ n. FitsSigned w128 n) form.numbers
  pub counted : HasLength form.validity (length form.numbers)
  pub small : length form.numbers < 2 ^ 64

abbrev pub IsStoredLeaf : Leaf → Type 0
IsStoredLeaf (OfNumbers form) = AreNumbers form
IsStoredLeaf (OfTruths form) = AreTruths form
IsStoredLeaf (OfDecimals form) = AreDecimals form
IsStoredLeaf (OfVarBins form) = AreTexts form

-- the value is one of its type, or null where that has null
pub record IsStoredConstant (constant : Constant) : Type 0 where
  pub value : IsStoredScalar constant.dtype constant.value
  pub small : constant.count < 2 ^ 64

-- runs over a flat column that has bytes
pub record AreStoredRuns (ends_type : PType) (ends : List ℕ) (leaf : Leaf) (offset count : ℕ) : Type 0 where
  pub fit : AreEndsOf ends_type ends
  pub runs : AreRuns (runs_with ends_type ends (OfLeaf leaf) offset count)
  pub stored : IsStoredLeaf leaf

-- offsets or sizes that have bytes
abbrev pub IsStoredIndex : Index → Type 0
IsStoredIndex (PlainIndex numbers) = AreNumbers (index_form numbers)
IsStoredIndex (RunIndex ends_type ends numbers offset count) = AreStoredRuns ends_type ends (OfNumbers (index_form numbers)) offset count

-- a validity that has bytes
abbrev pub IsStoredValidity : RowValidityForm → Type 0
IsStoredValidity (ByRows form) = Unit {0}
IsStoredValidity (ByRuns ends_type ends bits offset count) = AreStoredRuns ends_type ends (OfTruths (bool_with bits NeverNull)) offset count

-- lists, each part of which has bytes
pub record AreStoredLists (lists : Lists) : Type 0 where
  pub elements : IsStoredLeaf lists.elements
  pub offsets : IsStoredIndex lists.offsets
  pub sizes : IsStoredIndex lists.sizes
  pub validity : IsStoredValidity lists.validity
  pub are : AreLists lists

-- flat columns, lists, constants, and runs over columns that have bytes
abbrev pub IsStored : Column → Type 0
IsStored (OfLeaf leaf) = IsStoredLeaf leaf
IsStored (OfConstant constant) = IsStoredConstant constant
IsStored (OfLists lists) = AreStoredLists lists
IsStored (OfRuns ends_type ends values offset count) = AreEndsOf ends_type ends × AreRuns (runs_with ends_type ends values offset count) × IsStored values
