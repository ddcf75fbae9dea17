-- Columns of lists: made of elements, offsets and sizes, and taken apart.
use Rattle.std.specs.Prelude.{◌≡◌, ℕ, List, Bool, true, false, Option, Some, None}
use Rattle.column_base.specs.declared.dtype.Nullability.TheVariants.{NonNullable}
use Rattle.column_base.specs.declared.dtype.DType.TheVariants as column
use Rattle.column_base.specs.declared.error.VortexError.{VortexError}
use Rattle.column_base.specs.declared.error.VortexError.TheVariants.{Unsupported}
use Rattle.column_base.specs.ValidityForm.{ValidityForm, NeverNull, NoneNull, AllNull, ByBits}
use Rattle.column_core.specs.Value.{Truth}
use Rattle.column_core.specs.BoolForm.{bool_with}
use Rattle.column_core.specs.Leaf.{Leaf, OfTruths}
use Rattle.runend_array.specs.Lists.{AreLists, PlainIndex, RowValidityForm, ByRows, ByRuns, Lists, Index, list_count, lists_with}
use Rattle.runend_array.specs.Column.{Column, OfLeaf, OfConstant, OfLists, OfRuns, IsIndex, index_of}
use Rattle.runend_array.specs.Fault.{ListsFault}

-- lists over these elements: row i has as many as size i says, from offset i on
abbrev pub lists_of_parts : Leaf → List ℕ → List ℕ → ValidityForm → Lists
lists_of_parts elements offsets sizes validity = lists_with elements (PlainIndex offsets) (PlainIndex sizes) (ByRows validity)

-- the column has such lists, over elements that are flat
pub record AreListsIn (elements : Leaf) (offsets sizes : List ℕ) (validity : ValidityForm) (c : Column) : Type 0 where
  pub lists : AreLists (lists_of_parts elements offsets sizes validity)
  pub is : c ≡ OfLists (lists_of_parts elements offsets sizes validity)

abbrev pub AreListsOver : Column → List ℕ → List ℕ → ValidityForm → Column → Type 0
AreListsOver (OfLeaf elements) offsets sizes validity c = AreListsIn elements offsets sizes validity c
AreListsOver elements offsets sizes validity c = ⊥

-- why these are not the parts of lists: the elements are not flat, or the parts have a fault
abbrev pub ListsOverFault : Column → List ℕ → List ℕ → ValidityForm → VortexError → Type 0
ListsOverFault (OfLeaf elements) offsets sizes validity error = ListsFault (lists_of_parts elements offsets sizes validity) error
ListsOverFault elements offsets sizes validity error = error ≡ Unsupported

-- only a column that lies as lists is taken apart
abbrev pub no_lists_fault : Column → Option VortexError
no_lists_fault (OfLeaf leaf) = Some Unsupported
no_lists_fault (OfConstant constant) = Some Unsupported
no_lists_fault (OfLists lists) = None
no_lists_fault (OfRuns ends_type ends values offset count) = Some Unsupported

-- the column has these elements
abbrev pub AreElementsOf : Column → Column → Type 0
AreElementsOf (OfLists lists) c = c ≡ OfLeaf lists.elements
AreElementsOf lists c = ⊥

-- the column has these offsets or sizes
pub record IsIndexIn (numbers : Index) (c : Column) : Type 0 where
  pub index : IsIndex c
  pub is : index_of c ≡ numbers

-- the column has these offsets or sizes, flat
abbrev pub IsIndexOf : List ℕ → Column → Type 0
IsIndexOf numbers c = IsIndexIn (PlainIndex numbers) c

abbrev pub AreOffsetsOf : Column → Column → Type 0
AreOffsetsOf (OfLists lists) c = IsIndexIn lists.offsets c
AreOffsetsOf lists c = ⊥

abbrev pub AreSizesOf : Column → Column → Type 0
AreSizesOf (OfLists lists) c = IsIndexIn lists.sizes c
AreSizesOf lists c = ⊥

-- one boolean for this number of rows
abbrev pub same_flags : Bool → ℕ → Column
same_flags flag count = OfConstant (record { dtype = column.Bool NonNullable; value = Some (Truth flag); count = count })

-- booleans without null
abbrev pub truths_column : List Bool → Column
truths_column bits = OfLeaf (OfTruths (bool_with bits NeverNull))

-- whether each of a number of rows is valid, as a column
abbrev pub flags_column : RowValidityForm → ℕ → Column
flags_column (ByRows NeverNull) rows = same_flags true rows
flags_column (ByRows NoneNull) rows = same_flags true rows
flags_column (ByRows AllNull) rows = same_flags false rows
flags_column (ByRows (ByBits bits)) rows = truths_column bits
flags_column (ByRuns ends_type ends bits offset count) rows = OfRuns ends_type ends (truths_column bits) offset count

abbrev pub AreFlagsOf : Column → Column → Type 0
AreFlagsOf (OfLists lists) c = c ≡ flags_column lists.validity (list_count lists)
AreFlagsOf lists c = ⊥
