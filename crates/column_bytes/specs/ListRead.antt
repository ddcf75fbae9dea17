-- What bytes are as messages of lists, and of the parts of lists.
use Rattle.std.specs.Prelude.{◌≡◌, ℕ, ◌≤◌, List, ◌++◌}
use Rattle.column_base.specs.declared.dtype.DType.{DType}
use Rattle.column_base.specs.declared.dtype.PType.{PType}
use Rattle.column_core.specs.Leaf.{Leaf, leaf_dtype}
use Rattle.column_fields.specs.ListFields.{list_fields}
use Rattle.runend_array.specs.Column.{Column, OfLeaf, OfLists, OfRuns}
use Rattle.runend_array.specs.Lists.{Index, RowValidityForm, Lists, AreLists, HasRows, list_count, lists_depth, lists_with}
use Rattle.column_bytes.specs.Bytes.{leaf_message, index_message, row_validity_field, lists_body}
use Rattle.column_bytes.specs.Packed.{IsPackedLeaf}
use Rattle.column_bytes.specs.Read.{IsMessage}
use Rattle.column_bytes.specs.Stored.{IsStoredLeaf, IsStoredIndex, IsStoredValidity, AreStoredLists}

-- ---- flat columns, and runs over them

-- the bytes are the message of a flat column, whose texts and bytes are packed
pub record IsLeafMessage (bytes : List ℕ) (leaf : Leaf) : Type 0 where
  pub stored : IsStoredLeaf leaf
  pub packed : IsPackedLeaf leaf
  pub spelt : bytes ≡ leaf_message leaf

pub record IsNoLeafMessage (bytes : List ℕ) : Type 0 where
  pub none : (leaf : Leaf) → IsLeafMessage bytes leaf → ⊥

-- the bytes are the message of a flat column of that type
pub record IsFlatMessage (t : DType) (bytes : List ℕ) (c : Column) : Type 0 where
  pub leaf : Leaf
  pub is : c ≡ OfLeaf leaf
  pub typed : leaf_dtype leaf ≡ t
  pub message : IsMessage 0 bytes c

pub record IsNoFlatMessage (t : DType) (bytes : List ℕ) : Type 0 where
  pub none : (c : Column) → IsFlatMessage t bytes c → ⊥

-- the bytes are the message of runs over a flat column of that type
pub record AreFlatRuns (t : DType) (bytes : List ℕ) (c : Column) : Type 0 where
  pub ends_type : PType
  pub ends : List ℕ
  pub leaf : Leaf
  pub offset : ℕ
  pub count : ℕ
  pub is : c ≡ OfRuns ends_type ends (OfLeaf leaf) offset count
  pub typed : leaf_dtype leaf ≡ t
  pub message : IsMessage 1 bytes c

pub record AreNoFlatRuns (t : DType) (bytes : List ℕ) : Type 0 where
  pub none : (c : Column) → AreFlatRuns t bytes c → ⊥

-- ---- the parts of lists

-- the bytes are the message of offsets, or of sizes
pub record IsIndexMessage (bytes : List ℕ) (index : Index) : Type 0 where
  pub stored : IsStoredIndex index
  pub spelt : bytes ≡ index_message index

pub record IsNoIndexMessage (bytes : List ℕ) : Type 0 where
  pub none : (index : Index) → IsIndexMessage bytes index → ⊥

-- bytes begin with the fields of a validity of `rows` rows
pub record BeginsWithValidity (rows : ℕ) (bytes : List ℕ) (form : RowValidityForm) (rest : List ℕ) : Type 0 where
  pub stored : IsStoredValidity form
  pub counted : HasRows form rows
  pub spelt : bytes ≡ row_validity_field form ++ rest

pub record BeginsWithNoValidity (rows : ℕ) (bytes : List ℕ) : Type 0 where
  pub none : (form : RowValidityForm) (rest : List ℕ) → BeginsWithValidity rows bytes form rest → ⊥

-- ---- lists

-- a column of `rows` lists, with at most `levels` levels of runs
pub record AreListsOf (levels rows : ℕ) (lists : Lists) : Type 0 where
  pub are : AreLists lists
  pub shallow : lists_depth lists ≤ levels
  pub counted : list_count lists ≡ rows

-- the column of `rows` lists of these elements and this validity, with these messages of offsets and sizes
pub record AreListsOver (levels rows : ℕ) (elements : Leaf) (validity : RowValidityForm) (first counts : List ℕ) (c : Column) : Type 0 where
  pub offsets : Index
  pub sizes : Index
  pub is : c ≡ OfLists (lists_with elements offsets sizes validity)
  pub offsets_are : IsIndexMessage first offsets
  pub sizes_are : IsIndexMessage counts sizes
  pub are : AreListsOf levels rows (lists_with elements offsets sizes validity)

pub record AreNoListsOver (levels rows : ℕ) (elements : Leaf) (validity : RowValidityForm) (first counts : List ℕ) : Type 0 where
  pub none : (c : Column) → AreListsOver levels rows elements validity first counts c → ⊥

-- the column of `rows` lists with this validity; the bytes are what its message says after the validity
pub record AreListsBehind (levels rows : ℕ) (validity : RowValidityForm) (bytes : List ℕ) (c : Column) : Type 0 where
  pub elements : Leaf
  pub message : List ℕ
  pub first : List ℕ
  pub counts : List ℕ
  pub spelt : bytes ≡ list_fields message first counts
  pub elements_are : IsLeafMessage message elements
  pub over : AreListsOver levels rows elements validity first counts c

pub record AreNoListsBehind (levels rows : ℕ) (validity : RowValidityForm) (bytes : List ℕ) : Type 0 where
  pub none : (c : Column) → AreListsBehind levels rows validity bytes c → ⊥

-- the bytes are what the message of `rows` lists says after its header
pub record AreListsIn (levels rows : ℕ) (bytes : List ℕ) (lists : Lists) : Type 0 where
  pub stored : AreStoredLists lists
  pub packed : IsPackedLeaf lists.elements
  pub shallow : lists_depth lists ≤ levels
  pub counted : list_count lists ≡ rows
  pub spelt : bytes ≡ lists_body lists
