-- What a column is: flat data, lists or one value many times, under levels of runs.
use Rattle.std.specs.Prelude.{◌≡◌, ℕ, ◌+◌, Bool, List, [], length, map, Option, option_map, replicate}
use Rattle.column_base.specs.declared.dtype.PType.{PType}
use Rattle.column_base.specs.declared.dtype.PType.TheVariants.{U64}
use Rattle.column_base.specs.declared.dtype.Nullability.TheVariants.{NonNullable}
use Rattle.column_base.specs.declared.dtype.DType.{DType}
use Rattle.column_base.specs.declared.dtype.DType.TheVariants as column
use Rattle.column_core.specs.Value.{FlatValue, Value, Single, PlainColumn}
use Rattle.column_core.specs.Leaf.{Leaf, OfNumbers, OfTruths, OfDecimals, OfVarBins, leaf_rows, leaf_dtype}
use Rattle.runend_windows.specs.Window.{IsWindow, run_rows}
use Rattle.runend_windows.specs.Ends.{IsEndsType, ends_of}
use Rattle.runend_array.specs.Lists.{Index, PlainIndex, RunIndex, RowValidityForm, ByRuns, Lists, list_rows, list_dtype, lists_depth}

-- one optional value of a type, in each of `count` rows
pub record Constant : Type 0 where
  pub dtype : DType
  pub value : Option FlatValue
  pub count : ℕ

-- the value of a constant, in this number of rows
abbrev pub repeated : Constant → ℕ → Constant
repeated constant count = record { dtype = constant.dtype; value = constant.value; count = count }

-- the form of a column; runs have the type of their ends, the ends, the values, the offset and the number of rows
pub data Column : Type 0 where
  OfLeaf : Leaf → Column
  OfConstant : Constant → Column
  OfLists : Lists → Column
  OfRuns : PType → List ℕ → Column → ℕ → ℕ → Column

-- the form of a run column
pub record Runs : Type 0 where
  pub ends_type : PType
  pub ends : List ℕ
  pub values : Column
  pub offset : ℕ
  pub count : ℕ

-- the run column with these parts
abbrev pub runs_with : PType → List ℕ → Column → ℕ → ℕ → Runs
runs_with ends_type ends values offset count = record { ends_type = ends_type; ends = ends; values = values; offset = offset; count = count }

-- a run column, as a column
abbrev pub column_of_runs : Runs → Column
column_of_runs r = OfRuns r.ends_type r.ends r.values r.offset r.count

-- the rows
abbrev pub column_rows : Column → List (Option Value)
column_rows (OfLeaf leaf) = map (option_map Single) (leaf_rows leaf)
column_rows (OfConstant constant) = replicate constant.count (option_map Single constant.value)
column_rows (OfLists lists) = list_rows lists
column_rows (OfRuns ends_type ends values offset count) = run_rows ends (column_rows values) offset count

-- the type of the rows
abbrev pub column_dtype : Column → DType
column_dtype (OfLeaf leaf) = leaf_dtype leaf
column_dtype (OfConstant constant) = constant.dtype
column_dtype (OfLists lists) = list_dtype lists
column_dtype (OfRuns ends_type ends values offset count) = column_dtype values

-- the plain column: its type and its rows, whatever the form
abbrev pub plain_of : Column → PlainColumn
plain_of c = record { dtype = column_dtype c; rows = column_rows c }

-- a bound of the levels of runs
abbrev pub depth : Column → ℕ
depth (OfLeaf leaf) = 0
depth (OfConstant constant) = 0
depth (OfLists lists) = lists_depth lists
depth (OfRuns ends_type ends values offset count) = depth values + 1

-- rows that are stored one by one
abbrev pub IsLeaf : Column → Type 0
IsLeaf (OfLeaf leaf) = Unit {0}
IsLeaf (OfConstant constant) = ⊥
IsLeaf (OfLists lists) = ⊥
IsLeaf (OfRuns ends_type ends values offset count) = ⊥

-- a flat form: rows that are stored one by one, or lists
abbrev pub IsFlat : Column → Type 0
IsFlat (OfLeaf leaf) = Unit {0}
IsFlat (OfConstant constant) = ⊥
IsFlat (OfLists lists) = Unit {0}
IsFlat (OfRuns ends_type ends values offset count) = ⊥

-- a column of ends: flat, unsigned and without null
abbrev pub IsPlainEnds : Column → Type 0
IsPlainEnds (OfLeaf leaf) = IsEndsType (leaf_dtype leaf)
IsPlainEnds (OfConstant constant) = ⊥
IsPlainEnds (OfLists lists) = ⊥
IsPlainEnds (OfRuns ends_type ends values offset count) = ⊥

-- the ends of a flat column that is one of ends
abbrev pub leaf_ends : Leaf → List ℕ
leaf_ends (OfNumbers form) = ends_of form
leaf_ends (OfTruths form) = []
leaf_ends (OfDecimals form) = []
leaf_ends (OfVarBins form) = []

-- the native type of a flat column that is one of ends
abbrev pub leaf_ptype : Leaf → PType
leaf_ptype (OfNumbers form) = form.ptype
leaf_ptype (OfTruths form) = U64
leaf_ptype (OfDecimals form) = U64
leaf_ptype (OfVarBins form) = U64

-- the ends of a column of ends
abbrev pub end_numbers : Column → List ℕ
end_numbers (OfLeaf leaf) = leaf_ends leaf
end_numbers (OfConstant constant) = []
end_numbers (OfLists lists) = []
end_numbers (OfRuns ends_type ends values offset count) = []

-- the native type of a column of ends
abbrev pub end_ptype : Column → PType
end_ptype (OfLeaf leaf) = leaf_ptype leaf
end_ptype (OfConstant constant) = U64
end_ptype (OfLists lists) = U64
end_ptype (OfRuns ends_type ends values offset count) = U64

-- a run column: a valid window, with one value for each run
pub record AreRuns (r : Runs) : Type 0 where
  pub window : IsWindow r.ends r.offset r.count
  pub paired : length (column_rows r.values) ≡ length r.ends

-- the run column of a column of ends and a column of values
abbrev pub runs_of : Column → Column → ℕ → ℕ → Runs
runs_of ends values offset count = runs_with (end_ptype ends) (end_numbers ends) values offset count

-- the parts make a run column
pub record AreParts (ends values : Column) (offset count : ℕ) : Type 0 where
  pub plain : IsPlainEnds ends
  pub runs : AreRuns (runs_of ends values offset count)

-- a flat column of unsigned 64-bit numbers without null
abbrev pub IsPlainIndex : Column → Type 0
IsPlainIndex (OfLeaf leaf) = leaf_dtype leaf ≡ column.Primitive U64 NonNullable
IsPlainIndex (OfConstant constant) = ⊥
IsPlainIndex (OfLists lists) = ⊥
IsPlainIndex (OfRuns ends_type ends values offset count) = ⊥

-- a column of offsets or of sizes: such a flat column, or runs over one
abbrev pub IsIndex : Column → Type 0
IsIndex (OfLeaf leaf) = IsPlainIndex (OfLeaf leaf)
IsIndex (OfConstant constant) = ⊥
IsIndex (OfLists lists) = ⊥
IsIndex (OfRuns ends_type ends values offset count) = IsPlainIndex values

-- the numbers of a column of offsets or of sizes
abbrev pub index_of : Column → Index
index_of (OfLeaf leaf) = PlainIndex (leaf_ends leaf)
index_of (OfConstant constant) = PlainIndex []
index_of (OfLists lists) = PlainIndex []
index_of (OfRuns ends_type ends values offset count) = RunIndex ends_type ends (end_numbers values) offset count

-- a flat column of booleans without null
abbrev pub IsPlainTruths : Column → Type 0
IsPlainTruths (OfLeaf leaf) = leaf_dtype leaf ≡ column.Bool NonNullable
IsPlainTruths (OfConstant constant) = ⊥
IsPlainTruths (OfLists lists) = ⊥
IsPlainTruths (OfRuns ends_type ends values offset count) = ⊥

-- the bits of a flat column of booleans
abbrev pub leaf_truths : Leaf → List Bool
leaf_truths (OfNumbers form) = []
leaf_truths (OfTruths form) = form.bits
leaf_truths (OfDecimals form) = []
leaf_truths (OfVarBins form) = []

abbrev pub truths_of : Column → List Bool
truths_of (OfLeaf leaf) = leaf_truths leaf
truths_of (OfConstant constant) = []
truths_of (OfLists lists) = []
truths_of (OfRuns ends_type ends values offset count) = []

-- the validity that runs of booleans give
abbrev pub runs_validity : Runs → RowValidityForm
runs_validity r = ByRuns r.ends_type r.ends (truths_of r.values) r.offset r.count
