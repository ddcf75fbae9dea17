-- How many bytes a column takes for what it shows.
use Rattle.std.specs.Prelude.{ℕ, ◌+◌, ◌-◌, ◌*◌, ◌/◌, ◌^◌, List, length, min, sum_by, Option, Some, None}
use Rattle.column_base.specs.declared.dtype.PType.{PType}
use Rattle.column_base.specs.declared.dtype.PType.TheVariants.{U8, U16, U32, U64, I8, I16, I32, I64}
use Rattle.column_base.specs.declared.dtype.DType.{DType}
use Rattle.column_base.specs.declared.dtype.DType.TheVariants as column
use Rattle.column_base.specs.ValidityForm.{ValidityForm, NeverNull, NoneNull, AllNull, ByBits}
use Rattle.column_core.specs.Value.{FlatValue, Value, Single, Truth, Number, DecimalNumber, Text, Bytes}
use Rattle.column_core.specs.Leaf.{Leaf, OfNumbers, OfTruths, OfDecimals, OfVarBins, leaf_validity, single_rows}
use Rattle.runend_array.specs.Lists.{Index, PlainIndex, RunIndex, RowValidityForm, ByRows, ByRuns, Lists}
use Rattle.runend_array.specs.Column.{Column, OfLeaf, OfConstant, OfLists, OfRuns, Runs, column_of_runs}

-- as a `usize` says it: the greatest one in place of what is more
abbrev pub in_usize : ℕ → ℕ
in_usize bytes = min bytes (2 ^ 64 - 1)

-- a number of a native type
abbrev pub width_of : PType → ℕ
width_of U8 = 1
width_of U16 = 2
width_of U32 = 4
width_of U64 = 8
width_of I8 = 1
width_of I16 = 2
width_of I32 = 4
width_of I64 = 8

-- the bytes of a number of bits, 8 to a byte
abbrev pub bits_bytes : ℕ → ℕ
bits_bytes count = (count + 7) / 8

-- the bits that say which rows are valid, where there are any
abbrev pub validity_bytes : ValidityForm → ℕ
validity_bytes NeverNull = 0
validity_bytes NoneNull = 0
validity_bytes AllNull = 0
validity_bytes (ByBits bits) = bits_bytes (length bits)

-- the bytes of a text, or bytes; null has none
abbrev pub text_length : Option Value → ℕ
text_length (Some (Single (Text bytes))) = length bytes
text_length (Some (Single (Bytes bytes))) = length bytes
text_length row = 0

-- the bytes that the rows of a column of texts or bytes show
abbrev pub shown_bytes : Leaf → ℕ
shown_bytes leaf = sum_by text_length (single_rows leaf)

-- what the rows are stored as: numbers, bits, decimals of 16 bytes, or views of 24 with the texts or bytes that they show
abbrev pub item_bytes : Leaf → ℕ
item_bytes (OfNumbers form) = length form.numbers * width_of form.ptype
item_bytes (OfTruths form) = bits_bytes (length form.bits)
item_bytes (OfDecimals form) = length form.numbers * 16
item_bytes (OfVarBins form) = length form.views * 24 + shown_bytes (OfVarBins form)

-- a flat column
abbrev pub leaf_bytes : Leaf → ℕ
leaf_bytes leaf = item_bytes leaf + validity_bytes (leaf_validity leaf)

-- a number of a type of numbers
abbrev pub number_width : DType → ℕ
number_width (column.Bool n) = 0
number_width (column.Primitive t n) = width_of t
number_width (column.Decimal d n) = 0
number_width (column.Utf8 n) = 0
number_width (column.Binary n) = 0
number_width (column.List e n) = 0

-- one value of a type; null has none
abbrev pub value_bytes : DType → Option FlatValue → ℕ
value_bytes t None = 0
value_bytes t (Some (Truth b)) = 1
value_bytes t (Some (Number z)) = number_width t
value_bytes t (Some (DecimalNumber z)) = 16
value_bytes t (Some (Text bytes)) = length bytes
value_bytes t (Some (Bytes bytes)) = length bytes

-- offsets or sizes, 8 bytes each, row by row or in runs
abbrev pub index_bytes : Index → ℕ
index_bytes (PlainIndex numbers) = length numbers * 8
index_bytes (RunIndex ends_type ends numbers offset count) = length ends * width_of ends_type + length numbers * 8

-- which lists are valid, by rows or in runs over flags
abbrev pub row_validity_bytes : RowValidityForm → ℕ
row_validity_bytes (ByRows form) = validity_bytes form
row_validity_bytes (ByRuns ends_type ends bits offset count) = length ends * width_of ends_type + bits_bytes (length bits)

-- lists, with all elements
abbrev pub lists_bytes : Lists → ℕ
lists_bytes lists = leaf_bytes lists.elements + index_bytes lists.offsets + index_bytes lists.sizes + row_validity_bytes lists.validity

-- a column: of runs the ends and the values, of a constant its value
abbrev pub column_bytes : Column → ℕ
column_bytes (OfLeaf leaf) = leaf_bytes leaf
column_bytes (OfConstant constant) = value_bytes constant.dtype constant.value
column_bytes (OfLists lists) = lists_bytes lists
column_bytes (OfRuns ends_type ends values offset count) = length ends * width_of ends_type + column_bytes values

-- a run column
abbrev pub runs_bytes : Runs → ℕ
runs_bytes runs = column_bytes (column_of_runs runs)
