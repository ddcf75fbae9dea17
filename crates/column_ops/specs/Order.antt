-- The order of values: null before all, numbers by value, false before true, texts and bytes by bytes.
use Rattle.std.specs.Prelude.{ℕ, Option}
use Rattle.std.specs.Cmp.Lexicographic.{slice_cmp}
use Rattle.std.specs.Option.{option_cmp}
use Rattle.std.specs.Ordering.{bool_cmp, int_cmp, nat_cmp}
use Rattle.std.specs.declared.cmp.Ordering.{Ordering}
use Rattle.std.specs.declared.cmp.Ordering.TheVariants.{Less, Equal, Greater}
use Rattle.column_core.specs.Value.{FlatValue, Truth, Number, DecimalNumber, Text, Bytes, Value, Single, Items}

-- the place of the kind of a flat value among the kinds
abbrev pub kind_index : FlatValue → ℕ
kind_index (Truth b) = 0
kind_index (Number z) = 1
kind_index (DecimalNumber z) = 2
kind_index (Text bytes) = 3
kind_index (Bytes bytes) = 4

-- the order of flat values; of two kinds, which no column mixes, the first is below the second
abbrev pub flat_cmp : FlatValue → FlatValue → Ordering
flat_cmp (Truth a) (Truth b) = bool_cmp a b
flat_cmp (Number a) (Number b) = int_cmp a b
flat_cmp (DecimalNumber a) (DecimalNumber b) = int_cmp a b
flat_cmp (Text a) (Text b) = slice_cmp nat_cmp a b
flat_cmp (Bytes a) (Bytes b) = slice_cmp nat_cmp a b
flat_cmp a b = nat_cmp (kind_index a) (kind_index b)

-- the order of values; lists have none, and no call compares them
abbrev pub value_cmp : Value → Value → Ordering
value_cmp (Single a) (Single b) = flat_cmp a b
value_cmp (Single a) (Items ys) = Less
value_cmp (Items xs) (Single b) = Greater
value_cmp (Items xs) (Items ys) = Equal

-- the order of rows: null is equal to null, and below all else
abbrev pub row_cmp : Option Value → Option Value → Ordering
row_cmp a b = option_cmp value_cmp a b
