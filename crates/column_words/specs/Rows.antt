-- Words of rows that are null or integers, and of totals.
use Rattle.std.specs.Prelude.{ℕ, List, Option, None, Some, codes}
use Rattle.std.specs.Fmt.{decimal, signed_decimal}
use Rattle.column_core.specs.Value.{Number, Single, Value}
use Rattle.column_sums.specs.declared.answer.SumValue.{SumValue}
use Rattle.column_sums.specs.declared.answer.SumValue.TheVariants as sum

-- null, or an integer
abbrev pub IsNullOrNumber : Option Value → Type 0
IsNullOrNumber None = Unit {0}
IsNullOrNumber (Some (Single (Number z))) = Unit {0}
IsNullOrNumber (Some value) = ⊥

-- the word of a row that is null or an integer
abbrev pub row_word : Option Value → List ℕ
row_word (Some (Single (Number z))) = signed_decimal z
row_word row = codes "null"

-- the digits of a total
abbrev pub total_word : SumValue → List ℕ
total_word (sum.Unsigned n) = decimal n
total_word (sum.Signed z) = signed_decimal z
