-- Numbers that C passes to be compared, of any type.
use Rattle.std.specs.Prelude.{ℕ, zero, suc, pos, Option, Some, None}
use Rattle.exact_numbers.specs.declared.numbers.ExactNumber.{ExactNumber}
use Rattle.exact_numbers.specs.declared.numbers.ExactNumber.TheVariants.{Decimal, Double}
use Rattle.c_columns.specs.Values.{halves}
use Rattle.c_columns.specs.declared.row_value.RowValue.{RowValue}

-- the number by the kind of a value, if it is one: an integer, a double, a decimal of the value's own scale
abbrev pub number_by : ℕ → RowValue → Option ExactNumber
number_by (suc zero) value = Some (Decimal (pos value.as_unsigned) (pos 0))
number_by (suc (suc zero)) value = Some (Decimal value.as_signed (pos 0))
number_by (suc (suc (suc (suc (suc (suc (suc zero))))))) value = Some (Double value.as_unsigned)
number_by (suc (suc (suc (suc (suc (suc (suc (suc zero)))))))) value = Some (Decimal (halves value) value.scale)
number_by k value = None

abbrev pub number_passed : RowValue → Option ExactNumber
number_passed value = number_by value.kind value
