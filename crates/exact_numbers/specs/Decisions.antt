-- Comparisons with a number of any type, decided by comparisons with a number that the type of the rows has.
use Rattle.std.specs.Prelude.{◌≡◌, ℤ}
use Rattle.std.specs.Ordering.{int_cmp}
use Rattle.column_ops.specs.Comparing.{holds_of}
use Rattle.column_ops.specs.declared.operator.CompareOperator.{CompareOperator}
use Rattle.exact_numbers.specs.Exact.{exact_cmp, exact_decimal, exact_of, holds_exactly}
use Rattle.exact_numbers.specs.Positions.{order_at, IsWithin}
use Rattle.exact_numbers.specs.declared.decisions.Decision.{Decision}
use Rattle.exact_numbers.specs.declared.numbers.ExactNumber.{ExactNumber}
use Rattle.exact_numbers.specs.declared.positions.Position.{Position}

-- it answers for an integer what the operator answers of it and the number that is there
abbrev pub IsDecidedFor : CompareOperator → Position → Decision → ℤ → Type 0
IsDecidedFor operator position decision row = holds_exactly operator (order_at position row) ≡ holds_of decision.operator (int_cmp row decision.number)

-- it answers for each integer of a range what the operator answers of the decimal that it is at a scale and of a number
abbrev pub IsDecidedAmong : CompareOperator → ExactNumber → ℤ → ℤ → ℤ → Decision → Type 0
IsDecidedAmong operator number scale least greatest decision =
    (row : ℤ) → IsWithin least greatest row → holds_exactly operator (exact_cmp (exact_decimal scale row) (exact_of number)) ≡ holds_of decision.operator (int_cmp row decision.number)
