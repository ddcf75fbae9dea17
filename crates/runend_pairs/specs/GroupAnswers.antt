-- What is calculated from the rows of a group.
use Rattle.std.specs.Prelude.{◌≡◌, ℤ, pos, ⊤, Bool, true, List, [], Option, Some, None, length, slice_get, Contains}
use Rattle.std.specs.List.{filter_map, find, last_or, list_all}
use Rattle.std.specs.Ordering.{int_cmp, is_ge, is_le}
use Rattle.column_base.specs.declared.dtype.DType.{DType}
use Rattle.column_base.specs.declared.dtype.DType.TheVariants as column
use Rattle.column_base.specs.declared.dtype.PType.{PType}
use Rattle.column_base.specs.declared.dtype.PType.TheVariants.{I64, U64}
use Rattle.column_base.specs.Types.{HasNumber}
use Rattle.runend_pairs.specs.Sums.{sum_of, summed_ptype}
use Rattle.runend_pairs.specs.declared.group_fold.GroupFold.{GroupFold}
use Rattle.runend_pairs.specs.declared.group_fold.GroupFold.TheVariants.{Sum, Rows, Count, Least, Greatest, First, Last}

-- the numbers of the rows that are not null
abbrev pub numbers_of : List (Option ℤ) → List ℤ
numbers_of rows = filter_map (λ row. row) rows

-- how many rows there are
abbrev pub row_count_of : List (Option ℤ) → Option ℤ
row_count_of rows = Some (pos (length rows))

-- how many of them are not null
abbrev pub count_of : List (Option ℤ) → Option ℤ
count_of rows = Some (pos (length (numbers_of rows)))

-- a number is not above another, and not below it
abbrev pub is_at_most : ℤ → ℤ → Bool
is_at_most n m = is_le (int_cmp n m)

abbrev pub is_at_least : ℤ → ℤ → Bool
is_at_least n m = is_ge (int_cmp n m)

-- the first of the numbers that is related in this way to all of them
abbrev pub bound_of : (ℤ → ℤ → Bool) → List (Option ℤ) → Option ℤ
bound_of bounds rows = find (λ n. list_all (bounds n) (numbers_of rows)) (numbers_of rows)

-- the number that is not above any; null where there is none
abbrev pub least_of : List (Option ℤ) → Option ℤ
least_of rows = bound_of is_at_most rows

-- the number that is not below any; null where there is none
abbrev pub greatest_of : List (Option ℤ) → Option ℤ
greatest_of rows = bound_of is_at_least rows

-- the first number; null where there is none
abbrev pub first_of : List (Option ℤ) → Option ℤ
first_of rows = slice_get (numbers_of rows) 0

-- the last number; null where there is none
abbrev pub last_of : List (Option ℤ) → Option ℤ
last_of rows = last_or None (numbers_of rows)

-- what each fold answers
abbrev pub answer_of : GroupFold → List (Option ℤ) → Option ℤ
answer_of Sum rows = sum_of rows
answer_of Rows rows = row_count_of rows
answer_of Count rows = count_of rows
answer_of Least rows = least_of rows
answer_of Greatest rows = greatest_of rows
answer_of First rows = first_of rows
answer_of Last rows = last_of rows

-- the native type of a column of integers
abbrev pub number_ptype : DType → PType
number_ptype (column.Primitive t n) = t
number_ptype t = I64

-- the native type of the answers of a fold for a column of integers
abbrev pub answer_ptype : GroupFold → DType → PType
answer_ptype Sum t = summed_ptype t
answer_ptype Rows t = U64
answer_ptype Count t = U64
answer_ptype Least t = number_ptype t
answer_ptype Greatest t = number_ptype t
answer_ptype First t = number_ptype t
answer_ptype Last t = number_ptype t

-- the numbers that it gives as answers: only a sum can be too large
abbrev pub IsGiven : GroupFold → DType → ℤ → Type 0
IsGiven Sum t n = HasNumber (summed_ptype t) n
IsGiven fold t n = ⊤

-- a number of the rows that bounds all of them, or nothing without numbers
abbrev pub IsBound : (ℤ → ℤ → Bool) → List (Option ℤ) → Option ℤ → Type 0
IsBound bounds rows None = numbers_of rows ≡ []
IsBound bounds rows (Some n) = Contains (numbers_of rows) n × (list_all (bounds n) (numbers_of rows) ≡ true)
