-- The sum of joined rows.
use Rattle.std.specs.Prelude.{◌≡◌, ◌++◌, ◌&&◌, ◌+ℤ◌, ◌≤ℤ◌, ℤ, pos, Bool, List, [], Option, Some, None, All, Contains, if◌then◌else◌, map, option_and_then, MatchOption, int_le, IsTrue}
use Rattle.std.specs.Int.{int_max, int_min}
use Rattle.std.specs.List.{list_all}
use Rattle.column_sums.specs.RowSum.{are_null, last_after, partial_sums, sum_from, sum_of_rows}
use Rattle.column_sums.specs.SumRange.{SumRange, is_within}

-- the partial sums of rows, from 0 on, and their total
abbrev pub sums_alone : List (Option ℤ) → List ℤ
sums_alone rows = partial_sums (pos 0) rows

abbrev pub total : List (Option ℤ) → ℤ
total rows = last_after (pos 0) (sums_alone rows)

-- the row is null, or not negative
abbrev pub IsNatural : Option ℤ → Type 0
IsNatural row = MatchOption row (Unit {0}) (λ n. IsTrue (int_le (pos 0) n))

-- two sums added, null where one is null or where they leave the range
abbrev pub added : SumRange → Option ℤ → Option ℤ → Option ℤ
added range None right = None
added range (Some left) None = None
added range (Some left) (Some right) = if is_within range (left +ℤ right) then Some (left +ℤ right) else None

-- the rows of the second part are added to the sum of the first
abbrev pub SumOfJoined : Type 0
SumOfJoined = (range : SumRange) (rows rows' : List (Option ℤ))
    → (sum_of_rows range (rows ++ rows') ≡ option_and_then (λ sum. sum_from range sum rows') (sum_of_rows range rows))
    × (are_null (rows ++ rows') ≡ (are_null rows && are_null rows'))

-- rows that are added to a sum, by only their partial sums
abbrev pub SumFromAnySum : Type 0
SumFromAnySum = (range : SumRange) (sum : ℤ) (rows : List (Option ℤ))
    → sum_from range sum rows ≡ (if list_all (λ n. is_within range (sum +ℤ n)) (sums_alone rows) then Some (sum +ℤ total rows) else None)

-- the least and the greatest of numbers, where there is one
pub record AreExtremes (ns : List ℤ) (low high : ℤ) : Type 0 where
  pub low_among : Contains ns low
  pub high_among : Contains ns high
  pub between : All (λ n. (low ≤ℤ n) × (n ≤ℤ high)) ns

-- rows that are added to a sum, by only the least and the greatest of their partial sums; with no valid row the sum
-- stays
pub record SumFromExtremes (range : SumRange) (sum : ℤ) (rows : List (Option ℤ)) : Type 0 where
  pub some : (low high : ℤ) → AreExtremes (sums_alone rows) low high
      → sum_from range sum rows ≡ (if is_within range (sum +ℤ low) && is_within range (sum +ℤ high) then Some (sum +ℤ total rows) else None)
  pub none : sums_alone rows ≡ [] → sum_from range sum rows ≡ Some sum

abbrev pub SumFromThreeNumbers : Type 0
SumFromThreeNumbers = (range : SumRange) (sum : ℤ) (rows : List (Option ℤ)) → SumFromExtremes range sum rows

-- the three numbers of joined rows: those of the second part are moved by the total of the first
pub record NumbersOfJoined (rows rows' : List (Option ℤ)) : Type 0 where
  pub added_totals : total (rows ++ rows') ≡ total rows +ℤ total rows'
  pub both : (low high low' high' : ℤ) → AreExtremes (sums_alone rows) low high → AreExtremes (sums_alone rows') low' high'
      → AreExtremes (sums_alone (rows ++ rows')) (int_min low (total rows +ℤ low')) (int_max high (total rows +ℤ high'))
  pub none_before : sums_alone rows ≡ [] → sums_alone (rows ++ rows') ≡ sums_alone rows'
  pub none_behind : sums_alone rows' ≡ [] → sums_alone (rows ++ rows') ≡ sums_alone rows

abbrev pub ThreeNumbersOfJoined : Type 0
ThreeNumbersOfJoined = (rows rows' : List (Option ℤ)) → NumbersOfJoined rows rows'

-- for rows that are not negative, the sums of the parts are added
abbrev pub SumOfJoinedNaturals : Type 0
SumOfJoinedNaturals = (range : SumRange) (rows rows' : List (Option ℤ)) → All IsNatural rows → All IsNatural rows'
    → sum_of_rows range (rows ++ rows') ≡ added range (sum_of_rows range rows) (sum_of_rows range rows')
