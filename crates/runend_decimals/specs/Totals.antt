-- The sum of rows of decimals, and how far it stays within 38 digits.
use Rattle.std.specs.Prelude.{◌≡◌, ℕ, ◌+◌, ◌<◌, ◌≤◌, ℤ, pos, ◌+ℤ◌, ◌*ℤ◌, false, Option, Some, None, List, [], ◌∷◌, length, take}
use Rattle.column_base.specs.declared.error.VortexError.{VortexError}
use Rattle.column_core.specs.Refusal.{IsErrorFor}
use Rattle.column_sums.specs.RowSum.{are_null}
use Rattle.runend_decimals.specs.Digits.{HasDigits}
use Rattle.runend_decimals.specs.declared.fault.DecimalError.{DecimalError}
use Rattle.runend_decimals.specs.declared.fault.DecimalError.TheVariants.{Overflow, Refused}
use Rattle.runend_decimals.specs.declared.sums.DecimalSum.{DecimalSum}

-- the sum of the rows, to which null adds nothing
abbrev pub total : List (Option ℤ) → ℤ
total [] = pos 0
total (None ∷ rows) = total rows
total (Some n ∷ rows) = n +ℤ total rows

-- the sum, and whether no row is valid
abbrev pub sum_of : List (Option ℤ) → DecimalSum
sum_of rows = record { sum = total rows; is_empty = are_null rows }

-- no number of first rows adds up to more than 38 digits
abbrev pub StaysWithin : List (Option ℤ) → Type 0
StaysWithin rows = (k : ℕ) → k ≤ length rows → HasDigits 38 (total (take k rows))

-- the first row such that the rows up to and with it add up to more than 38 digits
pub record IsFirstLeaving (rows : List (Option ℤ)) (row : ℕ) : Type 0 where
  pub within : row < length rows
  pub leaves : ¬ HasDigits 38 (total (take (row + 1) rows))
  pub before : (k : ℕ) → k ≤ row → HasDigits 38 (total (take k rows))

-- refused by the first row that leaves 38 digits
abbrev pub IsRunRefusal : List (Option ℤ) → DecimalError → Type 0
IsRunRefusal rows (Refused error) = ⊥
IsRunRefusal rows (Overflow row) = IsFirstLeaving rows row

-- refused for memory, or by a fault of the column; else by the first row that leaves 38 digits
abbrev pub IsSumRefusal : Option VortexError → List (Option ℤ) → DecimalError → Type 0
IsSumRefusal fault rows (Refused error) = IsErrorFor fault error
IsSumRefusal fault rows (Overflow row) = (fault ≡ None) × IsFirstLeaving rows row

-- of `rows` rows of one number, the sum holds `held` and no more
pub record IsHeld (sum number : ℤ) (rows held : ℕ) : Type 0 where
  pub within : held < rows
  pub holds : HasDigits 38 (sum +ℤ number *ℤ pos held)
  pub leaves : ¬ HasDigits 38 (sum +ℤ number *ℤ pos (held + 1))

-- a sum with this many rows more of one decimal, or of nulls
abbrev pub with_rows : DecimalSum → Option ℤ → ℕ → DecimalSum
with_rows sum None rows = sum
with_rows sum (Some n) rows = record { sum = sum.sum +ℤ n *ℤ pos rows; is_empty = false }

-- a sum does not hold all of these rows
abbrev pub IsLeftAfter : ℤ → Option ℤ → ℕ → ℕ → Type 0
IsLeftAfter sum None rows held = ⊥
IsLeftAfter sum (Some n) rows held = IsHeld sum n rows held
