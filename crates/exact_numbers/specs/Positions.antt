-- Where a number is among integers.
use Rattle.std.specs.Prelude.{◌≡◌, ◌≤ℤ◌, ℕ, ℤ, pos, Bool, int_lt, if◌then◌else◌, not, Option, Some, None, FitsSigned, ◌*ℤ◌}
use Rattle.std.specs.Int.{w128}
use Rattle.std.specs.declared.cmp.Ordering.{Ordering}
use Rattle.std.specs.declared.cmp.Ordering.TheVariants.{Less, Greater}
use Rattle.std.specs.Ordering.{int_cmp}
use Rattle.float_bits.specs.Number.{with_sign}
use Rattle.exact_numbers.specs.declared.positions.Position.{Position}
use Rattle.exact_numbers.specs.declared.positions.Position.TheVariants.{At, Between, BelowAll, AboveAll, Nowhere}

-- the order of an integer and the number that is there
abbrev pub order_at : Position → ℤ → Option Ordering
order_at (At n) row = Some (int_cmp row n)
order_at (Between n) row = Some (if int_lt n row then Greater else Less)
order_at BelowAll row = Some Greater
order_at AboveAll row = Some Less
order_at Nowhere row = None

-- a number, of which a divisor makes parts, is there among the integers of 128 bits
abbrev pub IsAmongWide : Bool → ℕ → ℕ → Position → Type 0
IsAmongWide is_negative number divisor position =
    (row : ℤ) → FitsSigned w128 row → Some (int_cmp (row *ℤ pos divisor) (with_sign (not is_negative) number)) ≡ order_at position row

-- a range of integers
pub record IsWithin (least greatest n : ℤ) : Type 0 where
  pub low : least ≤ℤ n
  pub high : n ≤ℤ greatest

-- the number that a position names, if it names one, is in the range
abbrev pub NamesWithin : ℤ → ℤ → Position → Type 0
NamesWithin least greatest (At n) = IsWithin least greatest n
NamesWithin least greatest (Between n) = IsWithin least greatest n
NamesWithin least greatest BelowAll = Unit {0}
NamesWithin least greatest AboveAll = Unit {0}
NamesWithin least greatest Nowhere = Unit {0}
