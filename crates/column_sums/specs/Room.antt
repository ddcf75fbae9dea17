-- How far a sum is from the ends of its range.
use Rattle.std.specs.Prelude.{◌-◌, ◌*◌, ◌^◌, ℕ, ℤ, pos, neg_ℤ, ◌+ℤ◌, ◌-ℤ◌, ◌≤ℤ◌}

-- `room` rows of any values of 32 bits leave a sum in the range of i64
pub record HasRoom (value : ℤ) (room : ℕ) : Type 0 where
  pub down : neg_ℤ (pos (2 ^ 63)) ≤ℤ (value -ℤ pos (2 ^ 31 * room))
  pub up : (value +ℤ pos (2 ^ 31 * room)) ≤ℤ pos (2 ^ 63 - 1)
