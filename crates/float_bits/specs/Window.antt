-- The highest binary digits of a number.
use Rattle.std.specs.Prelude.{◌≡◌, ◌<◌, ◌≤◌, ◌+◌, ◌*◌, ◌^◌, ℕ}

-- a window is cut after its 53 highest binary digits: `lost` is what its other `digits` count for, and `half` the half of
-- what 1 in the kept ones counts for
pub record IsCut (window kept digits lost half : ℕ) : Type 0 where
  pub whole : window ≡ kept * (2 * half) + lost
  pub lost_below : lost < 2 * half
  pub unit : 2 * half ≡ 2 ^ digits
  pub kept_low : 2 ^ 52 ≤ kept
  pub kept_high : kept < 2 ^ 53
  pub digits_few : digits ≤ 43
