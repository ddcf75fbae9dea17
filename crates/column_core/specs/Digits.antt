-- How many binary digits a number has.
use Rattle.std.specs.Prelude.{ℕ, zero, suc, ◌+◌, ◌/◌, ◌<◌, ◌≤◌, ◌^◌}

-- n has k binary digits: k is the least number with n < 2 ^ k
pub record IsDigits (n k : ℕ) : Type 0 where
  pub enough : n < 2 ^ k
  pub least : (j : ℕ) → n < 2 ^ j → k ≤ j

-- how many halvings take n to 0, or `most` where that is fewer
abbrev pub halvings : ℕ → ℕ → ℕ
halvings zero n = 0
halvings (suc most) zero = 0
halvings (suc most) (suc n) = halvings most (suc n / 2) + 1

-- the number k with `IsDigits n k`: 0 at 0, and as many as the halvings that take n to 0
unfoldable pub digits : ℕ → ℕ
digits n = halvings n n
