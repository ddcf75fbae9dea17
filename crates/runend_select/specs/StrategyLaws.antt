-- The law of strategies.
use Rattle.std.specs.Prelude.{◌≡◌, ◌+◌, ℕ, ℤ, List, Option, Some, count_by, nat_le, slice_get, unsigned_abs}
use Rattle.runend_windows.specs.Window.{IsRunAt, IsWindow}
use Rattle.runend_select.specs.declared.strategy.Strategy.{Strategy}
use Rattle.runend_select.specs.Indices.{AreInBounds}
use Rattle.runend_select.specs.Pick.{answer_of}

-- what a strategy answers at each valid index is the number of ends at or below the row's position, and that is the run of the row
abbrev pub StrategiesAgree : Type 0
StrategiesAgree = (ends : List ℕ) (offset count : ℕ) (indices : List (Option ℤ)) → IsWindow ends offset count → AreInBounds indices count
    → (strategy : Strategy) (place : ℕ) (n : ℤ) → slice_get indices place ≡ Some (Some n)
    → (slice_get (answer_of strategy ends offset indices) place ≡ Some (count_by (λ end. nat_le end (offset + unsigned_abs n)) ends))
    × IsRunAt ends (offset + unsigned_abs n) (count_by (λ end. nat_le end (offset + unsigned_abs n)) ends)
