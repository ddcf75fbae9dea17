use Rattle.std.proofs.Common.{◌≡◌, ◌+◌, ◌<◌, ℕ, ℤ, List, Option, Some, ap, subst, ◌∙◌, arith}
use Rattle.std.specs.Prelude.{option_map, slice_get, unsigned_abs}
use Rattle.std.proofs.lemmas.Int.{ints}
use Rattle.std.proofs.lemmas.Option.{slice_get-map}
use Rattle.runend_windows.specs.Window.{IsRunAt, run_at}
use Rattle.runend_windows.proofs.RunAt.{IsRunAt-of_row, run_at-count_by}
use Rattle.runend_select.specs.declared.strategy.Strategy.{Strategy}
use Rattle.runend_select.specs.Indices.{run_of}
use Rattle.runend_select.specs.Pick.{answer_of, run_of_null}
use Rattle.runend_select.proofs.Bounds.{in_bounds_at}
use Rattle.runend_select.proofs.strategy_laws.strategies_agree.Goals as goal

-- a strategy's answer at a valid index
answer_at : (ends : List ℕ) (offset : ℕ) (indices : List (Option ℤ)) (strategy : Strategy) (place : ℕ) (n : ℤ) → slice_get indices place ≡ Some (Some n)
    → slice_get (answer_of strategy ends offset indices) place ≡ Some (run_at ends (offset + unsigned_abs n))
answer_at ends offset indices strategy place n at =
    let f = run_of ends offset (run_of_null strategy ends offset) in
    slice_get-map f indices place ∙ ap (option_map f) at

pub returns : goal.returns
returns c = λ ends offset count indices window bounds strategy place n at.
    let within = in_bounds_at indices count place n bounds at in
    let low = within.0 in
    let high = within.1 in
    let row : unsigned_abs n < count = omega (arith, ints) in
    let counted = run_at-count_by ends (offset + unsigned_abs n) window.increasing in (
      answer_at ends offset indices strategy place n at ∙ ap Some counted,
      subst (λ (run : ℕ). IsRunAt ends (offset + unsigned_abs n) run) counted (IsRunAt-of_row ends offset count (unsigned_abs n) window row),
    )
