-- Which requests for memory are refused.
use Rattle.std.specs.Prelude.{◌≡◌, ℕ, ◌≤◌}
use Rattle.refusing.specs.declared.plan.Refusals.{Refusals}
use Rattle.refusing.specs.declared.plan.Refusals.TheVariants.{Never, From, Only}

-- the request of this number is refused
abbrev pub Refuses : Refusals → ℕ → Type 0
Refuses Never request = ⊥
Refuses (From first) request = first ≤ request
Refuses (Only which) request = request ≡ which
