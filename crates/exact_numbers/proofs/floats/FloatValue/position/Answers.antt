use Rattle.std.proofs.Common.{◌≡◌, ◌∙◌, ℤ, ap, sym, subst}
use Rattle.std.specs.Int.{w8}
use Rattle.std.proofs.lemmas.Int.{to_z-of_z}
use Rattle.exact_numbers.specs.Exact.{exact_cmp, exact_decimal}
use Rattle.exact_numbers.specs.Floats.{exact_finite, exact_value}
use Rattle.exact_numbers.specs.Positions.{order_at}
use Rattle.exact_numbers.specs.declared.floats.FloatValue.{FloatValue}
use Rattle.exact_numbers.proofs.floats.FloatValue.position.Goals as goal

pub returns-in-Finite : goal.returns-in-Finite
returns-in-Finite c = λ row fits.
    let scaled = ap (λ (s : ℤ). exact_cmp (exact_decimal s row) (exact_finite c.in-Finite.float)) (sym (to_z-of_z w8 c.args.scale c.ranges.scale)) in
    subst (λ (v : FloatValue). exact_cmp (exact_decimal c.args.scale row) (exact_value v) ≡ order_at c.position.result row) (sym c.in-Finite.is) (scaled ∙ c.position.ensures row fits)
