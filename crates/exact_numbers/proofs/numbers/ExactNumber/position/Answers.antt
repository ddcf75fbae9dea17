use Rattle.std.proofs.Common.{◌≡◌, ◌∙◌, ℤ, FitsSigned, to_z, of_z, rules, ap, sym, subst}
use Rattle.std.specs.Int.{w8, w128}
use Rattle.std.proofs.lemmas.Int.{to_z-of_z}
use Rattle.exact_numbers.specs.Exact.{exact_cmp, exact_decimal, exact_of}
use Rattle.exact_numbers.specs.Positions.{order_at}
use Rattle.exact_numbers.specs.declared.numbers.ExactNumber.{ExactNumber}
use Rattle.exact_numbers.proofs.numbers.ExactNumber.position.Goals as goal

pub returns-in-Decimal : goal.returns-in-Decimal
returns-in-Decimal c = λ row fits.
    let own = c.in-Decimal.own in
    let digits = c.in-Decimal.digits in
    let own_fits : FitsSigned w8 own = search rules in
    let digits_fits : FitsSigned w128 digits = search rules in
    let read : ℤ = to_z w128 (of_z w128 digits) in
    let scale : ℤ = to_z w8 (of_z w8 c.args.scale) in
    let scaled = ap (λ (s : ℤ). exact_cmp (exact_decimal s row) (exact_decimal own digits)) (sym (to_z-of_z w8 c.args.scale c.ranges.scale)) in
    let placed = ap (λ (s : ℤ). exact_cmp (exact_decimal scale row) (exact_decimal s digits)) (sym (to_z-of_z w8 own own_fits)) in
    let passed = ap (λ (n : ℤ). exact_cmp (exact_decimal scale row) (exact_decimal (to_z w8 (of_z w8 own)) n)) (sym (to_z-of_z w128 digits digits_fits)) in
    subst (λ (e : ExactNumber). exact_cmp (exact_decimal c.args.scale row) (exact_of e) ≡ order_at c.decimal_position.result row) (sym c.in-Decimal.is)
    (scaled ∙ placed ∙ passed ∙ c.decimal_position.ensures row fits)
