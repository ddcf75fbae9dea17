use Rattle.std.proofs.Common.{◌≡◌, ◌∙◌, ℤ, FitsSigned, Option, option_map, rules, ap, sym, subst}
use Rattle.std.specs.Int.{w8, w128}
use Rattle.std.specs.Ordering.{ordering_reverse}
use Rattle.std.specs.declared.cmp.Ordering.{Ordering}
use Rattle.std.proofs.lemmas.Int.{to_z-of_z}
use Rattle.exact_numbers.specs.Exact.{exact_cmp, exact_decimal, exact_float, exact_of, Exact}
use Rattle.exact_numbers.specs.Floats.{exact_value}
use Rattle.exact_numbers.specs.Positions.{order_at}
use Rattle.exact_numbers.specs.declared.numbers.ExactNumber.{ExactNumber}
use Rattle.exact_numbers.proofs.ExactOrder.{turned}
use Rattle.exact_numbers.proofs.numbers.ExactNumber.compare_float.Goals as goal

pub returns-in-Decimal : goal.returns-in-Decimal
returns-in-Decimal c =
    let scale = c.in-Decimal.scale in
    let digits = c.in-Decimal.digits in
    let scale_fits : FitsSigned w8 scale = search rules in
    let digits_fits : FitsSigned w128 digits = search rules in
    let float = exact_value c.of-float.result in
    let read = to_z-of_z w128 digits digits_fits in
    let order : c.order.result ≡ order_at c.position.result digits = c.order.ensures ∙ ap (λ (n : ℤ). order_at c.position.result n) read in
    let placed : exact_cmp (exact_decimal scale digits) float ≡ order_at c.position.result digits =
    ap (λ (s : ℤ). exact_cmp (exact_decimal s digits) float) (sym (to_z-of_z w8 scale scale_fits)) ∙ c.position.ensures digits digits_fits in
    let shown : c.reversed.result ≡ exact_cmp float (exact_decimal scale digits) =
    c.reversed.ensures ∙ ap (λ (o : Option Ordering). option_map ordering_reverse o) (order ∙ sym placed) ∙ sym (turned float (exact_decimal scale digits)) in
    subst (λ (n : ExactNumber). c.reversed.result ≡ exact_cmp (exact_float c.args.format c.args.bits) (exact_of n)) (sym c.in-Decimal.is)
    (shown ∙ ap (λ (x : Exact). exact_cmp x (exact_decimal scale digits)) c.of-float.ensures.value)
