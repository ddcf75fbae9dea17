use Rattle.std.proofs.Common.{rules, ◌≡◌, ℕ, ◌<◌, arith, refl, ap, subst, ◌∙◌, Bool, true, false}
use Rattle.std.specs.Prelude.{IsTrue, ◌↔◌}
use Rattle.float_bits.specs.Nearest.{IsNearest, distance}
use Rattle.float_bits.specs.Places.{value}
use Rattle.float_bits.specs.Sum.{IsRoundedSum}
use Rattle.float_bits.proofs.Results.{exactly_zero, finite_sum, rounded_zero}
use Rattle.float_bits.proofs.float_sum.FloatSum.rounded.Goals as goal

not_true : IsTrue false → ⊥
not_true t = search rules

-- what was found not to be less, of the same numbers
not_less : (less : Bool) (a b x y : ℕ) → less ≡ false → IsTrue less ↔ (a < b) → a ≡ x → b ≡ y → x < y → ⊥
not_less true a b x y e h p q l = absurd (cc)
not_less false a b x y e h p q l = absurd (not_true (h.1 (omega arith)))

pub returns-then-size-gt0 : goal.returns-then-size-gt0
returns-then-size-gt0 c =
    let n = c.if-self-gt0.false in
    let i = c.if-self-gt0-2.false in
    let m = c.if-self-gt0-4.false in
    let plus = c.digits.ensures.value in
    let minus = c.digits-2.ensures.value in
    let r = c.round_difference-is_negative.result in
    let e = ap (λ x. distance x (value c.digits-2.result)) plus ∙ ap (λ x. distance c.self.inside.plus x) minus in
    let near = subst (λ x. IsNearest x r.1) e c.round_difference-is_negative.ensures.size in
    let some = c.if-size-gt0.true in
    let none = λ (s : c.self.inside.plus ≡ c.self.inside.minus). rounded_zero (distance c.self.inside.plus c.self.inside.minus) r.1 (omega arith) near in
    subst (λ t. IsRoundedSum t r.1) c.self.view_is
    (finite_sum _ r.1 r.1 (omega arith, omega arith, omega arith) near
    (λ l. refl)
    (λ l. absurd (not_less r.0 _ _ _ _ c.if-is_negative.false c.round_difference-is_negative.ensures.is_negative plus minus l))
    (λ s z. let zero = none s in absurd (omega arith))
    (λ s z. none s))

pub returns : goal.returns
returns c =
    let n = c.if-self-gt0.false in
    let i = c.if-self-gt0-2.false in
    let m = c.if-self-gt0-4.false in
    let plus = c.digits.ensures.value in
    let minus = c.digits-2.ensures.value in
    let r = c.round_difference-is_negative.result in
    let e = ap (λ x. distance x (value c.digits-2.result)) plus ∙ ap (λ x. distance c.self.inside.plus x) minus in
    let near = subst (λ x. IsNearest x r.1) e c.round_difference-is_negative.ensures.size in
    let none : r.1 ≡ 0 = omega (arith, c.if-size-gt0.false) in
    let zero : distance c.self.inside.plus c.self.inside.minus ≡ 0 = exactly_zero _ (subst (λ x. IsNearest (distance c.self.inside.plus c.self.inside.minus) x) none near) in
    subst (λ t. IsRoundedSum t c.zero_of.result) c.self.view_is
    (finite_sum _ r.1 c.zero_of.result (omega arith, omega arith, omega arith) near
    (λ l. absurd (omega arith))
    (λ l. absurd (omega arith))
    (λ s. c.zero_of.ensures.minus_zero)
    (λ s. c.zero_of.ensures.zero))
