-- Where a number is among integers, by how often a divisor goes into it.
use Rattle.std.proofs.Common.{◌≡◌, ◌∙◌, ℕ, suc, ◌*◌, ◌^◌, ◌<◌, ◌≤◌, ℤ, pos, negsuc, neg_ℤ, ◌*ℤ◌, Bool, true, false, Some, ap, sym, arith, mul-le-mul_right}
use Rattle.std.specs.Ordering.{int_cmp}
use Rattle.std.specs.declared.cmp.Ordering.{Ordering}
use Rattle.std.proofs.lemmas.Bool.Decides.{nat_tests}
use Rattle.std.proofs.lemmas.Int.{ints}
use Rattle.exact_numbers.specs.Positions.{IsAmongWide}
use Rattle.exact_numbers.specs.Quotients.{IsQuotient}
use Rattle.exact_numbers.specs.declared.positions.Position.TheVariants.{At, Between, BelowAll, AboveAll}
use Rattle.exact_numbers.proofs.Products.{cmp_between, cmp_greater, cmp_less, cmp_of_products, times_at_most, times_below, times_natural, times_negative}

module _ (number divisor n : ℕ) where
  no_rest : IsQuotient number divisor n true → number ≡ n * divisor
  no_rest h = let none : h.rest ≡ 0 = grind (arith, nat_tests, h.exact) in let whole = h.whole in omega arith

  some_rest : (h : IsQuotient number divisor n false) → 0 < h.rest
  some_rest h = grind (arith, nat_tests, h.exact)

  pub divisor_some : (exact : Bool) → IsQuotient number divisor n exact → 0 < divisor
  divisor_some exact h = let below = h.below in omega arith

  -- the whole part of a number that is not negative
  pub at_whole : IsQuotient number divisor n true → IsAmongWide false number divisor (At (pos n))
  at_whole h row fits =
      let is : pos number ≡ pos n *ℤ pos divisor = ap (λ (k : ℕ). pos k) (no_rest h) ∙ sym (times_natural n divisor) in
      ap (λ (o : Ordering). Some o) (ap (λ (z : ℤ). int_cmp (row *ℤ pos divisor) z) is ∙ cmp_of_products row (pos n) divisor (divisor_some true h))

  pub after_whole : IsQuotient number divisor n false → IsAmongWide false number divisor (Between (pos n))
  after_whole h row fits =
      let some = some_rest h in
      let below = h.below in
      let whole = h.whole in
      let unit = times_natural n divisor in
      ap (λ (o : Ordering). Some o) (cmp_between (pos n) row (row *ℤ pos divisor) (pos number)
      (λ above. let step = times_at_most (pos (suc n)) row divisor (omega (arith, ints)) in omega (arith, ints, times_natural (suc n) divisor, step))
      (λ under. let most = times_at_most row (pos n) divisor under in omega (arith, ints, unit, most)))

  -- the whole part of a negative one
  pub at_minus : IsQuotient number divisor n true → (row : ℤ) → Some (int_cmp (row *ℤ pos divisor) (neg_ℤ (pos number))) ≡ Some (int_cmp row (neg_ℤ (pos n)))
  at_minus h row =
      let is : neg_ℤ (pos number) ≡ neg_ℤ (pos n) *ℤ pos divisor = ap (λ (k : ℕ). neg_ℤ (pos k)) (no_rest h) ∙ sym (times_negative n divisor) in
      ap (λ (o : Ordering). Some o) (ap (λ (z : ℤ). int_cmp (row *ℤ pos divisor) z) is ∙ cmp_of_products row (neg_ℤ (pos n)) divisor (divisor_some true h))

  pub before_minus : IsQuotient number divisor n false → IsAmongWide true number divisor (Between (negsuc n))
  before_minus h row fits =
      let some = some_rest h in
      let below = h.below in
      let whole = h.whole in
      ap (λ (o : Ordering). Some o) (cmp_between (negsuc n) row (row *ℤ pos divisor) (neg_ℤ (pos number))
      (λ above. let least = times_at_most (neg_ℤ (pos n)) row divisor (omega (arith, ints)) in omega (arith, ints, times_negative n divisor, least))
      (λ under. let most = times_at_most row (negsuc n) divisor under in omega (arith, ints, times_negative (suc n) divisor, most)))

-- a number that is past what 128 bits have
pub past_all : (number divisor : ℕ) → 0 < divisor → 2 ^ 127 * divisor ≤ number → IsAmongWide false number divisor AboveAll
past_all number divisor some large row fits =
    let small = fits.sfits in
    let step = times_below row (pos (2 ^ 127)) divisor some (omega (arith, ints, small)) in
    ap (λ (o : Ordering). Some o) (cmp_less (row *ℤ pos divisor) (pos number) (omega (arith, ints, times_natural (2 ^ 127) divisor, step)))

pub before_all : (number divisor : ℕ) → 0 < divisor → 2 ^ 127 * divisor < number → IsAmongWide true number divisor BelowAll
before_all number divisor some large row fits =
    let small = fits.sfits in
    let step = times_at_most (neg_ℤ (pos (2 ^ 127))) row divisor (omega (arith, ints, small)) in
    ap (λ (o : Ordering). Some o) (cmp_greater (row *ℤ pos divisor) (neg_ℤ (pos number)) (omega (arith, ints, times_negative (2 ^ 127) divisor, step)))

-- a quotient that is past it
pub many_times : (number divisor n : ℕ) (exact : Bool) → IsQuotient number divisor n exact → 2 ^ 127 ≤ n → 2 ^ 127 * divisor ≤ number
many_times number divisor n exact h large =
    let most : 2 ^ 127 * divisor ≤ n * divisor = mul-le-mul_right divisor large in
    let whole = h.whole in
    omega arith

pub more_than_many : (number divisor n : ℕ) → IsQuotient number divisor n false → 2 ^ 127 ≤ n → 2 ^ 127 * divisor < number
more_than_many number divisor n h large =
    let most : 2 ^ 127 * divisor ≤ n * divisor = mul-le-mul_right divisor large in
    let whole = h.whole in
    let some = some_rest number divisor n h in
    omega arith
