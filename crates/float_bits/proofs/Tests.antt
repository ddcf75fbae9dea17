-- What tests of signed magnitudes decide.
use Rattle.std.proofs.Common.{◌≡◌, ◌∙◌, ℕ, Bool, false, true≢false, ℤ, arith, ap, sym, IsTrue, nat_eq, eq-eqb, eqb-true, w64, to_z, of_z, to_z-of_z, FitsSigned}
use Rattle.std.specs.Prelude.{◌<ℤ◌, ◌↔◌}
use lib.Signed.{lt_z}
use Rattle.std.proofs.lemmas.Int.{ints}
use Rattle.float_bits.specs.declared.formats.FloatFormat.{FloatFormat}
use Rattle.float_bits.specs.Number.{IsLess, IsEqual, IsNan, signed_magnitude}
use Rattle.float_bits.proofs.Sizes.{number_less, number_same}

-- what a test decides does not hold where the test is false
pub refuted : {P : Type 0} (b : Bool) → b ≡ false → IsTrue b ↔ P → ¬ P
refuted b fails decides = λ p. true≢false (sym (decides.1 p) ∙ fails)

lt_test : (r s : ℤ) → IsTrue (lt_z r s) ↔ (r <ℤ s)
lt_test r s = ((λ h. grind (arith, ints)), (λ h. grind (arith, ints)))

-- two words of signed magnitudes
pub record AreWords (f : FloatFormat) (a b : ℕ) (r s : ℤ) : Type 0 where
  pub left_fits : FitsSigned w64 r
  pub right_fits : FitsSigned w64 s
  pub left_word : r ≡ signed_magnitude f a
  pub right_word : s ≡ signed_magnitude f b
  pub left : ¬ IsNan f a
  pub right : ¬ IsNan f b

pub less_test : (f : FloatFormat) (a b : ℕ) (r s : ℤ) → AreWords f a b r s → IsTrue (lt_z (to_z w64 (of_z w64 r)) (to_z w64 (of_z w64 s))) ↔ IsLess f a b
less_test f a b r s w =
    rw (to_z-of_z w.left_fits, to_z-of_z w.right_fits, w.left_word, w.right_word) (
      (λ h. record { left = w.left; right = w.right; below = (number_less f a b).1 ((lt_test _ _).0 h) }),
      (λ h. (lt_test _ _).1 ((number_less f a b).0 h.below)),
    )

same_of_words : (r s : ℤ) → FitsSigned w64 r → FitsSigned w64 s → IsTrue (nat_eq (of_z w64 r) (of_z w64 s)) → r ≡ s
same_of_words r s p q h = sym (to_z-of_z p) ∙ ap (to_z w64) (eqb-true _ _ h) ∙ to_z-of_z q

pub equal_test : (f : FloatFormat) (a b : ℕ) (r s : ℤ) → AreWords f a b r s → IsTrue (nat_eq (of_z w64 r) (of_z w64 s)) ↔ IsEqual f a b
equal_test f a b r s w = (
  (λ h. record {
    left = w.left;
    right = w.right;
    same = (number_same f a b).1 (sym w.left_word ∙ same_of_words r s w.left_fits w.right_fits h ∙ w.right_word);
  }),
  (λ h. eq-eqb _ _ (ap (of_z w64) (w.left_word ∙ (number_same f a b).0 h.same ∙ sym w.right_word))),
)
