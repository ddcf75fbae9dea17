-- Which numbers the values of a native type are.
use Rattle.std.specs.Prelude.{◌≡◌, ◌↔◌, ◌==◌, ℤ, pos, Bool, IsTrue, Option, Some, None}
use Rattle.std.specs.Ordering.{int_cmp, int_eq, nat_cmp}
use Rattle.std.specs.declared.cmp.Ordering.{Ordering}
use Rattle.std.proofs.Common.{ap, arith, refl}
use Rattle.std.proofs.lemmas.Bool.Decides.{Decides-eqb, Decides-int_eq}
use Rattle.std.proofs.lemmas.Int.{ints}

-- the value of the number n, exactly where there is one
abbrev pub Narrows : {S : Type 0} → (S → ℤ) → (ℤ → Type 0) → ℤ → Option S → Type 0
Narrows number has n None = ¬ (has n)
Narrows number has n (Some x) = has n × (number x ≡ n)

-- values are compared as their numbers are, a number has one value, and the default is 0
pub record IsNumbered {S : Type 0} (eq : S → S → Bool) (cmp : S → S → Ordering) (is_default : S → Type 0) (number : S → ℤ) : Type 0 where
  pub equal : (a b : S) → IsTrue (eq a b) ↔ (number a ≡ number b)
  pub ordered : (a b : S) → cmp a b ≡ int_cmp (number a) (number b)
  pub one : (a b : S) → number a ≡ number b → a ≡ b
  pub zeroth : (a : S) → is_default a → number a ≡ pos 0

-- the unsigned types
pub unsigned_numbered : IsNumbered (λ a b. a == b) nat_cmp (λ x. x ≡ 0) (λ x. pos x)
unsigned_numbered = record {
  equal = (λ a b. let w = Decides-eqb a b in ((λ e. ap pos (w.0 e)), (λ e. w.1 (omega (arith, ints)))));
  ordered = (λ a b. grind (arith, ints));
  one = (λ a b e. omega (arith, ints));
  zeroth = (λ a e. ap pos e);
}

-- the signed types
pub signed_numbered : IsNumbered int_eq int_cmp (λ x. x ≡ pos 0) (λ x. x)
signed_numbered = record {
  equal = (λ a b. Decides-int_eq a b);
  ordered = (λ a b. refl);
  one = (λ a b e. e);
  zeroth = (λ a e. e);
}
