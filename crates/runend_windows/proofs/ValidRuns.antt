-- Runs of rows of which none is null: what holds of their numbers, of the rows.
use Rattle.std.proofs.Common.{◌≡◌, ◌≢◌, ℕ, ℤ, zero, suc, List, [], ◌∷◌, Bool, true, false, not, Some, length, map, replicate, refl, sym, ◌∙◌, ap, arith, ◌<◌, subst}
use Rattle.std.specs.declared.cmp.Ordering.{Ordering}
use Rattle.std.proofs.lemmas.Bool.{not-true, not-false}
use Rattle.column_base.specs.Number.{IsNumbered}
use Rattle.column_base.specs.declared.dtype.Nullability.TheVariants.{Nullable}
use Rattle.column_base.specs.ValidityForm.{ValidityForm, NeverNull, NoneNull, AllNull, ByBits, HasLength, IsNormal, flags, nullability_in}
use Rattle.column_core.specs.PrimitiveForm.{optionals, AreZeroAtNulls}
use Rattle.runend_windows.specs.Cover.{Covers, IsTightCover}
use Rattle.runend_windows.specs.Decoding.{AreDecoded}
use Rattle.runend_windows.specs.Encoding.{blanked}
use Rattle.runend_windows.specs.Window.{IsWindow}
use Rattle.runend_windows.proofs.Blanked.{blanked-none_null}
use Rattle.runend_windows.proofs.FlatColumns.{IsTightCover-map, Covers-copies}

-- the rows of numbers whose flags are all true
pub optionals-all_valid : {B : Type 0} (xs : List B) (n : ℕ) → n ≡ length xs → optionals xs (replicate n true) ≡ map (λ (x : B). Some x) xs
optionals-all_valid [] n e = refl
optionals-all_valid (x ∷ xs) zero e = cc
optionals-all_valid (x ∷ xs) (suc n) e = ap (λ os. Some x ∷ os) (optionals-all_valid xs n (omega arith))

-- a tight cover of the numbers is one of the rows
pub IsTightCover-valid : (numbers : List ℤ) (ends : List ℕ) (values : List ℤ) (n m : ℕ) → n ≡ length numbers → m ≡ length values
    → IsTightCover numbers ends values → IsTightCover (optionals numbers (replicate n true)) ends (optionals values (replicate m true))
IsTightCover-valid numbers ends values n m e f c =
    rw (optionals-all_valid numbers n e, optionals-all_valid values m f) (IsTightCover-map (λ (x : ℤ). Some x) (λ x y same. cc) numbers ends values c)

-- no number is under null
pub AreZeroAtNulls-valid : (numbers : List ℤ) (n : ℕ) → AreZeroAtNulls numbers (replicate n true)
AreZeroAtNulls-valid [] n = tt
AreZeroAtNulls-valid (x ∷ numbers) zero = tt
AreZeroAtNulls-valid (x ∷ numbers) (suc n) = ((λ h. cc), AreZeroAtNulls-valid numbers n)

-- what `!=` says of values
pub differ-from_ne_of : {S : Type 0} (eq : S → S → Bool) (cmp : S → S → Ordering) (is_default : S → Type 0) (number : S → ℤ) → IsNumbered eq cmp is_default number
    → (a b : S) (r : Bool) → r ≡ not (eq a b) → r ≡ true → number b ≢ number a
differ-from_ne_of eq cmp is_default number law a b r e t same =
    let equal = (law.equal a b).1 (sym same) in
    let unequal = not-true (eq a b) (sym e ∙ t) in
    cc

pub same-from_ne_of : {S : Type 0} (eq : S → S → Bool) (cmp : S → S → Ordering) (is_default : S → Type 0) (number : S → ℤ) → IsNumbered eq cmp is_default number
    → (a b : S) (r : Bool) → r ≡ not (eq a b) → r ≡ false → number a ≡ number b
same-from_ne_of eq cmp is_default number law a b r e t = (law.equal a b).0 (not-false (eq a b) (sym e ∙ t))

-- decoded runs without null, and without null by their type
pub AreDecoded-never : {B : Type 0} (blank : B) (ends : List ℕ) (values : List B) (offset count : ℕ) (items : List B) → IsWindow ends offset count
    → Covers items ends values offset count → AreDecoded blank ends values NeverNull offset count items NeverNull
AreDecoded-never blank ends values offset count items window cover = record {
  covered = rw (blanked-none_null blank values (length values) refl) cover;
  flagged = Covers-copies true ends offset count (length ends) window refl;
  fits = tt;
  normal = tt;
  nullability = refl;
  some = λ e. cc;
}

pub AreDecoded-none_null : {B : Type 0} (blank : B) (ends : List ℕ) (values : List B) (offset count : ℕ) (items : List B) → IsWindow ends offset count
    → Covers items ends values offset count → AreDecoded blank ends values NoneNull offset count items NoneNull
AreDecoded-none_null blank ends values offset count items window cover = record {
  covered = rw (blanked-none_null blank values (length values) refl) cover;
  flagged = Covers-copies true ends offset count (length ends) window refl;
  fits = tt;
  normal = tt;
  nullability = refl;
  some = λ e. cc;
}

-- decoded runs under bits, whose rows' bits may be of any form
pub AreDecoded-marked : {B : Type 0} (blank : B) (ends : List ℕ) (values : List B) (marks : List Bool) (offset count : ℕ) (items : List B) (bits : List Bool) (form : ValidityForm)
    → Covers items ends (blanked blank (optionals values marks)) offset count → Covers bits ends marks offset count → flags form (length bits) ≡ bits → HasLength form (length bits)
    → IsNormal form → nullability_in form ≡ Nullable → (form ≡ AllNull → 0 < length bits) → AreDecoded blank ends values (ByBits marks) offset count items form
AreDecoded-marked blank ends values marks offset count items bits form covered cover flagged fits normal nullable some =
    let counted : length bits ≡ count = cover.counted in
    record {
      covered = covered;
      flagged = subst (λ (b : List Bool). Covers b ends marks offset count) (sym flagged ∙ ap (flags form) counted) cover;
      fits = subst (HasLength form) counted fits;
      normal = normal;
      nullability = nullable;
      some = λ e. subst (λ (n : ℕ). 0 < n) counted (some e);
    }
