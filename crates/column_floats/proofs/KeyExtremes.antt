-- The least and the greatest key so far, and what they are to floats.
use Rattle.std.proofs.Common.{◌≡◌, ◌∙◌, ℕ, ℤ, ◌+◌, zero, suc, Bool, true, inl, inr, List, ◌∷◌, [], ◌++◌, Option, Some, None, map, take, refl, sym, ap, subst, arith, add-one}
use Rattle.std.specs.Prelude.{◌⊎◌, ◌↔◌, Contains, IfSome, IsTrue, MatchOption, slice_get}
use Rattle.std.proofs.lemmas.Int.{ints}
use Rattle.std.proofs.lemmas.List.{map-append}
use Rattle.std.proofs.lemmas.List.Elements.{Contains-append_left, Contains-push, Contains-push_cases}
use Rattle.float_bits.specs.declared.formats.FloatFormat.{FloatFormat}
use Rattle.float_bits.specs.Format.{IsPattern}
use Rattle.float_bits.specs.TotalOrder.{total_key}
use Rattle.column_floats.specs.Extremes.{AreEnds, AreExtremes, AreKeyExtremes, AreKeysIn, HasKey, HaveKeys, IsCounted, IsExtendedBy, NoneCounts, NonePasses}
use Rattle.column_floats.specs.Formats.{IsKey}

module _ (test : ℤ → Bool) (keys : List (Option ℤ)) where
  -- a row that does not pass changes nothing
  pub none_more : (row : Option ℤ) → NonePasses test keys → IfSome row (λ k. ¬ (test k ≡ true)) → NonePasses test (keys ++ row ∷ [])
  none_more row none fails key there passes = elim (Contains-push_cases keys row (Some key) there) [
    | inl before ↦ none key before passes
    | inr last ↦ (subst (λ (o : Option ℤ). IfSome o (λ k. ¬ (test k ≡ true))) last fails) passes
  ]

  pub ends_stay : (row : Option ℤ) (least greatest : ℤ) → AreKeyExtremes test keys least greatest → IfSome row (λ k. ¬ (test k ≡ true)) → AreKeyExtremes test (keys ++ row ∷ []) least greatest
  ends_stay row least greatest ends fails = record {
    least_is = (Contains-append_left keys (row ∷ []) (Some least) ends.least_is.0, ends.least_is.1);
    greatest_is = (Contains-append_left keys (row ∷ []) (Some greatest) ends.greatest_is.0, ends.greatest_is.1);
    bounds = λ key there passes. elim (Contains-push_cases keys row (Some key) there) [
      | inl before ↦ ends.bounds key before passes
      | inr last ↦ absurd ((subst (λ (o : Option ℤ). IfSome o (λ k. ¬ (test k ≡ true))) last fails) passes)
    ];
  }

  -- the first one that passes is both
  pub ends_begin : (key : ℤ) → NonePasses test keys → test key ≡ true → AreKeyExtremes test (keys ++ Some key ∷ []) key key
  ends_begin key none passes = record {
    least_is = (Contains-push keys (Some key), passes);
    greatest_is = (Contains-push keys (Some key), passes);
    bounds = λ other there is. elim (Contains-push_cases keys (Some key) (Some other) there) [
      | inl before ↦ absurd (none other before is)
      | inr last ↦ let same : key ≡ other = cc in (omega (arith, ints), omega (arith, ints))
    ];
  }

  picked : (next old key : ℤ) → (next ≡ old) ⊎ (next ≡ key) → Contains keys (Some old) × (test old ≡ true) → test key ≡ true → Contains (keys ++ Some key ∷ []) (Some next) × (test next ≡ true)
  picked next old key (inl is) held passes =
      subst (λ (k : ℤ). Contains (keys ++ Some key ∷ []) (Some k) × (test k ≡ true)) (sym is) (Contains-append_left keys (Some key ∷ []) (Some old) held.0, held.1)
  picked next old key (inr is) held passes =
      subst (λ (k : ℤ). Contains (keys ++ Some key ∷ []) (Some k) × (test k ≡ true)) (sym is) (Contains-push keys (Some key), passes)

  -- each further one extends them
  pub ends_grow : (least greatest key low high : ℤ) → AreKeyExtremes test keys least greatest → test key ≡ true → IsExtendedBy least greatest key low high → AreKeyExtremes test (keys ++ Some key ∷ []) low high
  ends_grow least greatest key low high ends passes more =
      let below = more.below in
      let above = more.above in
      record {
        least_is = picked low least key more.least_is ends.least_is passes;
        greatest_is = picked high greatest key more.greatest_is ends.greatest_is passes;
        bounds = λ other there is. elim (Contains-push_cases keys (Some key) (Some other) there) [
          | inl before ↦ let held = ends.bounds other before is in (omega (arith, ints), omega (arith, ints))
          | inr last ↦ let same : key ≡ other = cc in (omega (arith, ints), omega (arith, ints))
        ];
      }

-- extremes of keys are those of the floats that have them
module _ (f : FloatFormat) (Counts : ℕ → Type 0) (test : ℤ → Bool) (each : (bits : ℕ) → IsPattern f bits → IsTrue (test (total_key f bits)) ↔ Counts bits) (keys : List (Option ℤ)) where
  counted : (bits : ℕ) (key : ℤ) → HasKey f bits key → Contains keys (Some key) × (test key ≡ true) → IsCounted Counts f keys bits
  counted bits key has held = record {
    pattern = has.0;
    row = subst (λ (k : ℤ). Contains keys (Some k)) (sym has.1) held.0;
    counts = (each bits has.0).0 (subst (λ (k : ℤ). test k ≡ true) (sym has.1) held.1);
  }

  extremes : (least greatest : ℕ) (low high : ℤ) → HasKey f least low → HasKey f greatest high → AreKeyExtremes test keys low high → AreExtremes Counts f keys least greatest
  extremes least greatest low high first last ends = record {
    least_is = counted least low first ends.least_is;
    greatest_is = counted greatest high last ends.greatest_is;
    bounds = λ bits is.
        let held = ends.bounds (total_key f bits) is.row ((each bits is.pattern).1 is.counts) in
        let low_is = first.1 in
        let high_is = last.1 in
        (omega (arith, ints), omega (arith, ints));
  }

  -- and where no key passes, no float counts
  pub float_ends : (floats : Option (ℕ × ℕ)) (found : Option (ℤ × ℤ)) → HaveKeys f floats found → AreEnds test keys found
      → MatchOption floats (NoneCounts Counts f keys) (λ ends. AreExtremes Counts f keys ends.0 ends.1)
  float_ends None None have none = λ bits is. none (total_key f bits) is.row ((each bits is.pattern).1 is.counts)
  float_ends None (Some ends) have known = absurd have
  float_ends (Some floats) None have known = absurd have
  float_ends (Some floats) (Some ends) have known = extremes floats.0 floats.1 ends.0 ends.1 have.0 have.1 known

-- lists with the same keys have the same extremes
pub same_ends : (test : ℤ → Bool) (keys rows : List (Option ℤ)) (found : Option (ℤ × ℤ)) → ((key : Option ℤ) → Contains rows key ↔ Contains keys key) → AreEnds test keys found → AreEnds test rows found
same_ends test keys rows None same none = λ key there passes. none key ((same (Some key)).0 there) passes
same_ends test keys rows (Some ends) same known = record {
  least_is = ((same (Some ends.0)).1 known.least_is.0, known.least_is.1);
  greatest_is = ((same (Some ends.1)).1 known.greatest_is.0, known.greatest_is.1);
  bounds = λ key there passes. known.bounds key ((same (Some key)).0 there) passes;
}

-- the extremes with a key that passes
pub ends_next : (test : ℤ → Bool) (keys : List (Option ℤ)) (found : Option (ℤ × ℤ)) (key low high : ℤ) → AreEnds test keys found → test key ≡ true
    → (found ≡ None → (low ≡ key) × (high ≡ key)) → IfSome found (λ ends. IsExtendedBy ends.0 ends.1 key low high) → AreEnds test (keys ++ Some key ∷ []) (Some (low, high))
ends_next test keys None key low high none passes first next =
    let is = first refl in
    subst (λ (h : ℤ). AreKeyExtremes test (keys ++ Some key ∷ []) low h) (sym is.1)
    (subst (λ (l : ℤ). AreKeyExtremes test (keys ++ Some key ∷ []) l key) (sym is.0) (ends_begin test keys key none passes))
ends_next test keys (Some ends) key low high known passes first next = ends_grow test keys ends.0 ends.1 key low high known passes next

-- and with a row that does not
pub ends_same : (test : ℤ → Bool) (keys : List (Option ℤ)) (found : Option (ℤ × ℤ)) (row : Option ℤ) → AreEnds test keys found → IfSome row (λ k. ¬ (test k ≡ true)) → AreEnds test (keys ++ row ∷ []) found
ends_same test keys None row none fails = none_more test keys row none fails
ends_same test keys (Some ends) row known fails = ends_stay test keys row ends.0 ends.1 known fails

-- which are keys of the format
pub keys_fit : (f : FloatFormat) (found : Option (ℤ × ℤ)) (key low high : ℤ) → AreKeysIn f found → IsKey f key → (found ≡ None → (low ≡ key) × (high ≡ key))
    → IfSome found (λ ends. IsExtendedBy ends.0 ends.1 key low high) → AreKeysIn f (Some (low, high))
keys_fit f None key low high fit is first next = let same = first refl in (subst (IsKey f) (sym same.0) is, subst (IsKey f) (sym same.1) is)
keys_fit f (Some ends) key low high fit is first next = (one_fits f low ends.0 key next.least_is fit.0 is, one_fits f high ends.1 key next.greatest_is fit.1 is)
  where
    one_fits : (f : FloatFormat) (next old key : ℤ) → (next ≡ old) ⊎ (next ≡ key) → IsKey f old → IsKey f key → IsKey f next
    one_fits f next old key (inl same) old_fits fits = subst (IsKey f) (sym same) old_fits
    one_fits f next old key (inr same) old_fits fits = subst (IsKey f) (sym same) fits

-- one item more of a list
take_next : {X : Type 0} (xs : List X) (k : ℕ) (x : X) → slice_get xs k ≡ Some x → take (suc k) xs ≡ take k xs ++ x ∷ []
take_next [] k x is = cc
take_next (y ∷ xs) zero x is = cc
take_next (y ∷ xs) (suc k) x is = ap (λ ys. y ∷ ys) (take_next xs k x is)

pub take_more : {X : Type 0} (xs : List X) (k : ℕ) (x : X) → slice_get xs k ≡ Some x → take (k + 1) xs ≡ take k xs ++ x ∷ []
take_more xs k x is = rw add-one (take_next xs k x is)

pub mapped_more : {X Y : Type 0} (f : X → Y) (xs : List X) (k : ℕ) (x : X) (y : Y) (now next : List Y) → slice_get xs k ≡ Some x → now ≡ map f (take k xs) → y ≡ f x → next ≡ now ++ y ∷ [] → next ≡ map f (take (k + 1) xs)
mapped_more f xs k x y now next is so_far made pushed =
    pushed ∙ (λ i. so_far i ++ made i ∷ []) ∙ sym (map-append f (take k xs) (x ∷ [])) ∙ ap (map f) (sym (take_more xs k x is))
