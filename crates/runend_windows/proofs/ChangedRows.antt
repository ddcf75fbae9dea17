-- Rows that differ from the row before: their bits, and the ends of runs that they are.
use Rattle.std.proofs.Common.{◌≡◌, ◌≢◌, ◌∙◌, ◌+◌, ◌-◌, ◌≤◌, ◌<◌, ◌^◌, ◌++◌, ℕ, zero, suc, List, [], ◌∷◌, Bool, true, false, cond, Some, length, refl, sym, ap, subst, arith, get_or}
use Rattle.std.specs.Prelude.{◌↔◌, All, filter, slice_get, slice_index_or}
use Rattle.std.specs.List.{range_with_len}
use Rattle.std.proofs.lemmas.List.{append-nil, append_assoc, map-id}
use Rattle.std.proofs.lemmas.List.Elements.{All-append, All-cons, All-head, All-nil, All-tail}
use Rattle.std.proofs.lemmas.List.FromFn.{filter_of_map_range_with_len_more}
use Rattle.std.proofs.lemmas.Option.{slice_get-get_or}
use Rattle.column_base.specs.Bits.{set_indices_of}
use Rattle.column_base.specs.Words.{digit_at, first_bits, one_if}
use Rattle.column_base.proofs.WordDigits.{digit_of_bit, length-first_bits}
use Rattle.runend_windows.specs.Cover.{IsTightCover}
use Rattle.runend_windows.specs.Starts.{AreChanges, GoesOn, items_at, starts_from}
use Rattle.runend_windows.proofs.Starts.{OpenEnds, OpenEnds-done, OpenEnds-first, OpenEnds-next, OpenEnds-same}

-- the bits of words, as booleans
zero-false : (b : Bool) → one_if b ≡ 0 → b ≡ false
zero-false true e = absurd (omega arith)
zero-false false e = refl

pub AreChanges-of_words : {B : Type 0} (rows : List B) (words : List ℕ) (n : ℕ) → n ≡ length rows
    → ((row : ℕ) → row < length rows → ((digit_at words row ≡ 0) ↔ GoesOn rows row)) → AreChanges rows (first_bits n words)
AreChanges-of_words rows words n counted each = record {
  counted = length-first_bits n words ∙ counted;
  each = λ row within.
      let bit = get_or (first_bits n words) row false in
      let is : digit_at words row ≡ one_if bit = digit_of_bit n words row (omega arith) in
      let tells = each row within in (
        (λ none. tells.0 (is ∙ ap one_if none)),
        (λ goes. zero-false bit (sym is ∙ tells.1 goes)),
      );
}

-- the places of the true bits among the first n
module _ (bits : List Bool) where
  abbrev test : ℕ → Bool
  test i = slice_index_or bits i false

  abbrev places : ℕ → List ℕ
  places n = filter test (range_with_len 0 n)

  places-more : (k : ℕ) → places (k + 1) ≡ places k ++ cond (test k) (k ∷ []) []
  places-more k =
      ap (filter test) (sym (map-id (range_with_len 0 (k + 1))))
      ∙ filter_of_map_range_with_len_more test (λ (i : ℕ). i) 0 k k (omega arith)
      ∙ ap (λ (ks : List ℕ). filter test ks ++ cond (test k) (k ∷ []) []) (map-id (range_with_len 0 k))

  places-below : (limit n : ℕ) → n ≤ limit → All (λ i. i < limit) (places n)
  places-below limit zero h = All-nil (λ i. i < limit)
  places-below limit (suc n) h =
      let next : n + 1 ≡ suc n = omega arith in
      let before = places-below limit n (omega arith) in
      subst (λ (k : ℕ). All (λ i. i < limit) (places k)) next (rw (places-more n) (All-append (λ i. i < limit) (places n) (cond (test n) (n ∷ []) []) before (one (test n))))
    where
      one : (b : Bool) → All (λ i. i < limit) (cond b (n ∷ []) [])
      one true = All-cons (λ i. i < limit) n [] (omega arith) (All-nil (λ i. i < limit))
      one false = All-nil (λ i. i < limit)

module _ {B : Type 0} (blank : B) (rows : List B) (bits : List Bool) (changes : AreChanges rows bits) where
  step : (n k : ℕ) (before value : B) → k ≡ n + 1 → k < length rows → slice_get rows n ≡ Some before → slice_get rows k ≡ Some value
      → OpenEnds blank rows k (places bits k) before → OpenEnds blank rows (k + 1) (places bits (k + 1)) value
  step n k before value next within there here walk = decide (test bits k) refl
    where
      last : k - 1 ≡ n
      last = omega arith

      decide : (b : Bool) → test bits k ≡ b → OpenEnds blank rows (k + 1) (places bits (k + 1)) value
      decide true told =
          let more : places bits (k + 1) ≡ places bits k ++ k ∷ [] = places-more bits k ∙ ap (λ (b : Bool). places bits k ++ cond b (k ∷ []) []) told in
          let differ : before ≢ value = λ same.
          let goes : slice_get rows (k - 1) ≡ slice_get rows k = ap (slice_get rows) last ∙ there ∙ ap (λ (v : B). Some v) same ∙ sym here in
          let wrong : false ≡ true = sym ((changes.each k within).1 goes) ∙ told in
          cc in
          subst (λ (ends : List ℕ). OpenEnds blank rows (k + 1) ends value) (sym more) (OpenEnds-next blank rows k (places bits k) before value here differ walk)
      decide false told =
          let more : places bits (k + 1) ≡ places bits k = places-more bits k ∙ ap (λ (b : Bool). places bits k ++ cond b (k ∷ []) []) told ∙ append-nil (places bits k) in
          let goes : slice_get rows (k - 1) ≡ slice_get rows k = (changes.each k within).0 told in
          let both : Some value ≡ Some before = sym here ∙ sym goes ∙ ap (slice_get rows) last ∙ there in
          let same : value ≡ before = cc in
          subst (λ (ends : List ℕ). OpenEnds blank rows (k + 1) ends value) (sym more)
          (subst (λ (v : B). OpenEnds blank rows (k + 1) (places bits k) v) (sym same) (OpenEnds-same blank rows k (places bits k) before value here same walk))

  first : (value : B) → 0 < length rows → slice_get rows 0 ≡ Some value → OpenEnds blank rows 1 (places bits 1) value
  first value some here =
      let quiet : test bits 0 ≡ false = (changes.each 0 some).1 refl in
      let none : places bits 1 ≡ [] = ap (λ (b : Bool). cond b (0 ∷ []) []) quiet in
      subst (λ (ends : List ℕ). OpenEnds blank rows 1 ends value) (sym none) (OpenEnds-first blank rows value here)

  walk : (n : ℕ) (value : B) → n < length rows → slice_get rows n ≡ Some value → OpenEnds blank rows (n + 1) (places bits (n + 1)) value
  walk zero value within here = first value within here
  walk (suc n) value within here =
      let before = get_or rows n blank in
      let there : slice_get rows n ≡ Some before = slice_get-get_or rows n blank (omega arith) in
      let next : suc n ≡ n + 1 = omega arith in
      let rest : OpenEnds blank rows (suc n) (places bits (suc n)) before = subst (λ (k : ℕ). OpenEnds blank rows k (places bits k) before) (sym next) (walk n before (omega arith) there) in
      step n (suc n) before value next within there here rest

-- the ends of runs are the rows that differ from the row before, and the number of rows; each run shows its first row
pub IsTightCover-of_changes : {B : Type 0} (blank : B) (rows : List B) (bits : List Bool) → AreChanges rows bits → 0 < length rows → length rows < 2 ^ 64
    → IsTightCover rows (set_indices_of bits ++ length bits ∷ []) (items_at blank rows (starts_from 0 (set_indices_of bits ++ length bits ∷ [])))
IsTightCover-of_changes blank rows bits changes some small =
    let n : ℕ = length rows - 1 in
    let value = get_or rows n blank in
    let here : slice_get rows n ≡ Some value = slice_get-get_or rows n blank (omega arith) in
    let all : n + 1 ≡ length bits = omega (arith, changes.counted) in
    let whole : OpenEnds blank rows (length bits) (set_indices_of bits) value = subst (λ (k : ℕ). OpenEnds blank rows k (filter (λ i. slice_index_or bits i false) (range_with_len 0 k)) value) all (walk blank rows bits changes n value (omega arith) here) in
    OpenEnds-done blank rows (length bits) (set_indices_of bits) value small changes.counted whole

-- a place of a true bit comes after those before it
all-middle : {B : Type 0} (P : B → Type 0) (xs ys : List B) (x : B) → All P (xs ++ x ∷ ys) → P x
all-middle P [] ys x all = All-head P x ys all
all-middle P (y ∷ xs) ys x all = all-middle P xs ys x (All-tail P y (xs ++ x ∷ ys) all)

pub place-within : (bits : List Bool) (ends left rest : List ℕ) (place : ℕ) → ends ++ left ≡ set_indices_of bits → left ≡ place ∷ rest → place < length bits
place-within bits ends left rest place split step =
    let whole : set_indices_of bits ≡ ends ++ place ∷ rest = sym split ∙ ap (λ places. ends ++ places) step in
    all-middle (λ i. i < length bits) ends rest place (subst (λ (places : List ℕ). All (λ i. i < length bits) places) whole (places-below bits (length bits) (length bits) (omega arith)))

pub place-next : (bits : List Bool) (ends left rest : List ℕ) (place : ℕ) → ends ++ left ≡ set_indices_of bits → left ≡ place ∷ rest → (ends ++ place ∷ []) ++ rest ≡ set_indices_of bits
place-next bits ends left rest place split step = append_assoc ends (place ∷ []) rest ∙ ap (λ places. ends ++ places) (sym step) ∙ split
