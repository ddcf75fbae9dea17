-- Answers that grow by a stretch of rows of one answer.
use Rattle.std.proofs.Common.{◌≡◌, ℕ, zero, suc, ◌+◌, ◌-◌, ◌^◌, ◌<◌, ◌≤◌, List, [], ◌∷◌, ◌++◌, Bool, true, false, Option, Some, None, length, map, refl, sym, subst, ◌∙◌, ap, arith, inl, inr, add-zero}
use Rattle.std.specs.Prelude.{◌⊎◌, All, if◌then◌else◌, is_some, slice_get}
use Rattle.std.proofs.lemmas.List.{length-map, map-append}
use Rattle.column_core.proofs.OptionalRows.{AreBlankAtNulls-push, optionals-push}
use Rattle.column_core.specs.Optionals.{optionals}
use Rattle.std.proofs.lemmas.Bool.{cases_eq, cases_lt}
use Rattle.std.proofs.lemmas.List.Elements.{All-nil, All-push}
use Rattle.std.proofs.lemmas.Option.{slice_get_within}
use Rattle.column_core.specs.Optionals.{AreBlankAtNulls}
use Rattle.column_core.specs.Value.{FlatValue, Value}
use Rattle.runend_windows.specs.Cover.{IsTightCover}
use Rattle.runend_windows.proofs.Grow.{IsTightCover-of_none, Open, Open-done, Open-first, Open-next, Open-same}
use Rattle.runend_pairs.specs.Answers.{row_of, rows_of_items}
use Rattle.runend_pairs.specs.Zipped.{AllHave}

-- an answer from the item that is stored for it and its flag
item_parts : {Z : Type 0} (answer : Option Z) (item : Z) → ((found : Z) → answer ≡ Some found → item ≡ found) → (if is_some answer then Some item else None) ≡ answer
item_parts None item same = refl
item_parts (Some found) item same = ap Some (same found refl)

-- one more answer is stored
pub rows_pushed : {Z : Type 0} (shown : Z → FlatValue) (items : List Z) (bits : List Bool) (item : Z) (answer : Option Z) → length bits ≡ length items → ((found : Z) → answer ≡ Some found → item ≡ found)
    → rows_of_items shown (items ++ item ∷ []) (bits ++ is_some answer ∷ []) ≡ rows_of_items shown items bits ++ row_of shown answer ∷ []
rows_pushed shown items bits item answer paired same =
    ap (map (row_of shown)) (optionals-push items bits item (is_some answer) paired ∙ ap (λ o. optionals items bits ++ o ∷ []) (item_parts answer item same))
    ∙ map-append (row_of shown) (optionals items bits) (answer ∷ [])

pub blanks_pushed : {Z : Type 0} (shown : Z → FlatValue) (blank : FlatValue) (items : List Z) (bits : List Bool) (item : Z) (answer : Option Z) → length bits ≡ length items
    → (is_some answer ≡ false → shown item ≡ blank) → AreBlankAtNulls blank (map shown items) bits → AreBlankAtNulls blank (map shown (items ++ item ∷ [])) (bits ++ is_some answer ∷ [])
blanks_pushed shown blank items bits item answer paired stored before =
    let long = length-map items shown in
    rw (map-append shown items (item ∷ [])) (AreBlankAtNulls-push blank (map shown items) bits (shown item) (is_some answer) (omega arith) stored before)

-- rows of the open run's value go to the open run
Open-more : {A : Type 0} (rows : List A) (reached n : ℕ) (ends : List ℕ) (values : List A) (value : A) → ((k : ℕ) → reached ≤ k → k < reached + n → slice_get rows k ≡ Some value)
    → Open rows reached ends values value → Open rows (reached + n) ends values value
Open-more rows reached zero ends values value here opened = rw (add-zero reached) opened
Open-more rows reached (suc n) ends values value here opened =
    let place : reached + 1 + n ≡ reached + suc n = omega arith in
    let one = Open-same rows reached ends values value value (here reached (omega arith) (omega arith)) refl opened in
    rw place at (Open-more rows (reached + 1) n ends values value (λ k from before. here k (omega arith) (omega arith)) one)

Open-to : {A : Type 0} (rows : List A) (reached stop : ℕ) (ends : List ℕ) (values : List A) (value : A) → reached ≤ stop → ((k : ℕ) → reached ≤ k → k < stop → slice_get rows k ≡ Some value)
    → Open rows reached ends values value → Open rows stop ends values value
Open-to rows reached stop ends values value later here opened =
    let whole : reached + (stop - reached) ≡ stop = omega arith in
    rw whole at (Open-more rows reached (stop - reached) ends values value (λ k from before. here k from (omega arith)) opened)

-- the closed runs and the open one are a tight cover of the rows before `reached`, of which each has its answer; none
-- of them is null where the operation answers no null
pub record IsGrown {Z : Type 0} (shown : Z → FlatValue) (blank : FlatValue) (never : Type 0) (has : Option Value → Type 0) (rows : List (Option Value)) (reached : ℕ) (ends : List ℕ) (items : List Z)
    (bits : List Bool) (last : Option Z) : Type 0 where
  pub paired : length bits ≡ length items
  pub blanked : AreBlankAtNulls blank (map shown items) bits
  pub filled : never → All (λ bit. bit ≡ true) bits
  pub some : never → 0 < reached → is_some last ≡ true
  pub no_ends : reached ≡ 0 → ends ≡ []
  pub no_items : reached ≡ 0 → rows_of_items shown items bits ≡ []
  pub runs : 0 < reached → Open rows reached ends (rows_of_items shown items bits) (row_of shown last)
  pub fit : (k : ℕ) (answer : Option Value) → k < reached → slice_get rows k ≡ Some answer → has answer

-- before the first row there is nothing
pub IsGrown-none : {Z : Type 0} (shown : Z → FlatValue) (blank : FlatValue) (never : Type 0) (has : Option Value → Type 0) (rows : List (Option Value)) (last : Option Z)
    → IsGrown shown blank never has rows 0 [] [] [] last
IsGrown-none shown blank never has rows last = record {
  paired = refl;
  blanked = tt;
  filled = λ _. All-nil (λ (bit : Bool). bit ≡ true);
  some = λ _ h. absurd (omega arith);
  no_ends = λ _. refl;
  no_items = λ _. refl;
  runs = λ h. absurd (omega arith);
  fit = λ k answer h is. absurd (omega arith);
}

-- a stretch of rows that all have one answer, which is found
pub record IsStretch {Z : Type 0} (shown : Z → FlatValue) (never : Type 0) (has : Option Value → Type 0) (rows : List (Option Value)) (reached stop : ℕ) (found : Option Z) : Type 0 where
  pub later : reached < stop
  pub all : (k : ℕ) → reached ≤ k → k < stop → slice_get rows k ≡ Some (row_of shown found)
  pub had : has (row_of shown found)
  pub filled : never → is_some found ≡ true

module _ {Z : Type 0} (shown : Z → FlatValue) (blank : FlatValue) (never : Type 0) (has : Option Value → Type 0) (rows : List (Option Value)) (reached stop : ℕ) (ends : List ℕ) (items : List Z)
    (bits : List Bool) (last found : Option Z) (stretch : IsStretch shown never has rows reached stop found) (grown : IsGrown shown blank never has rows reached ends items bits last) where
  all_fit : (k : ℕ) (answer : Option Value) → k < stop → slice_get rows k ≡ Some answer → has answer
  all_fit k answer before is = elim (cases_lt k reached) [
    | inl earlier ↦ grown.fit k answer earlier is
    | inr from ↦
        let here = stretch.all k from before in
        let same : row_of shown found ≡ answer = cc in
        subst has same stretch.had
  ]

  -- it opens the first run, or goes to the open one
  pub IsGrown-on : (reached ≡ 0) ⊎ (row_of shown last ≡ row_of shown found) → IsGrown shown blank never has rows stop ends items bits found
  IsGrown-on goes =
      let later = stretch.later in
      record {
        paired = grown.paired;
        blanked = grown.blanked;
        filled = grown.filled;
        some = λ n _. stretch.filled n;
        no_ends = λ e. absurd (omega arith);
        no_items = λ e. absurd (omega arith);
        runs = λ _. elim (cases_eq reached 0) [
          | inl first ↦
              let opened = Open-first rows (row_of shown found) (stretch.all 0 (omega arith) (omega arith)) in
              rw (grown.no_ends first, grown.no_items first)
              (Open-to rows 1 stop [] [] (row_of shown found) (omega arith) (λ k from before. stretch.all k (omega arith) before) opened)
          | inr other ↦ elim goes [
            | inl first ↦ absurd (other first)
            | inr same ↦
                let opened = grown.runs (omega arith) in
                let kept = Open-to rows reached stop ends (rows_of_items shown items bits) (row_of shown last) (omega arith)
                (λ k from before. stretch.all k from before ∙ ap Some (sym same)) opened in
                subst (λ (row : Option Value). Open rows stop ends (rows_of_items shown items bits) row) same kept
          ]
        ];
        fit = all_fit;
      }

  -- it closes the open run, and opens the next
  pub IsGrown-turned : (more : List Z) (flags : List Bool) → (((reached ≡ 0) ⊎ (row_of shown last ≡ row_of shown found)) → ⊥) → flags ≡ bits ++ is_some last ∷ [] → length flags ≡ length more
      → AreBlankAtNulls blank (map shown more) flags → rows_of_items shown more flags ≡ rows_of_items shown items bits ++ row_of shown last ∷ []
      → IsGrown shown blank never has rows stop (ends ++ reached ∷ []) more flags found
  IsGrown-turned more flags turns marked paired blanked pushed =
      let later = stretch.later in
      let before : 0 < reached = elim (cases_eq reached 0) [ inl first ↦ absurd (turns (inl first)) | inr other ↦ omega arith ] in
      record {
        paired = paired;
        blanked = blanked;
        filled = λ n. rw marked (All-push (λ (bit : Bool). bit ≡ true) bits (is_some last) (grown.filled n) (grown.some n before));
        some = λ n _. stretch.filled n;
        no_ends = λ e. absurd (omega arith);
        no_items = λ e. absurd (omega arith);
        runs = λ _.
            let opened = Open-next rows reached ends (rows_of_items shown items bits) (row_of shown last) (row_of shown found) (stretch.all reached (omega arith) later) (λ same. turns (inr same)) (grown.runs before) in
            rw pushed
            (Open-to rows (reached + 1) stop (ends ++ reached ∷ []) (rows_of_items shown items bits ++ row_of shown last ∷ []) (row_of shown found) (omega arith)
            (λ k from h. stretch.all k (omega arith) h) opened);
        fit = all_fit;
      }

-- past the last row all runs are closed
pub cover_of_grown : {Z : Type 0} (shown : Z → FlatValue) (blank : FlatValue) (never : Type 0) (has : Option Value → Type 0) (rows : List (Option Value)) (reached : ℕ) (ends : List ℕ) (items : List Z)
    (bits : List Bool) (last : Option Z) (values : List (Option Value)) → IsGrown shown blank never has rows reached ends items bits last → 0 < reached → reached ≡ length rows → length rows < 2 ^ 64
    → values ≡ rows_of_items shown items bits ++ row_of shown last ∷ [] → IsTightCover rows (ends ++ reached ∷ []) values
cover_of_grown shown blank never has rows reached ends items bits last values grown some all small pushed =
    rw pushed (Open-done rows reached ends (rows_of_items shown items bits) (row_of shown last) small all (grown.runs some))

pub cover_of_none : {Z : Type 0} (shown : Z → FlatValue) (blank : FlatValue) (never : Type 0) (has : Option Value → Type 0) (rows : List (Option Value)) (reached : ℕ) (ends : List ℕ) (items : List Z)
    (bits : List Bool) (last : Option Z) → IsGrown shown blank never has rows reached ends items bits last → reached ≡ 0 → length rows ≡ 0 → IsTightCover rows ends (rows_of_items shown items bits)
cover_of_none shown blank never has rows reached ends items bits last grown none empty = rw (grown.no_ends none, grown.no_items none) (IsTightCover-of_none rows empty)

-- and each of the rows has its answer
pub all_had : {Z : Type 0} (shown : Z → FlatValue) (blank : FlatValue) (never : Type 0) (has : Option Value → Type 0) (rows : List (Option Value)) (reached : ℕ) (ends : List ℕ) (items : List Z)
    (bits : List Bool) (last : Option Z) → IsGrown shown blank never has rows reached ends items bits last → length rows ≤ reached → AllHave has rows
all_had shown blank never has rows reached ends items bits last grown all k answer at =
    let within = slice_get_within rows k answer at in
    grown.fit k answer (omega (arith, within, all)) at
