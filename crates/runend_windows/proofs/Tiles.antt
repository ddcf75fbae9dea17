-- Runs as tiles of a range of rows, by one recursion along ends and values. The laws of tight covers are proved by it,
-- and are at the end.
use Rattle.std.proofs.Common.{◌≡◌, ◌≢◌, ◌↔◌, ℕ, suc, ◌+◌, ◌<◌, ◌≤◌, List, [], ◌∷◌, Some, length, slice_index, refl, sym, subst, ◌∙◌, ap, arith, add-one, zero-add, inl, inr}
use Rattle.std.proofs.lemmas.Bool.{cases_lt}
use Rattle.std.proofs.lemmas.Option.{slice_get_within, get_or_from_slice_get}
use Rattle.std.specs.List.{slice_get, AllAdjacentBelow}
use Rattle.std.specs.List.Sorted.{IsStrictlyIncreasing}
use native.Mathlib.Numerals.{unary_clauses}
use Rattle.runend_windows.specs.Cover.{Covers, IsTightCover}
use Rattle.runend_windows.specs.Window.{last_end}
use Rattle.runend_windows.proofs.Lists.{equal_by_slice_get}
use Rattle.runend_windows.proofs.RunAt.{IsStrictlyIncreasing-tail}
use Rattle.runend_windows.proofs.ShownRuns.{shown_at, shown_at-here, shown_at-past, shown-from_Covers, equal_from_Covers}

-- the value is not the first of the list
abbrev pub Differs : {A : Type 0} → A → List A → Type 0
Differs value [] = Unit {0}
Differs value (next ∷ values) = value ≢ next

-- the runs tile the rows from `start` to `stop`: none is empty, and none can be joined with the next
abbrev pub Tiles : {A : Type 0} → ℕ → ℕ → List ℕ → List A → Type 0
Tiles start stop [] [] = start ≡ stop
Tiles start stop [] (value ∷ values) = ⊥
Tiles start stop (end ∷ ends) [] = ⊥
Tiles start stop (end ∷ ends) (value ∷ values) = (start < end) × Differs value values × Tiles end stop ends values

-- two lists of runs show the same rows from `start` to `stop`, the second ones `offset` positions later
abbrev pub Agree : {A : Type 0} → ℕ → ℕ → ℕ → List ℕ → List A → List ℕ → List A → Type 0
Agree offset start stop ends values ends' values' = (i : ℕ) → start ≤ i → i < stop → shown_at ends values i ≡ shown_at ends' values' (offset + i)

pub Tiles-le : {A : Type 0} (start stop : ℕ) (ends : List ℕ) (values : List A) → Tiles start stop ends values → start ≤ stop
Tiles-le start stop [] [] tiles = omega arith
Tiles-le start stop [] (value ∷ values) tiles = absurd tiles
Tiles-le start stop (end ∷ ends) [] tiles = absurd tiles
Tiles-le start stop (end ∷ ends) (value ∷ values) tiles = let rest = Tiles-le end stop ends values tiles.2 in let filled = tiles.0 in omega arith

-- where a run of tiles ends and another follows, the value changes
value_changes : {A : Type 0} (value : A) (end stop : ℕ) (ends : List ℕ) (values : List A) → Differs value values → Tiles end stop ends values → end < stop
    → shown_at ends values end ≡ Some value → ⊥
value_changes value end stop [] [] differs tiles more shows = omega arith
value_changes value end stop [] (value' ∷ values) differs tiles more shows = absurd tiles
value_changes value end stop (end' ∷ ends) [] differs tiles more shows = absurd tiles
value_changes value end stop (end' ∷ ends) (value' ∷ values) differs tiles more shows =
    let here = shown_at-here end' ends value' values end tiles.0 in
    let same : value ≡ value' = cc in
    differs same

-- the first of other runs that show the same reaches past the first tile only where that is the last
last_tile : {A : Type 0} (offset start stop end : ℕ) (ends : List ℕ) (value : A) (values : List A) (end' : ℕ) (ends' : List ℕ) (value' : A) (values' : List A)
    → Tiles start stop (end ∷ ends) (value ∷ values) → Agree offset start stop (end ∷ ends) (value ∷ values) (end' ∷ ends') (value' ∷ values') → offset + end < end'
    → length ends ≡ 0
last_tile offset start stop end [] value values end' ends' value' values' tiles agree reaches = refl
last_tile offset start stop end (next ∷ ends) value [] end' ends' value' values' tiles agree reaches = absurd tiles.2
last_tile offset start stop end (next ∷ ends) value (next_value ∷ values) end' ends' value' values' tiles agree reaches =
    let order = Tiles-le next stop ends values tiles.2.2 in
    let filled = tiles.0 in
    let next_filled = tiles.2.0 in
    let at_start = agree start (omega arith) (omega arith) in
    let at_end = agree end (omega arith) (omega arith) in
    let start_first = shown_at-here end (next ∷ ends) value (next_value ∷ values) start filled in
    let start_other = shown_at-here end' ends' value' values' (offset + start) (omega arith) in
    let end_other = shown_at-here end' ends' value' values' (offset + end) reaches in
    let end_past = shown_at-past end (next ∷ ends) value (next_value ∷ values) end (omega arith) in
    let end_next = shown_at-here next ends next_value values end next_filled in
    let same : value ≡ next_value = cc in
    absurd (tiles.1 same)

-- no runs that show the rows of tiles are fewer
fewest_runs : {A : Type 0} (offset start stop : ℕ) (ends : List ℕ) (values : List A) (ends' : List ℕ) (values' : List A)
    → Tiles start stop ends values → Agree offset start stop ends values ends' values' → length ends ≤ length ends'
fewest_runs offset start stop [] values ends' values' tiles agree = omega arith
fewest_runs offset start stop (end ∷ ends) [] ends' values' tiles agree = absurd tiles
fewest_runs offset start stop (end ∷ ends) (value ∷ values) [] values' tiles agree =
    let order = Tiles-le end stop ends values tiles.2 in
    let filled = tiles.0 in
    let none = agree start (omega arith) (omega arith) in
    let here = shown_at-here end ends value values start filled in
    cc
fewest_runs offset start stop (end ∷ ends) (value ∷ values) (end' ∷ ends') [] tiles agree =
    let order = Tiles-le end stop ends values tiles.2 in
    let filled = tiles.0 in
    let none = agree start (omega arith) (omega arith) in
    let here = shown_at-here end ends value values start filled in
    cc
fewest_runs offset start stop (end ∷ ends) (value ∷ values) (end' ∷ ends') (value' ∷ values') tiles agree = elim (cases_lt (offset + end) end') [
  | inl reaches ↦ let last = last_tile offset start stop end ends value values end' ends' value' values' tiles agree reaches in omega arith
  | inr ended ↦
      let filled = tiles.0 in
      let rest = fewest_runs offset end stop ends values ends' values' tiles.2 (λ i from to.
      sym (shown_at-past end ends value values i from) ∙ agree i (omega arith) to ∙ shown_at-past end' ends' value' values' (offset + i) (omega arith)) in
      omega arith
]

-- a first tile does not end before that of other tiles of the same rows
first_end-le : {A : Type 0} (start stop end : ℕ) (ends : List ℕ) (value : A) (values : List A) (end' : ℕ) (ends' : List ℕ) (value' : A) (values' : List A)
    → Tiles start stop (end ∷ ends) (value ∷ values) → Tiles start stop (end' ∷ ends') (value' ∷ values')
    → ((i : ℕ) → start ≤ i → i < stop → shown_at (end ∷ ends) (value ∷ values) i ≡ shown_at (end' ∷ ends') (value' ∷ values') i) → end' ≤ end
first_end-le start stop end ends value values end' ends' value' values' tiles tiles' agree = elim (cases_lt end end') [
  | inl before ↦
      let order = Tiles-le end' stop ends' values' tiles'.2 in
      let filled = tiles.0 in
      let filled' = tiles'.0 in
      let at_start = agree start (omega arith) (omega arith) in
      let start_first = shown_at-here end ends value values start filled in
      let start_other = shown_at-here end' ends' value' values' start filled' in
      let at_end = agree end (omega arith) (omega arith) in
      let end_past = shown_at-past end ends value values end (omega arith) in
      let end_other = shown_at-here end' ends' value' values' end before in
      let shows : shown_at ends values end ≡ Some value = cc in
      absurd (value_changes value end stop ends values tiles.1 tiles.2 (omega arith) shows)
  | inr from ↦ from
]

-- two lists of tiles that show the same rows are the same
equal_tiles : {A : Type 0} (start stop : ℕ) (ends : List ℕ) (values : List A) (ends' : List ℕ) (values' : List A)
    → Tiles start stop ends values → Tiles start stop ends' values' → ((i : ℕ) → start ≤ i → i < stop → shown_at ends values i ≡ shown_at ends' values' i)
    → (ends ≡ ends') × (values ≡ values')
equal_tiles start stop [] [] [] [] tiles tiles' agree = (refl, refl)
equal_tiles start stop [] [] [] (value' ∷ values') tiles tiles' agree = absurd tiles'
equal_tiles start stop [] [] (end' ∷ ends') [] tiles tiles' agree = absurd tiles'
equal_tiles start stop [] [] (end' ∷ ends') (value' ∷ values') tiles tiles' agree =
    let order = Tiles-le end' stop ends' values' tiles'.2 in
    let filled = tiles'.0 in
    absurd (omega arith)
equal_tiles start stop [] (value ∷ values) ends' values' tiles tiles' agree = absurd tiles
equal_tiles start stop (end ∷ ends) [] ends' values' tiles tiles' agree = absurd tiles
equal_tiles start stop (end ∷ ends) (value ∷ values) [] [] tiles tiles' agree =
    let order = Tiles-le end stop ends values tiles.2 in
    let filled = tiles.0 in
    absurd (omega arith)
equal_tiles start stop (end ∷ ends) (value ∷ values) [] (value' ∷ values') tiles tiles' agree = absurd tiles'
equal_tiles start stop (end ∷ ends) (value ∷ values) (end' ∷ ends') [] tiles tiles' agree = absurd tiles'
equal_tiles start stop (end ∷ ends) (value ∷ values) (end' ∷ ends') (value' ∷ values') tiles tiles' agree =
    let order = Tiles-le end stop ends values tiles.2 in
    let filled = tiles.0 in
    let filled' = tiles'.0 in
    let at_start = agree start (omega arith) (omega arith) in
    let first = shown_at-here end ends value values start filled in
    let other = shown_at-here end' ends' value' values' start filled' in
    let same_value : value ≡ value' = cc in
    let no_more = first_end-le start stop end ends value values end' ends' value' values' tiles tiles' agree in
    let no_less = first_end-le start stop end' ends' value' values' end ends value values tiles' tiles (λ i from to. sym (agree i from to)) in
    let same_end : end ≡ end' = omega arith in
    let rest = equal_tiles end stop ends values ends' values' tiles.2 (subst (λ (x : ℕ). Tiles x stop ends' values') (sym same_end) tiles'.2) (λ i from to.
    sym (shown_at-past end ends value values i from) ∙ agree i (omega arith) to ∙ shown_at-past end' ends' value' values' i (omega arith)) in
    let same_ends = rest.0 in
    let same_values = rest.1 in
    (cc, cc)

-- the last end is that of the ends past the first
pub last_end-next : (end next : ℕ) (ends : List ℕ) → last_end (end ∷ next ∷ ends) ≡ last_end (next ∷ ends)
last_end-next end next ends = simp unary_clauses

-- ends that increase from above `start` to `stop`, with values of which each differs from the next, are tiles
Tiles-from_parts : {A : Type 0} (start stop : ℕ) (ends : List ℕ) (values : List A) → length values ≡ length ends → IsStrictlyIncreasing ends
    → (0 < length ends → start < slice_index ends 0) → (length ends ≡ 0 → start ≡ stop) → (0 < length ends → last_end ends ≡ stop)
    → AllAdjacentBelow (λ x y. x ≢ y) values (length values) → Tiles start stop ends values
Tiles-from_parts start stop [] [] paired increasing first none last differ = none refl
Tiles-from_parts start stop [] (value ∷ values) paired increasing first none last differ = cc
Tiles-from_parts start stop (end ∷ ends) [] paired increasing first none last differ = cc
Tiles-from_parts start stop (end ∷ []) (value ∷ []) paired increasing first none last differ = (first (omega arith), tt, last (omega arith))
Tiles-from_parts start stop (end ∷ []) (value ∷ next_value ∷ values) paired increasing first none last differ = absurd (omega arith)
Tiles-from_parts start stop (end ∷ next ∷ ends) (value ∷ []) paired increasing first none last differ = absurd (omega arith)
Tiles-from_parts start stop (end ∷ next ∷ ends) (value ∷ next_value ∷ values) paired increasing first none last differ = (
  first (omega arith),
  differ 0 value (omega arith),
  Tiles-from_parts end stop (next ∷ ends) (next_value ∷ values) (omega arith)
      (IsStrictlyIncreasing-tail end (next ∷ ends) increasing)
      (λ _. increasing 0 (omega arith))
      (λ z. absurd (omega arith))
      (λ _. sym (last_end-next end next ends) ∙ last (omega arith))
      (λ k d h. let at = differ (suc k) d (omega arith) in rw add-one (rw add-one at at)),
)

-- the runs of a tight cover are tiles
pub Tiles-from_IsTightCover : {A : Type 0} (rows : List A) (ends : List ℕ) (values : List A) → IsTightCover rows ends values → Tiles 0 (length rows) ends values
Tiles-from_IsTightCover rows ends values c = Tiles-from_parts 0 (length rows) ends values c.covers.paired c.covers.window.increasing c.tight.filled
    (λ z. sym (c.covers.window.none z).1) (λ _. c.exact.stop) c.tight.differ

-- what a tight cover shows at a row
pub shown-from_IsTightCover : {A : Type 0} (rows : List A) (ends : List ℕ) (values : List A) (i : ℕ) → IsTightCover rows ends values → i < length rows
    → shown_at ends values i ≡ slice_get rows i
shown-from_IsTightCover rows ends values i c h = sym (shown-from_Covers rows ends values 0 (length rows) i c.covers h ∙ ap (shown_at ends values) (zero-add i))

-- two tight covers of a list are one
pub unique_tight_cover : {A : Type 0} (rows : List A) (ends ends' : List ℕ) (values values' : List A)
    → IsTightCover rows ends values → IsTightCover rows ends' values' → (ends ≡ ends') × (values ≡ values')
unique_tight_cover rows ends ends' values values' c c' = equal_tiles 0 (length rows) ends values ends' values'
    (Tiles-from_IsTightCover rows ends values c) (Tiles-from_IsTightCover rows ends' values' c')
    (λ i _ h. shown-from_IsTightCover rows ends values i c h ∙ sym (shown-from_IsTightCover rows ends' values' i c' h))

-- no cover of a list has fewer runs than a tight one
pub no_shorter_cover : {A : Type 0} (rows : List A) (ends ends' : List ℕ) (values values' : List A) (offset count : ℕ)
    → IsTightCover rows ends values → Covers rows ends' values' offset count → length ends ≤ length ends'
no_shorter_cover rows ends ends' values values' offset count c cover =
    let counted = cover.counted in
    fewest_runs offset 0 (length rows) ends values ends' values' (Tiles-from_IsTightCover rows ends values c)
    (λ i _ h. shown-from_IsTightCover rows ends values i c h ∙ shown-from_Covers rows ends' values' offset count i cover (omega arith))

-- a list covered by the runs of a tight cover is that cover's list
pub rows_of_tight_cover : {A : Type 0} (rows rows' : List A) (ends : List ℕ) (values : List A)
    → IsTightCover rows ends values → Covers rows' ends values 0 (length rows) → rows' ≡ rows
rows_of_tight_cover rows rows' ends values c cover = equal_from_Covers rows' rows ends values 0 (length rows) cover c.covers

-- equal tight covers are of equal lists
pub equal_rows : {A : Type 0} (rows rows' : List A) (ends ends' : List ℕ) (values values' : List A)
    → IsTightCover rows ends values → IsTightCover rows' ends' values' → ends ≡ ends' → values ≡ values' → rows ≡ rows'
equal_rows rows rows' ends ends' values values' c c' same_ends same_values =
    let counted : length rows ≡ length rows' = sym c.exact.stop ∙ ap last_end same_ends ∙ c'.exact.stop in
    equal_by_slice_get rows rows' counted (λ i h.
    let row = shown-from_IsTightCover rows ends values i c h in
    let row' = shown-from_IsTightCover rows' ends' values' i c' (omega arith) in
    cc)

-- lists are equal exactly where their tight covers are
pub equal_rows_iff : {A : Type 0} (rows rows' : List A) (ends ends' : List ℕ) (values values' : List A)
    → IsTightCover rows ends values → IsTightCover rows' ends' values' → (rows ≡ rows') ↔ ((ends ≡ ends') × (values ≡ values'))
equal_rows_iff {A} rows rows' ends ends' values values' c c' = (
  (λ same. unique_tight_cover rows ends ends' values values' c (subst (λ (xs : List A). IsTightCover xs ends' values') (sym same) c')),
  (λ same. equal_rows rows rows' ends ends' values values' c c' same.0 same.1),
)

-- the values of neighbouring runs of a tight cover differ
pub neighbours_of_tight_cover : {A : Type 0} (rows : List A) (ends : List ℕ) (values : List A) (k : ℕ) (value next : A)
    → IsTightCover rows ends values → slice_get values k ≡ Some value → slice_get values (k + 1) ≡ Some next → value ≢ next
neighbours_of_tight_cover rows ends values k value next c here there same =
    let first = get_or_from_slice_get values k value value here in
    let second = get_or_from_slice_get values (k + 1) next value there in
    c.tight.differ k value (slice_get_within values (k + 1) next there) (first ∙ same ∙ sym second)
