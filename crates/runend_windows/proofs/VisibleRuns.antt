-- Which runs are visible, and where the rows of a window are among them.
use Rattle.std.proofs.Common.{◌≡◌, ℕ, ◌+◌, ◌-◌, ◌<◌, ◌≤◌, zero, suc, List, Option, None, length, arith, ap, ◌∙◌, sym, refl, slice_index, slice_range, get_or, ◌⊎◌, inl, inr, add-zero}
use Rattle.std.proofs.lemmas.Bool.{cases_lt}
use Rattle.std.proofs.lemmas.List.{get_or_default}
use Rattle.std.proofs.lemmas.List.FromFn.{get_or-map-range_with_len}
use Rattle.std.specs.List.Sorted.{IsStrictlyIncreasing}
use Rattle.column_base.proofs.Ranges.{length-slice_range, get_or-slice_range}
use Rattle.runend_windows.specs.Window.{run_at, run_rows, IsWindow}
use Rattle.runend_windows.specs.Visible.{HasRow, visible}
use Rattle.runend_windows.proofs.RunAt.{run_at-le-length, run_at-le-run_at, run_of_row_within, ended_before, ends_after}

-- the next position is in the same run or in the next one
pub run_at-step : (ends : List ℕ) (position : ℕ) → IsStrictlyIncreasing ends
    → (run_at ends (position + 1) ≡ run_at ends position) ⊎ (run_at ends (position + 1) ≡ run_at ends position + 1)
run_at-step ends position increasing =
    let grows = run_at-le-run_at ends position (position + 1) (omega arith) in
    let bound = run_at-le-length ends (position + 1) in
    elim (cases_lt (run_at ends position + 1) (run_at ends (position + 1))) [
      | inl more ↦
          let low = ends_after ends position (run_at ends position) increasing (omega arith) (omega arith) in
          let two = ended_before ends (position + 1) (run_at ends position + 1) more in
          let step = increasing (run_at ends position) (omega arith) in
          absurd (omega arith)
      | inr less ↦ elim (cases_lt (run_at ends position) (run_at ends (position + 1))) [ inl up ↦ inr (omega arith) | inr same ↦ inl (omega arith) ]
    ]

-- the first position of a run after the first
run_at-start : (ends : List ℕ) (run : ℕ) → IsStrictlyIncreasing ends → run + 1 < length ends → run_at ends (slice_index ends run) ≡ run + 1
run_at-start ends run increasing h =
    let here : run < run_at ends (slice_index ends run) = elim (cases_lt run (run_at ends (slice_index ends run))) [
      | inl less ↦ less
      | inr more ↦ let after = ends_after ends (slice_index ends run) run increasing more (omega arith) in absurd (omega arith)
    ] in
    let there : run_at ends (slice_index ends run) ≤ run + 1 = elim (cases_lt (run + 1) (run_at ends (slice_index ends run))) [
      | inl more ↦ let low = ended_before ends (slice_index ends run) (run + 1) more in let step = increasing run h in absurd (omega arith)
      | inr less ↦ less
    ] in
    omega arith

-- the visible items, as a range
pub visible_is : {B : Type 0} (ends : List ℕ) (offset count : ℕ) (items : List B) → 0 < count
    → visible ends offset count items ≡ slice_range items (run_at ends offset) (run_at ends (offset + count - 1) + 1)
visible_is ends offset zero items some = absurd (omega arith)
visible_is ends offset (suc n) items some =
    let e : offset + n ≡ offset + suc n - 1 = omega arith in
    ap (λ (p : ℕ). slice_range items (run_at ends offset) (run_at ends p + 1)) e

module _ (ends : List ℕ) (offset count : ℕ) (window : IsWindow ends offset count) (some : 0 < count) where
  abbrev pub first_visible : ℕ
  first_visible = run_at ends offset

  abbrev pub last_visible : ℕ
  last_visible = run_at ends (offset + count - 1)

  pub first_le_last_visible : first_visible ≤ last_visible
  first_le_last_visible = run_at-le-run_at ends offset (offset + count - 1) (omega arith)

  pub last_visible_within : last_visible < length ends
  last_visible_within =
      let place : offset + (count - 1) ≡ offset + count - 1 = omega arith in
      let e = ap (run_at ends) place in
      let inside = run_of_row_within ends offset count (count - 1) window (omega arith) in
      omega arith

  -- a row's run is visible
  pub row_above : (i : ℕ) → i < count → first_visible ≤ run_at ends (offset + i)
  row_above i h = run_at-le-run_at ends offset (offset + i) (omega arith)

  pub row_below : (i : ℕ) → i < count → run_at ends (offset + i) ≤ last_visible
  row_below i h = run_at-le-run_at ends (offset + i) (offset + count - 1) (omega arith)

  -- a visible run has a row, and the rows before the first of them are in earlier runs
  pub first_row : (run : ℕ) → first_visible ≤ run → run ≤ last_visible
      → (i : ℕ) × (i < count) × (run_at ends (offset + i) ≡ run) × ((j : ℕ) → j < i → run_at ends (offset + j) < run)
  first_row run low high = elim (cases_lt first_visible run) [
    | inr least ↦
        let same : first_visible ≡ run = omega arith in
        (0, some, ap (run_at ends) (add-zero offset) ∙ same, λ j h. absurd (omega arith))
    | inl later ↦
        let bound = last_visible_within in
        let inside : run - 1 + 1 < length ends = omega arith in
        let start = run_at-start ends (run - 1) window.increasing inside in
        let from : offset < slice_index ends (run - 1) = ends_after ends offset (run - 1) window.increasing (omega arith) (omega arith) in
        let to : slice_index ends (run - 1) ≤ offset + count - 1 = ended_before ends (offset + count - 1) (run - 1) (omega arith) in
        let place : offset + (slice_index ends (run - 1) - offset) ≡ slice_index ends (run - 1) = omega arith in
        let at : run_at ends (offset + (slice_index ends (run - 1) - offset)) ≡ run_at ends (slice_index ends (run - 1)) = ap (run_at ends) place in (
          slice_index ends (run - 1) - offset,
          omega arith,
          omega arith,
          λ j h. elim (cases_lt (run_at ends (offset + j)) run) [
            | inl less ↦ less
            | inr more ↦ let low = ended_before ends (offset + j) (run - 1) (omega arith) in absurd (omega arith)
          ],
        )
  ]

  -- a run has a row exactly where it is one of the first to the last visible
  pub visible-from_HasRow : (run : ℕ) → HasRow ends offset count run → (first_visible ≤ run) × (run ≤ last_visible)
  visible-from_HasRow run h =
      let w = h.within in
      let e = h.holds in
      let a = row_above h.row w in
      let b = row_below h.row w in
      (omega arith, omega arith)

  pub HasRow-of_visible : (run : ℕ) → first_visible ≤ run → run ≤ last_visible → HasRow ends offset count run
  HasRow-of_visible run low high = let r = first_row run low high in record { row = r.0; within = r.1; holds = r.2 }

  -- how many runs are visible
  abbrev pub visible_count : ℕ
  visible_count = run_at ends (offset + count - 1) + 1 - run_at ends offset

  pub length-visible : {B : Type 0} (items : List B) → length items ≡ length ends → length (visible ends offset count items) ≡ visible_count
  length-visible items paired =
      let order = first_le_last_visible in
      let inside = last_visible_within in
      ap length (visible_is ends offset count items some)
      ∙ length-slice_range items (run_at ends offset) (run_at ends (offset + count - 1) + 1) (omega arith) (omega arith)

  pub visible_at : {B : Type 0} (items : List B) (k : ℕ) (default : B) → k < visible_count → get_or (visible ends offset count items) k default ≡ get_or items (run_at ends offset + k) default
  visible_at {B} items k default h =
      ap (λ (ys : List B). get_or ys k default) (visible_is ends offset count items some)
      ∙ get_or-slice_range items (run_at ends offset) (run_at ends (offset + count - 1) + 1) k default h

  -- the place of a row's run among the visible ones
  abbrev pub place_of : ℕ → ℕ
  place_of i = run_at ends (offset + i) - run_at ends offset

  pub place_within : (i : ℕ) → i < count → place_of i < visible_count
  place_within i h =
      let low = row_above i h in
      let high = row_below i h in
      omega arith

  -- a visible run has a first row
  pub row_of_visible : (k : ℕ) → k < visible_count → (i : ℕ) × (i < count) × (place_of i ≡ k) × ((j : ℕ) → j < i → place_of j < k)
  row_of_visible k h =
      let order = first_le_last_visible in
      let r = first_row (run_at ends offset + k) (omega arith) (omega arith) in
      let within = r.1 in
      let holds = r.2 in (
        r.0,
        within,
        omega arith,
        λ j lt.
            let less = r.3 j lt in
            let low = row_above j (omega arith) in
            omega arith,
      )

  -- the next row's run is the same or the next
  pub place-step : (i : ℕ) → i + 1 < count → (place_of (i + 1) ≡ place_of i) ⊎ (place_of (i + 1) ≡ place_of i + 1)
  place-step i h =
      let low = row_above i (omega arith) in
      let at : offset + (i + 1) ≡ offset + i + 1 = omega arith in
      let place : run_at ends (offset + (i + 1)) ≡ run_at ends (offset + i + 1) = ap (run_at ends) at in
      elim (run_at-step ends (offset + i) window.increasing) [ inl same ↦ inl (omega arith) | inr next ↦ inr (omega arith) ]

  pub place-zero : place_of 0 ≡ 0
  place-zero = let e = ap (run_at ends) (add-zero offset) in omega arith

  pub place-last : place_of (count - 1) ≡ visible_count - 1
  place-last =
      let at : offset + (count - 1) ≡ offset + count - 1 = omega arith in
      let e = ap (run_at ends) at in
      let order = first_le_last_visible in
      omega arith

  pub place-grows : (i m : ℕ) → i + m < count → place_of (i + m) ≤ place_of i + m
  place-grows i zero h = let e = ap place_of (add-zero i) in omega arith
  place-grows i (suc m) h =
      let rest = place-grows i m (omega arith) in
      let at : i + suc m ≡ i + m + 1 = omega arith in
      let e = ap place_of at in
      let step = place-step (i + m) (omega arith) in
      elim step [ inl same ↦ omega arith | inr next ↦ omega arith ]

  module _ {B : Type 0} (values : List (Option B)) (paired : length values ≡ length ends) where
    -- the value of a row, among the visible ones
    pub row_visible : (default : Option B) (i : ℕ) → i < count → get_or (run_rows ends values offset count) i default ≡ get_or (visible ends offset count values) (place_of i) default
    row_visible default i h =
        let high = row_below i h in
        let low = row_above i h in
        let inside = last_visible_within in
        let back : run_at ends offset + (run_at ends (offset + i) - run_at ends offset) ≡ run_at ends (offset + i) = omega arith in
        let row = get_or-map-range_with_len _ offset count i (offset + i) default h refl ∙ get_or_default values (run_at ends (offset + i)) None default (omega arith) in
        row ∙ sym (visible_at values (place_of i) default (place_within i h) ∙ ap (λ (k : ℕ). get_or values k default) back)
