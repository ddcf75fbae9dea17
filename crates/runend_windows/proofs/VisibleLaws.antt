-- What holds of the rows of a window exactly where it holds of its visible runs.
use Rattle.std.proofs.Common.{◌≡◌, ◌↔◌, ℕ, ◌+◌, ◌-◌, ◌<◌, ◌≤◌, zero, suc, List, Option, Some, None, length, map, arith, ap, ◌∙◌, sym, subst, refl, slice_index, get_or, inl, inr, add_assoc}
use Rattle.std.proofs.lemmas.Bool.{cases_lt}
use Rattle.std.proofs.lemmas.List.{ext_get_or, length-map}
use Rattle.std.proofs.lemmas.List.FromFn.{get_or-map-range_with_len}
use Rattle.std.specs.List.{All, AllAdjacentBelow, Contains}
use Rattle.runend_windows.specs.Window.{run_at, run_rows, IsWindow}
use Rattle.runend_windows.specs.Visible.{FailsFirst, HasRow, visible}
use Rattle.runend_windows.proofs.RunAt.{ends_past}
use Rattle.runend_windows.proofs.RunRows.{length-run_rows}
use Rattle.runend_windows.proofs.SlicedRuns.{run_at-slice_range}
use Rattle.runend_windows.proofs.VisibleRuns as v
use Rattle.runend_windows.proofs.VisibleRuns.{visible-from_HasRow, HasRow-of_visible, visible_is}

module _ {B : Type 0} (ends : List ℕ) (values : List (Option B)) (offset count : ℕ) (window : IsWindow ends offset count) (paired : length values ≡ length ends) (some : 0 < count) where
  abbrev rows : List (Option B)
  rows = run_rows ends values offset count

  abbrev shown : List (Option B)
  shown = visible ends offset count values

  abbrev place_of : ℕ → ℕ
  place_of i = run_at ends (offset + i) - run_at ends offset

  abbrev size : ℕ
  size = run_at ends (offset + count - 1) + 1 - run_at ends offset

  size_is : length shown ≡ size
  size_is = v.length-visible ends offset count window some values paired

  rows_are : length rows ≡ count
  rows_are = length-run_rows ends values offset count

  -- what holds of a visible run's value holds of one of its rows, and the other way round
  down : (P : Option B → Type 0) (e : Option B) (i : ℕ) → i < count → P (get_or rows i e) → P (get_or shown (place_of i) e)
  down P e i h p = subst P (v.row_visible ends offset count window some values paired e i h) p

  up : (P : Option B → Type 0) (e : Option B) (i : ℕ) → i < count → P (get_or shown (place_of i) e) → P (get_or rows i e)
  up P e i h p = subst P (sym (v.row_visible ends offset count window some values paired e i h)) p

  all_rows_some : (P : Option B → Type 0) → All P rows ↔ All P shown
  all_rows_some P = (
    λ h k e lt.
        let r = v.row_of_visible ends offset count window some k (omega (arith, size_is)) in
        let within = r.1 in
        subst (λ (j : ℕ). P (get_or shown j e)) r.2 (down P e r.0 within (h r.0 e (omega (arith, rows_are)))),
    λ h i e lt.
        let lt' : i < count = omega (arith, rows_are) in
        let place = v.place_within ends offset count window some i lt' in
        up P e i lt' (h (place_of i) e (omega (arith, size_is))),
  )

  same_values_some : (x : Option B) → Contains rows x ↔ Contains shown x
  same_values_some x = (
    λ h.
        let within = h.1 in
        let lt : h.0 < count = omega (arith, rows_are) in
        let place = v.place_within ends offset count window some h.0 lt in
        (place_of h.0, omega (arith, size_is), down (λ (y : Option B). y ≡ x) x h.0 lt h.2),
    λ h.
        let within = h.1 in
        let r = v.row_of_visible ends offset count window some h.0 (omega (arith, size_is)) in
        let inside = r.1 in
        (r.0, omega (arith, rows_are), up (λ (y : Option B). y ≡ x) x r.0 inside (ap (λ (j : ℕ). get_or shown j x) r.2 ∙ h.2)),
  )

  fails_first_some : (P : Option B → Type 0) (k : ℕ) (x : Option B) → FailsFirst P shown k x → (i : ℕ) × FailsFirst P rows i x
  fails_first_some P k x f =
      let within = f.within in
      let r = v.row_of_visible ends offset count window some k (omega (arith, size_is)) in
      let inside = r.1 in (
        r.0,
        record {
          within = omega (arith, rows_are);
          here = up (λ (y : Option B). y ≡ x) x r.0 inside (ap (λ (j : ℕ). get_or shown j x) r.2 ∙ f.here);
          fails = f.fails;
          before = λ j e lt. up P e j (omega arith) (f.before (place_of j) e (r.3 j lt));
        },
      )

  sorted_up : (R : Option B → Option B → Type 0) → ((x : Option B) → R x x) → AllAdjacentBelow R shown (length shown) → AllAdjacentBelow R rows count
  sorted_up R same h i e lt =
      let here : i < count = omega arith in
      let inside = v.place_within ends offset count window some (i + 1) lt in
      let this = v.row_visible ends offset count window some values paired e i here in
      let next = v.row_visible ends offset count window some values paired e (i + 1) lt in
      elim (v.place-step ends offset count window some i lt) [
        | inl stay ↦ rw (this, next, stay) (same _)
        | inr move ↦ rw (this, next, move) (h (place_of i) e (omega (arith, size_is)))
      ]

  sorted_down : (R : Option B → Option B → Type 0) → AllAdjacentBelow R rows count → AllAdjacentBelow R shown (length shown)
  sorted_down R h k e lt =
      let r = v.row_of_visible ends offset count window some (k + 1) (omega (arith, size_is)) in
      let inside = r.1 in
      let is = r.2 in
      let zeroth = v.place-zero ends offset count window some in
      let started : 0 < r.0 = elim (cases_lt 0 r.0) [
        | inl more ↦ more
        | inr none ↦
            let zero_row : r.0 ≡ 0 = omega arith in
            let at = ap place_of zero_row in
            absurd (omega arith)
      ] in
      let back : r.0 - 1 + 1 ≡ r.0 = omega arith in
      let at = ap place_of back in
      let less = r.3 (r.0 - 1) (omega arith) in
      let before : place_of (r.0 - 1) ≡ k = elim (v.place-step ends offset count window some (r.0 - 1) (omega arith)) [ inl stay ↦ omega arith | inr move ↦ omega arith ] in
      let after : place_of (r.0 - 1 + 1) ≡ k + 1 = omega arith in
      let both = h (r.0 - 1) e (omega arith) in
      let this = v.row_visible ends offset count window some values paired e (r.0 - 1) (omega arith) in
      let next = v.row_visible ends offset count window some values paired e (r.0 - 1 + 1) (omega arith) in
      rw (this, next, before, after) at both

  -- as many visible runs as rows: each has one
  one-each : size ≡ count → (i : ℕ) → i < count → place_of i ≡ i
  one-each same i h =
      let a = v.place-grows ends offset count window some 0 i (omega arith) in
      let zi : 0 + i ≡ i = omega arith in
      let e = ap place_of zi in
      let b = v.place-grows ends offset count window some i (count - 1 - i) (omega arith) in
      let ie : i + (count - 1 - i) ≡ count - 1 = omega arith in
      let f = ap place_of ie in
      omega (arith, v.place-zero ends offset count window some, v.place-last ends offset count window some)

  strict-one : (R : Option B → Option B → Type 0) → ((x : Option B) → ¬ R x x) → AllAdjacentBelow R rows count → (i : ℕ) → i < count → place_of i ≡ i
  strict-one R never h zero lt = v.place-zero ends offset count window some
  strict-one R never h (suc i) lt =
      let before = strict-one R never h i (omega arith) in
      let at : suc i ≡ i + 1 = omega arith in
      let e = ap place_of at in
      let lt' : i + 1 < count = omega arith in
      elim (v.place-step ends offset count window some i lt') [
        | inl stay ↦
            let this = v.row_visible ends offset count window some values paired None i (omega arith) in
            let next = v.row_visible ends offset count window some values paired None (i + 1) lt' in
            let both = h i None lt' in
            absurd (never _ (rw (this, next, stay) at both))
        | inr move ↦ omega arith
      ]

  strict_some : (R : Option B → Option B → Type 0) → ((x : Option B) → ¬ R x x) → AllAdjacentBelow R rows count ↔ ((length shown ≡ count) × AllAdjacentBelow R shown (length shown))
  strict_some R never = (
    λ h.
        let one = strict-one R never h (count - 1) (omega arith) in
        let order = v.first_le_last_visible ends offset count window some in
        (omega (arith, v.place-last ends offset count window some, size_is), sorted_down R h),
    λ h i e lt.
        let same = h.0 in
        let full : size ≡ count = omega (arith, size_is) in
        let this = v.row_visible ends offset count window some values paired e i (omega arith) in
        let next = v.row_visible ends offset count window some values paired e (i + 1) lt in
        let a = one-each full i (omega arith) in
        let b = one-each full (i + 1) lt in
        rw (this, next, a, b) (h.1 i e (omega arith)),
  )

  pub run-among : (i : ℕ) → i < count → run_at (visible ends offset count ends) (offset + i) ≡ place_of i
  run-among i h =
      let low = v.row_above ends offset count window some i h in
      let high = v.row_below ends offset count window some i h in
      let inside = v.last_visible_within ends offset count window some in
      ap (λ (xs : List ℕ). run_at xs (offset + i)) (visible_is ends offset count ends some)
      ∙ run_at-slice_range ends (offset + i) (run_at ends offset) (run_at ends (offset + count - 1) + 1) low (omega arith) (omega arith)

  window_some : IsWindow (visible ends offset count ends) offset count
  window_some =
      let order = v.first_le_last_visible ends offset count window some in
      let inside = v.last_visible_within ends offset count window some in
      let counted = v.length-visible ends offset count window some ends refl in
      let first_end = v.visible_at ends offset count window some ends 0 0 (omega arith) in
      let last_end = v.visible_at ends offset count window some ends (size - 1) 0 (omega arith) in
      let last_index : length (visible ends offset count ends) - 1 ≡ size - 1 = omega arith in
      let last_place : run_at ends offset + (size - 1) ≡ run_at ends (offset + count - 1) = omega arith in
      let first_place : run_at ends offset + 0 ≡ run_at ends offset = omega arith in
      let above : offset < slice_index ends (run_at ends offset) = ends_past ends offset (omega arith) in
      let below : offset + count - 1 < slice_index ends (run_at ends (offset + count - 1)) = ends_past ends (offset + count - 1) inside in
      record {
        increasing = λ k h.
            let this = v.visible_at ends offset count window some ends k 0 (omega arith) in
            let next = v.visible_at ends offset count window some ends (k + 1) 0 (omega arith) in
            rw (this, next, ← add_assoc (run_at ends offset) k 1) (window.increasing (run_at ends offset + k) (omega arith));
        none = λ h. absurd (omega arith);
        first = λ h. rw (first_end, first_place) (omega arith);
        last = λ h. rw (last_index, last_end, last_place) (omega arith);
        small = window.small;
      }

  rows_some : run_rows (visible ends offset count ends) shown offset count ≡ rows
  rows_some =
      ext_get_or None _ _ (length-run_rows (visible ends offset count ends) shown offset count ∙ sym rows_are) (λ i h.
      let lt : i < count = rw length-run_rows at h in
      get_or-map-range_with_len _ offset count i (offset + i) None lt refl ∙ ap (λ (k : ℕ). get_or shown k None) (run-among i lt)
      ∙ sym (v.row_visible ends offset count window some values paired None i lt))

module _ {B : Type 0} (ends : List ℕ) (values : List (Option B)) (offset : ℕ) where
  -- a fact holds of all rows exactly where it holds of all visible values
  pub all_rows : (count : ℕ) → IsWindow ends offset count → length values ≡ length ends → (P : Option B → Type 0) → All P (run_rows ends values offset count) ↔ All P (visible ends offset count values)
  all_rows zero window paired P = (λ h. h, λ h. h)
  all_rows (suc n) window paired P = all_rows_some ends values offset (suc n) window paired (omega arith) P

  -- rows and visible values contain the same
  pub same_values : (count : ℕ) → IsWindow ends offset count → length values ≡ length ends → (x : Option B) → Contains (run_rows ends values offset count) x ↔ Contains (visible ends offset count values) x
  same_values zero window paired x = (λ h. h, λ h. h)
  same_values (suc n) window paired x = same_values_some ends values offset (suc n) window paired (omega arith) x

  -- the visible value that fails first is the first row that fails
  pub fails_first : (count : ℕ) → IsWindow ends offset count → length values ≡ length ends → (P : Option B → Type 0) (k : ℕ) (x : Option B)
      → FailsFirst P (visible ends offset count values) k x → (i : ℕ) × FailsFirst P (run_rows ends values offset count) i x
  fails_first zero window paired P k x f = (k, f)
  fails_first (suc n) window paired P k x f = fails_first_some ends values offset (suc n) window paired (omega arith) P k x f

  -- rows are sorted exactly where visible values are, under a relation that each value has to itself
  pub sorted : (count : ℕ) → IsWindow ends offset count → length values ≡ length ends → (R : Option B → Option B → Type 0) → ((x : Option B) → R x x)
      → AllAdjacentBelow R (run_rows ends values offset count) count ↔ AllAdjacentBelow R (visible ends offset count values) (length (visible ends offset count values))
  sorted zero window paired R same = (λ h k e lt. absurd (omega arith), λ h k e lt. absurd (omega arith))
  sorted (suc n) window paired R same = (sorted_down ends values offset (suc n) window paired (omega arith) R, sorted_up ends values offset (suc n) window paired (omega arith) R same)

  -- under one that no value has to itself exactly where moreover each visible run has one row
  pub strictly_sorted : (count : ℕ) → IsWindow ends offset count → length values ≡ length ends → (R : Option B → Option B → Type 0) → ((x : Option B) → ¬ R x x)
      → AllAdjacentBelow R (run_rows ends values offset count) count
      ↔ ((length (visible ends offset count values) ≡ count) × AllAdjacentBelow R (visible ends offset count values) (length (visible ends offset count values)))
  strictly_sorted zero window paired R never = (λ h. (refl, λ k e lt. absurd (omega arith)), λ h k e lt. absurd (omega arith))
  strictly_sorted (suc n) window paired R never = strict_some ends values offset (suc n) window paired (omega arith) R never

-- visible runs are a window of their own, over the same rows
pub window_of_visible : (ends : List ℕ) (offset count : ℕ) → IsWindow ends offset count → 0 < count → IsWindow (visible ends offset count ends) offset count
window_of_visible ends offset count window some = window_some ends (map (λ (e : ℕ). Some e) ends) offset count window (length-map ends (λ (e : ℕ). Some e)) some

pub rows_of_visible : {B : Type 0} (ends : List ℕ) (values : List (Option B)) (offset count : ℕ) → IsWindow ends offset count → length values ≡ length ends → 0 < count
    → run_rows (visible ends offset count ends) (visible ends offset count values) offset count ≡ run_rows ends values offset count
rows_of_visible ends values offset count window paired some = rows_some ends values offset count window paired some

-- there are as many visible ends as visible values
pub length-visible_ends : {B : Type 0} (ends : List ℕ) (values : List B) (offset count : ℕ) → IsWindow ends offset count → length values ≡ length ends
    → length (visible ends offset count values) ≡ length (visible ends offset count ends)
length-visible_ends ends values offset zero window paired = refl
length-visible_ends ends values offset (suc n) window paired =
    v.length-visible ends offset (suc n) window (omega arith) values paired ∙ sym (v.length-visible ends offset (suc n) window (omega arith) ends refl)

-- the visible runs are those that have a row
pub visible_have_rows : {B : Type 0} (ends : List ℕ) (values : List B) (offset count run : ℕ) → IsWindow ends offset count → length values ≡ length ends → 0 < count
    → HasRow ends offset count run ↔ ((run_at ends offset ≤ run) × (run < run_at ends offset + length (visible ends offset count values)))
visible_have_rows ends values offset count run window paired some =
    let counted = v.length-visible ends offset count window some values paired in
    let order = v.first_le_last_visible ends offset count window some in (
      (λ h. let b = visible-from_HasRow ends offset count window some run h in let low = b.0 in let high = b.1 in (low, omega arith)),
      (λ h. let low = h.0 in let high = h.1 in HasRow-of_visible ends offset count window some run low (omega arith)),
    )
