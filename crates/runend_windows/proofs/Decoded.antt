-- The rows that a decoder has so far: it goes over the runs, and appends copies of each run's value up to where the run
-- reaches in the window.
use Rattle.std.proofs.Common.{◌≡◌, ℕ, zero, suc, ◌+◌, ◌-◌, ◌<◌, ◌≤◌, List, [], ◌∷◌, ◌++◌, Some, length, min, replicate, slice_index, map, refl, sym, ◌∙◌, ap, arith, add-one, inl, inr, length-append}
use Rattle.std.proofs.lemmas.Bool.{cases_lt}
use Rattle.std.proofs.lemmas.List.{length-map, length-replicate}
use Rattle.std.proofs.lemmas.List.Kept.{AllPairs-from_increasing}
use Rattle.std.proofs.lemmas.Option.{slice_get-map}
use Rattle.std.specs.List.{slice_get}
use Rattle.std.specs.List.Sorted.{IsStrictlyIncreasing}
use Rattle.std.specs.Option.{option_map}
use native.Mathlib.Numerals.{unary_clauses}
use Rattle.runend_windows.specs.Cover.{Covers}
use Rattle.runend_windows.specs.Window.{run_at, last_end, IsRunAt, IsWindow}
use Rattle.runend_windows.proofs.Lists.{slice_get-append, slice_get-append_copies}
use Rattle.runend_windows.proofs.RunAt.{run_at-from_IsRunAt}

-- the rows of the window that its first runs reach
abbrev pub reached : List ℕ → ℕ → ℕ → ℕ → ℕ
reached ends offset count zero = 0
reached ends offset count (suc run) = min (slice_index ends run - offset) count

-- the rows of the first `runs` runs
pub record Decoded {A : Type 0} (ends : List ℕ) (values : List A) (offset count runs : ℕ) (rows : List A) : Type 0 where
  pub counted : length rows ≡ reached ends offset count runs
  pub each : (i : ℕ) → i < length rows → slice_get rows i ≡ slice_get values (run_at ends (offset + i))

-- a run reaches at least as far as those before it
pub reached-le : (ends : List ℕ) (offset count run : ℕ) → IsStrictlyIncreasing ends → run < length ends → reached ends offset count run ≤ min (slice_index ends run - offset) count
reached-le ends offset count zero increasing h = omega arith
reached-le ends offset count (suc run) increasing h = let next = rw add-one at (increasing run (omega arith)) in omega arith

-- a row past those that the runs before reach, and within those that this run reaches, is in this run
IsRunAt-of_reached : (ends : List ℕ) (offset count run i : ℕ) → IsStrictlyIncreasing ends → run < length ends → reached ends offset count run ≤ i
    → i < min (slice_index ends run - offset) count → IsRunAt ends (offset + i) run
IsRunAt-of_reached ends offset count zero i increasing h low high = record { within = h; past = omega arith; least = λ j lt. absurd (omega arith) }
IsRunAt-of_reached ends offset count (suc run) i increasing h low high = record {
  within = h;
  past = omega arith;
  least = λ j lt. elim (cases_lt j run) [
    | inl below ↦ let order = AllPairs-from_increasing ends increasing j run 0 below (omega arith) in omega arith
    | inr from ↦
        let last : j ≡ run = omega arith in
        let same = ap (slice_index ends) last in
        omega arith
  ];
}

-- before the first run there are 0 rows
pub Decoded-none : {A : Type 0} (ends : List ℕ) (values : List A) (offset count : ℕ) → Decoded ends values offset count 0 []
Decoded-none ends values offset count = record { counted = refl; each = λ i h. absurd (omega arith) }

-- the next run appends copies of its value, as many as it reaches rows that are not there yet
pub Decoded-next : {A : Type 0} (ends : List ℕ) (values : List A) (offset count run : ℕ) (rows : List A) (value : A) (copies : ℕ) → IsWindow ends offset count
    → run < length ends → slice_get values run ≡ Some value → copies ≡ min (slice_index ends run - offset) count - length rows
    → Decoded ends values offset count run rows → Decoded ends values offset count (run + 1) (rows ++ replicate copies value)
Decoded-next ends values offset count run rows value copies window h here copied decoded =
    let order = reached-le ends offset count run window.increasing h in
    let counted = decoded.counted in
    let long = length-append rows (replicate copies value) in
    let added = length-replicate copies value in
    record {
      counted = rw add-one (omega arith);
      each = λ i lt. elim (cases_lt i (length rows)) [
        | inl before ↦ slice_get-append rows (replicate copies value) i before ∙ decoded.each i before
        | inr from ↦
            let at = run_at-from_IsRunAt ends (offset + i) run (IsRunAt-of_reached ends offset count run i window.increasing h (omega arith) (omega arith)) in
            slice_get-append_copies rows copies i value from (omega arith) ∙ sym here ∙ ap (slice_get values) (sym at)
      ];
    }

-- all runs reach all rows
reached-all : (ends : List ℕ) (offset count : ℕ) → IsWindow ends offset count → reached ends offset count (length ends) ≡ count
reached-all [] offset count window = sym (window.none refl).1
reached-all (end ∷ ends) offset count window = elim (cases_lt 0 count) [
  | inl some ↦
      let last = window.last some in
      let same : last_end (end ∷ ends) ≡ slice_index (end ∷ ends) (length ends) = simp unary_clauses in
      omega arith
  | inr none ↦ omega arith
]

-- past the last run the rows are covered
pub Decoded-all : {A : Type 0} (ends : List ℕ) (values : List A) (offset count runs : ℕ) (rows : List A) → IsWindow ends offset count → length values ≡ length ends
    → runs ≡ length ends → Decoded ends values offset count runs rows → Covers rows ends values offset count
Decoded-all ends values offset count runs rows window paired all decoded =
    let counted : length rows ≡ count = decoded.counted ∙ ap (reached ends offset count) all ∙ reached-all ends offset count window in
    record { window = window; paired = paired; counted = counted; each = λ i h. decoded.each i (omega arith) }

-- rows and values mapped alike are covered alike
pub Covers-map : {A B : Type 0} (f : A → B) (rows : List A) (ends : List ℕ) (values : List A) (offset count : ℕ)
    → Covers rows ends values offset count → Covers (map f rows) ends (map f values) offset count
Covers-map f rows ends values offset count cover = record {
  window = cover.window;
  paired = length-map values f ∙ cover.paired;
  counted = length-map rows f ∙ cover.counted;
  each = λ i h. slice_get-map f rows i ∙ ap (option_map f) (cover.each i h) ∙ sym (slice_get-map f values (run_at ends (offset + i)));
}
