-- Runs joined one after another: the rows that the first runs reach are those of the runs made so far, the last of
-- which is open.
use Rattle.std.proofs.Common.{◌≡◌, ◌≢◌, ℕ, zero, suc, ◌+◌, ◌-◌, ◌<◌, ◌≤◌, List, [], ◌∷◌, ◌++◌, Some, length, map, min, slice_index, refl, sym, subst, ◌∙◌, ap, arith, add-one, inl, inr}
use Rattle.std.proofs.lemmas.Bool.{cases_lt}
use Rattle.std.proofs.lemmas.List.{get_or-map, length-map}
use Rattle.std.proofs.lemmas.List.Kept.{AllPairs-from_increasing}
use Rattle.std.specs.List.{slice_get, AllAdjacentBelow}
use Rattle.std.specs.List.Sorted.{IsStrictlyIncreasing}
use native.Mathlib.Numerals.{unary_clauses}
use Rattle.runend_windows.specs.Cover.{Covers, IsTightCover}
use Rattle.runend_windows.specs.Visible.{HasRow}
use Rattle.runend_windows.specs.Window.{run_at, last_end, IsRunAt, IsWindow}
use Rattle.runend_windows.proofs.Decoded.{reached, reached-le}
use Rattle.runend_windows.proofs.Grow.{Open, Open-first, Open-same, Open-next, Open-done}
use Rattle.runend_windows.proofs.RunAt.{run_at-from_IsRunAt, run_at-le-length, run_at_is, ended_before, ends_past}
use Rattle.runend_encode.specs.Joined.{AllHaveRows}

-- a row past those that the runs before reach, and within those that this run reaches, is in this run
IsRunAt-of_reached : (ends : List ℕ) (offset count run i : ℕ) → IsStrictlyIncreasing ends → run < length ends → reached ends offset count run ≤ i
    → i < min (slice_index ends run - offset) count → IsRunAt ends (offset + i) run
IsRunAt-of_reached ends offset count zero i increasing h low high = record { within = h; past = omega arith; least = λ j lt. absurd (omega arith) }
IsRunAt-of_reached ends offset count (suc run) i increasing h low high = record {
  within = h;
  past = omega arith;
  least = λ j lt. elim (cases_lt j run) [
    | inl below ↦ let order = AllPairs-from_increasing ends increasing j run 0 below (omega arith) in omega arith
    | inr from ↦
        let last : j ≡ run = omega arith in
        let same = ap (slice_index ends) last in
        omega arith
  ];
}

-- that row shows the run's value
row_of_run : {A : Type 0} (rows : List A) (ends : List ℕ) (values : List A) (offset count run i : ℕ) (value : A) → Covers rows ends values offset count
    → run < length ends → slice_get values run ≡ Some value → reached ends offset count run ≤ i → i < min (slice_index ends run - offset) count → slice_get rows i ≡ Some value
row_of_run rows ends values offset count run i value cover within here low high =
    let at = run_at-from_IsRunAt ends (offset + i) run (IsRunAt-of_reached ends offset count run i cover.window.increasing within low high) in
    cover.each i (omega arith) ∙ ap (slice_get values) at ∙ here

-- how far the runs before a run with a row reach
reached-low : (ends : List ℕ) (offset count run row : ℕ) → run_at ends (offset + row) ≡ run → reached ends offset count run ≤ row
reached-low ends offset count zero row holds = omega arith
reached-low ends offset count (suc run) row holds = let ended = ended_before ends (offset + row) run (omega arith) in omega arith

-- a run with a row reaches further than those before it
reached-lt : (ends : List ℕ) (offset count run : ℕ) → run < length ends → HasRow ends offset count run → reached ends offset count run < min (slice_index ends run - offset) count
reached-lt ends offset count run within has =
    let holds = has.holds in
    let inside = has.within in
    let low = reached-low ends offset count run has.row holds in
    let past : offset + has.row < slice_index ends run = rw holds at (ends_past ends (offset + has.row) (omega arith)) in
    omega arith

-- where the runs before a later run than the first reach
pub reached-at : (ends : List ℕ) (offset count run : ℕ) → 0 < run → reached ends offset count run ≡ min (slice_index ends (run - 1) - offset) count
reached-at ends offset count zero later = absurd (omega arith)
reached-at ends offset count (suc run) later = let before : suc run - 1 ≡ run = omega arith in rw before refl

-- the open run goes on
Open-more : {A : Type 0} (rows : List A) (reach more : ℕ) (closed : List ℕ) (values : List A) (value : A) → ((i : ℕ) → reach ≤ i → i < reach + more → slice_get rows i ≡ Some value)
    → Open rows reach closed values value → Open rows (reach + more) closed values value
Open-more rows reach zero closed values value shows opened =
    let same : reach ≡ reach + 0 = omega arith in subst (λ (n : ℕ). Open rows n closed values value) same opened
Open-more rows reach (suc more) closed values value shows opened =
    let rest = Open-more rows reach more closed values value (λ i low high. shows i low (omega arith)) opened in
    let next = Open-same rows (reach + more) closed values value value (shows (reach + more) (omega arith) (omega arith)) refl rest in
    let same : reach + more + 1 ≡ reach + suc more = omega arith in
    subst (λ (n : ℕ). Open rows n closed values value) same next

Open-to : {A : Type 0} (rows : List A) (reach further : ℕ) (closed : List ℕ) (values : List A) (value : A) → reach ≤ further → ((i : ℕ) → reach ≤ i → i < further → slice_get rows i ≡ Some value)
    → Open rows reach closed values value → Open rows further closed values value
Open-to rows reach further closed values value order shows opened =
    let same : reach + (further - reach) ≡ further = omega arith in
    subst (λ (n : ℕ). Open rows n closed values value) same
    (Open-more rows reach (further - reach) closed values value (λ i low high. shows i low (omega arith)) opened)

-- the first run is open
pub Joining-first : {A : Type 0} (rows : List A) (ends : List ℕ) (values : List A) (offset count : ℕ) (value : A) → Covers rows ends values offset count → AllHaveRows ends offset count
    → 0 < length ends → slice_get values 0 ≡ Some value → Open rows (reached ends offset count 1) [] [] value
Joining-first rows ends values offset count value cover shown within here =
    let some = reached-lt ends offset count 0 within (shown 0 within) in
    Open-to rows 1 (min (slice_index ends 0 - offset) count) [] [] value (omega arith)
    (λ i low high. row_of_run rows ends values offset count 0 i value cover within here (omega arith) high)
    (Open-first rows value (row_of_run rows ends values offset count 0 0 value cover within here (omega arith) some))

-- a run of the open run's value is joined with it
pub Joining-same : {A : Type 0} (rows : List A) (ends : List ℕ) (values : List A) (offset count run : ℕ) (closed : List ℕ) (joined : List A) (value next : A) → Covers rows ends values offset count
    → run < length ends → slice_get values run ≡ Some next → next ≡ value → Open rows (reached ends offset count run) closed joined value
    → Open rows (reached ends offset count (run + 1)) closed joined value
Joining-same rows ends values offset count run closed joined value next cover within here same opened =
    rw add-one (Open-to rows (reached ends offset count run) (min (slice_index ends run - offset) count) closed joined value
    (reached-le ends offset count run cover.window.increasing within)
    (λ i low high. row_of_run rows ends values offset count run i next cover within here low high ∙ ap Some same) opened)

-- a run of another value closes the open run and is the next one
pub Joining-next : {A : Type 0} (rows : List A) (ends : List ℕ) (values : List A) (offset count run : ℕ) (closed : List ℕ) (joined : List A) (value next : A) → Covers rows ends values offset count
    → AllHaveRows ends offset count → run < length ends → slice_get values run ≡ Some next → value ≢ next → Open rows (reached ends offset count run) closed joined value
    → Open rows (reached ends offset count (run + 1)) (closed ++ reached ends offset count run ∷ []) (joined ++ value ∷ []) next
Joining-next rows ends values offset count run closed joined value next cover shown within here differs opened =
    let further = reached-lt ends offset count run within (shown run within) in
    let first = row_of_run rows ends values offset count run (reached ends offset count run) next cover within here (omega arith) further in
    rw add-one (Open-to rows (reached ends offset count run + 1) (min (slice_index ends run - offset) count) (closed ++ reached ends offset count run ∷ []) (joined ++ value ∷ []) next
    (omega arith) (λ i low high. row_of_run rows ends values offset count run i next cover within here (omega arith) high)
    (Open-next rows (reached ends offset count run) closed joined value next first differs opened))

-- all runs reach all rows
reached-all : (ends : List ℕ) (offset count : ℕ) → IsWindow ends offset count → reached ends offset count (length ends) ≡ count
reached-all [] offset count window = sym (window.none refl).1
reached-all (end ∷ ends) offset count window = elim (cases_lt 0 count) [
  | inl some ↦
      let last = window.last some in
      let same : last_end (end ∷ ends) ≡ slice_index (end ∷ ends) (length ends) = simp unary_clauses in
      omega arith
  | inr none ↦ omega arith
]

-- past the last run the runs are a tight cover
pub Joining-done : {A : Type 0} (rows : List A) (ends : List ℕ) (values : List A) (offset count run : ℕ) (closed : List ℕ) (joined : List A) (value : A) → Covers rows ends values offset count
    → run ≡ length ends → Open rows (reached ends offset count run) closed joined value → IsTightCover rows (closed ++ reached ends offset count run ∷ []) (joined ++ value ∷ [])
Joining-done rows ends values offset count run closed joined value cover all opened =
    let reach : reached ends offset count run ≡ count = ap (reached ends offset count) all ∙ reached-all ends offset count cover.window in
    let counted = cover.counted in
    let small = cover.window.small in
    Open-done rows (reached ends offset count run) closed joined value (omega arith) (omega arith) opened

-- ends counted from the first row of a window
abbrev pub windowed : List ℕ → ℕ → ℕ → List ℕ
windowed ends offset count = map (λ end. min (end - offset) count) ends

pub windowed-at : (ends : List ℕ) (offset count k : ℕ) → k < length ends → slice_index (windowed ends offset count) k ≡ min (slice_index ends k - offset) count
windowed-at ends offset count k within = get_or-map (λ end. min (end - offset) count) ends k 0 0 within

pub long-windowed : (ends : List ℕ) (offset count : ℕ) → length (windowed ends offset count) ≡ length ends
long-windowed ends offset count = length-map ends (λ end. min (end - offset) count)

-- a row is in the same run
run_at-windowed : (ends : List ℕ) (offset count i : ℕ) → i < count → run_at (windowed ends offset count) i ≡ run_at ends (offset + i)
run_at-windowed ends offset count i within =
    let run = run_at ends (offset + i) in
    let short = run_at-le-length ends (offset + i) in
    let long = long-windowed ends offset count in
    run_at_is (windowed ends offset count) i run (omega arith)
    (λ k h. let is = windowed-at ends offset count k (omega arith) in let ended = ended_before ends (offset + i) k h in omega arith)
    (λ h. let is = windowed-at ends offset count run (omega arith) in let past = ends_past ends (offset + i) (omega arith) in omega arith)

pub last-windowed : (ends : List ℕ) (offset count : ℕ) → IsWindow ends offset count → last_end (windowed ends offset count) ≡ count
last-windowed [] offset count window = sym (window.none refl).1
last-windowed (end ∷ ends) offset count window =
    let all = end ∷ ends in
    let long = long-windowed all offset count in
    let place : length (windowed all offset count) - 1 ≡ length all - 1 = omega arith in
    let is = ap (slice_index (windowed all offset count)) place ∙ windowed-at all offset count (length all - 1) (omega arith) in
    elim (cases_lt 0 count) [
      | inl some ↦ let last = window.last some in omega arith
      | inr none ↦ omega arith
    ]

-- runs that show a row each, of which each differs from the next, are a tight cover once their ends are counted from
-- the first row
pub tight-windowed : {A : Type 0} (rows : List A) (ends : List ℕ) (values : List A) (offset count : ℕ) → Covers rows ends values offset count → AllHaveRows ends offset count
    → AllAdjacentBelow (λ x y. x ≢ y) values (length values) → IsTightCover rows (windowed ends offset count) values
tight-windowed rows ends values offset count cover shown differ =
    let counted = cover.counted in
    let small = cover.window.small in
    let long = long-windowed ends offset count in
    let stop = last-windowed ends offset count cover.window in
    let at = windowed-at ends offset count in
    let whole : Covers rows (windowed ends offset count) values 0 count = record {
      window = record {
        increasing = λ k h.
            let here = at k (omega arith) in
            let next = at (k + 1) (omega arith) in
            let before = reached-at ends offset count (k + 1) (omega arith) in
            let same : k + 1 - 1 ≡ k = omega arith in
            let further = rw same at (rw before at (reached-lt ends offset count (k + 1) (omega arith) (shown (k + 1) (omega arith)))) in
            omega arith;
        none = λ none. (refl, (cover.window.none (sym long ∙ none)).1);
        first = λ some. omega arith;
        last = λ some. omega arith;
        small = omega arith;
      };
      paired = cover.paired ∙ sym long;
      counted = counted;
      each = λ i h.
          let place : 0 + i ≡ i = omega arith in
          cover.each i h ∙ ap (slice_get values) (sym (ap (run_at (windowed ends offset count)) place ∙ run_at-windowed ends offset count i h));
    } in
    record {
      covers = subst (λ (n : ℕ). Covers rows (windowed ends offset count) values 0 n) (sym counted) whole;
      exact = record { start = refl; stop = stop ∙ sym counted };
      tight = record {
        filled = λ some. let is = at 0 (omega arith) in let reach = reached-lt ends offset count 0 (omega arith) (shown 0 (omega arith)) in omega arith;
        differ = differ;
      };
    }

-- no end is past the last
end-le-last : (ends : List ℕ) (run : ℕ) → IsStrictlyIncreasing ends → run < length ends → slice_index ends run ≤ last_end ends
end-le-last ends run increasing within = elim (cases_lt run (length ends - 1)) [
  | inl before ↦ let order = AllPairs-from_increasing ends increasing run (length ends - 1) 0 before (omega arith) in omega arith
  | inr last ↦
      let at : run ≡ length ends - 1 = omega arith in
      let same = ap (slice_index ends) at in
      omega arith
]

exact-lt : (ends : List ℕ) (count run : ℕ) → IsStrictlyIncreasing ends → (0 < length ends → 0 < slice_index ends 0) → last_end ends ≡ count → run < length ends
    → reached ends 0 count run < min (slice_index ends run - 0) count
exact-lt ends count zero increasing first last within = let some = first (omega arith) in let top = end-le-last ends 0 increasing within in omega arith
exact-lt ends count (suc run) increasing first last within =
    let next = rw add-one at (increasing run (omega arith)) in
    let top = end-le-last ends (suc run) increasing within in
    omega arith

-- runs from the first row to the last, of which none is empty, show a row each
pub AllHaveRows-exact : (ends : List ℕ) (count : ℕ) → IsStrictlyIncreasing ends → (0 < length ends → 0 < slice_index ends 0) → last_end ends ≡ count → AllHaveRows ends 0 count
AllHaveRows-exact ends count increasing first last run within =
    let lt = exact-lt ends count run increasing first last within in
    record {
      row = reached ends 0 count run;
      within = omega arith;
      holds = run_at-from_IsRunAt ends (0 + reached ends 0 count run) run (IsRunAt-of_reached ends 0 count run (reached ends 0 count run) increasing within (omega arith) lt);
    }
