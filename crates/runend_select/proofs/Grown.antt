-- Runs that are pushed, each past the last: they show the rows of the runs before, and then copies of the new value.
use Rattle.std.proofs.Common.{◌≡◌, ℕ, ◌+◌, ◌-◌, ◌<◌, ◌≤◌, ◌^◌, zero, suc, List, [], ◌∷◌, ◌++◌, Option, None, length, slice_index, get_or, replicate, arith, ap, ◌∙◌, sym, refl, inl, inr, length-append, zero-add}
use Rattle.std.proofs.lemmas.Bool.{cases_lt}
use Rattle.std.proofs.lemmas.List.{ext_get_or, length-replicate, get_or_push, get_or-append_right, get_or-replicate}
use Rattle.std.proofs.lemmas.List.FromFn.{length-map-range_with_len, get_or-map-range_with_len}
use Rattle.std.specs.List.Sorted.{IsStrictlyIncreasing}
use Rattle.runend_windows.specs.Window.{IsWindow, last_end, run_at, run_rows}
use Rattle.runend_encode.specs.Joined.{AllHaveRows}
use Rattle.runend_encode.proofs.Joining.{AllHaveRows-exact}
use Rattle.runend_windows.proofs.RunAt.{run_at-here, run_at-past, run_at_is, run_at_within}

-- runs that end at a number of rows or before, the last of them there
pub record Grown {B : Type 0} (ends : List ℕ) (values : List (Option B)) (rows : ℕ) : Type 0 where
  pub increasing : IsStrictlyIncreasing ends
  pub paired : length values ≡ length ends
  pub low : (j : ℕ) → j < length ends → slice_index ends j ≤ rows
  pub some : 0 < rows → 0 < length ends
  pub last : 0 < rows → rows ≤ last_end ends
  pub filled : 0 < length ends → 0 < slice_index ends 0

pub Grown-none : {B : Type 0} → Grown {B = B} [] [] 0
Grown-none = record {
  increasing = λ k h. absurd (omega arith);
  paired = refl;
  low = λ j h. absurd (omega arith);
  some = λ h. absurd (omega arith);
  last = λ h. absurd (omega arith);
  filled = λ h. absurd (omega arith);
}

get_or-left : {A : Type 0} (xs ys : List A) (k : ℕ) (d : A) → k < length xs → get_or (xs ++ ys) k d ≡ get_or xs k d
get_or-left [] ys k d h = absurd (omega arith)
get_or-left (x ∷ xs) ys zero d h = refl
get_or-left (x ∷ xs) ys (suc k) d h = get_or-left xs ys k d (omega arith)

get_or-last : {A : Type 0} (xs : List A) (y : A) (k : ℕ) (d : A) → k ≡ length xs → get_or (xs ++ y ∷ []) k d ≡ y
get_or-last xs y k d h = get_or_push xs y d k (sym h)

pub Grown-push : {B : Type 0} (ends : List ℕ) (values : List (Option B)) (rows more : ℕ) (value : Option B) → 0 < more → Grown ends values rows
    → Grown (ends ++ (rows + more) ∷ []) (values ++ value ∷ []) (rows + more)
Grown-push ends values rows more value some g =
    let p = g.paired in
    let longer = length-append ends ((rows + more) ∷ []) in
    let longer_values = length-append values (value ∷ []) in
    let place : length (ends ++ (rows + more) ∷ []) - 1 ≡ length ends = omega arith in
    record {
      increasing = λ k h. elim (cases_lt (k + 1) (length ends)) [
        | inl inside ↦ rw (get_or-left ends ((rows + more) ∷ []) k 0 (omega arith), get_or-left ends ((rows + more) ∷ []) (k + 1) 0 inside) (g.increasing k inside)
        | inr past ↦ let at = g.low k (omega arith) in rw (get_or-left ends ((rows + more) ∷ []) k 0 (omega arith), get_or-last ends (rows + more) (k + 1) 0 (omega arith)) (omega arith)
      ];
      paired = omega arith;
      low = λ j h. elim (cases_lt j (length ends)) [
        | inl inside ↦ let at = g.low j inside in rw (get_or-left ends ((rows + more) ∷ []) j 0 inside) (omega arith)
        | inr past ↦ rw (get_or-last ends (rows + more) j 0 (omega arith)) (omega arith)
      ];
      some = λ h. omega arith;
      last = λ h. rw (place, get_or-last ends (rows + more) (length ends) 0 refl) (omega arith);
      filled = λ h. elim (cases_lt 0 (length ends)) [
        | inl inside ↦ rw (get_or-left ends ((rows + more) ∷ []) 0 0 inside) (g.filled inside)
        | inr empty ↦ rw (get_or-last ends (rows + more) 0 0 (omega arith)) (omega arith)
      ];
    }

-- a run that is pushed past a position changes no run of it
run_at-push : (ends : List ℕ) (end position : ℕ) → position < end → run_at (ends ++ end ∷ []) position ≡ run_at ends position
run_at-push [] end position h = run_at-here end [] position h
run_at-push (e ∷ ends) end position h = elim (cases_lt position e) [
  | inl before ↦ run_at-here e (ends ++ end ∷ []) position before ∙ sym (run_at-here e ends position before)
  | inr past ↦ run_at-past e (ends ++ end ∷ []) position past ∙ ap (λ (k : ℕ). k + 1) (run_at-push ends end position h) ∙ sym (run_at-past e ends position past)
]

run_at-all : (ends : List ℕ) (position : ℕ) → ((j : ℕ) → j < length ends → slice_index ends j ≤ position) → run_at ends position ≡ length ends
run_at-all ends position low = run_at_is ends position (length ends) (omega arith) low (λ h. absurd (omega arith))

pub run_rows-push : {B : Type 0} (ends : List ℕ) (values : List (Option B)) (rows more : ℕ) (value : Option B) → 0 < more → Grown ends values rows
    → run_rows (ends ++ (rows + more) ∷ []) (values ++ value ∷ []) 0 (rows + more) ≡ run_rows ends values 0 rows ++ replicate more value
run_rows-push ends values rows more value some g =
    let before_count = length-map-range_with_len (λ p. get_or values (run_at ends p) None) 0 rows in
    let after_count = length-map-range_with_len (λ p. get_or (values ++ value ∷ []) (run_at (ends ++ (rows + more) ∷ []) p) None) 0 (rows + more) in
    let copies = length-replicate more value in
    let joined = length-append (run_rows ends values 0 rows) (replicate more value) in
    let p = g.paired in
    ext_get_or None _ _ (omega arith) (λ i h.
    let left = get_or-map-range_with_len (λ p. get_or (values ++ value ∷ []) (run_at (ends ++ (rows + more) ∷ []) p) None) 0 (rows + more) i i None (omega arith) (zero-add i) in
    let run = run_at-push ends (rows + more) i (omega arith) in
    elim (cases_lt i rows) [
      | inl before ↦
          let inside = run_at_within ends i (g.some (omega arith)) (let e = g.last (omega arith) in omega arith) in
          left ∙ ap (λ k. get_or (values ++ value ∷ []) k None) run ∙ get_or-left values (value ∷ []) (run_at ends i) None (omega arith)
          ∙ sym (get_or-left (run_rows ends values 0 rows) (replicate more value) i None (omega arith) ∙ get_or-map-range_with_len (λ p. get_or values (run_at ends p) None) 0 rows i i None before (zero-add i))
      | inr past ↦
          let all = run_at-all ends i (λ j jl. let low = g.low j jl in omega arith) in
          left ∙ ap (λ k. get_or (values ++ value ∷ []) k None) (run ∙ all) ∙ get_or-last values value (length ends) None (sym p)
          ∙ sym (get_or-append_right (run_rows ends values 0 rows) (replicate more value) rows i None before_count past ∙ get_or-replicate more (i - rows) value None (omega arith))
    ])

-- they are a window of all these rows
pub IsWindow-grown : {B : Type 0} (ends : List ℕ) (values : List (Option B)) (rows : ℕ) → rows < 2 ^ 64 → Grown ends values rows → IsWindow ends 0 rows
IsWindow-grown ends values rows small g = record {
  increasing = g.increasing;
  none = λ none. (refl, elim (cases_lt 0 rows) [ inl some ↦ absurd (let s = g.some some in omega arith) | inr nothing ↦ omega arith ]);
  first = λ h. omega arith;
  last = λ h. rw zero-add (g.last h);
  small = omega arith;
}

-- the last of them ends with the rows
last_end-grown : {B : Type 0} (ends : List ℕ) (values : List (Option B)) (rows : ℕ) → Grown ends values rows → last_end ends ≡ rows
last_end-grown [] values rows g =
    let zero_end : last_end [] ≡ 0 = refl in
    elim (cases_lt 0 rows) [ inl some ↦ absurd (let s = g.some some in omega arith) | inr nothing ↦ omega arith ]
last_end-grown (end ∷ ends) values rows g =
    let filled = g.filled (omega arith) in
    let first = g.low 0 (omega arith) in
    let last = g.last (omega arith) in
    let low = g.low (length (end ∷ ends) - 1) (omega arith) in
    omega arith

-- and each shows a row
pub AllHaveRows-grown : {B : Type 0} (ends : List ℕ) (values : List (Option B)) (rows : ℕ) → Grown ends values rows → AllHaveRows ends 0 rows
AllHaveRows-grown ends values rows g = AllHaveRows-exact ends rows g.increasing g.filled (last_end-grown ends values rows g)
