-- A table of the run of each row that is filled run by run.
use Rattle.std.proofs.Common.{◌≡◌, ℕ, zero, suc, ◌+◌, ◌-◌, ◌<◌, ◌≤◌, List, [], ◌∷◌, ◌++◌, length, map, min, replicate, slice_index, refl, sym, ◌∙◌, ap, arith, add-one, inl, inr}
use Rattle.std.specs.List.{range_with_len}
use Rattle.std.proofs.lemmas.Bool.{cases_lt}
use Rattle.std.proofs.lemmas.List.{append_assoc, append-nil, replicate_more}
use Rattle.std.proofs.lemmas.List.FromFn.{length-map-range_with_len, map-range_with_len_more}
use Rattle.runend_windows.specs.Window.{IsWindow, run_at}
use Rattle.runend_windows.proofs.RunAt.{ends_after, run_at-le, run_of_row_within}
use Rattle.runend_select.specs.Indices.{runs_of_rows}

-- `rows` rows are reached by the runs before a run: they are in these runs, and the rows after them are not
pub record AreReached (ends : List ℕ) (offset count run rows : ℕ) : Type 0 where
  pub within : rows ≤ count
  pub before : (row : ℕ) → row < rows → run_at ends (offset + row) < run
  pub onward : (row : ℕ) → rows ≤ row → row < count → run ≤ run_at ends (offset + row)

pub AreReached-none : (ends : List ℕ) (offset count : ℕ) → AreReached ends offset count 0 0
AreReached-none ends offset count = record {
  within = omega arith;
  before = λ row h. absurd (omega arith);
  onward = λ row from h. omega arith;
}

-- a run that has ended is passed
run_at-past_ended : (ends : List ℕ) (offset count run row : ℕ) → IsWindow ends offset count → run < length ends → slice_index ends run ≤ offset + row → run + 1 ≤ run_at ends (offset + row)
run_at-past_ended ends offset count run row window h ended = elim (cases_lt run (run_at ends (offset + row))) [
  | inl past ↦ omega arith
  | inr from ↦ let later = ends_after ends (offset + row) run window.increasing from h in absurd (omega arith)
]

-- the next run reaches its end, or the last row
pub AreReached-more : (ends : List ℕ) (offset count run rows reach : ℕ) → IsWindow ends offset count → run < length ends → reach ≡ min (slice_index ends run - offset) count
    → AreReached ends offset count run rows → AreReached ends offset count (run + 1) reach
AreReached-more ends offset count run rows reach window h is so_far = record {
  within = omega arith;
  before = λ row lt. let le = run_at-le ends (offset + row) run h (omega arith) in omega arith;
  onward = λ row from lt. run_at-past_ended ends offset count run row window h (omega arith);
}

-- these are at least as many rows
reached_in_order : (ends : List ℕ) (offset count run rows reach : ℕ) → AreReached ends offset count run rows → AreReached ends offset count (run + 1) reach → rows ≤ reach
reached_in_order ends offset count run rows reach so_far more = elim (cases_lt reach rows) [
  | inl fewer ↦
      let within = so_far.within in
      let earlier = so_far.before reach fewer in
      let later = more.onward reach (omega arith) (omega arith) in
      absurd (omega arith)
  | inr from ↦ from
]

-- from the rows that are reached, the run goes on to its end, or to the last row
pub reach-more : (ends : List ℕ) (offset count run rows more : ℕ) → IsWindow ends offset count → run < length ends → more ≡ min (slice_index ends run - (offset + rows)) (count - rows)
    → AreReached ends offset count run rows → rows + more ≡ min (slice_index ends run - offset) count
reach-more ends offset count run rows more window h is so_far =
    let next = min (slice_index ends run - offset) count in
    let order : rows ≤ next = reached_in_order ends offset count run rows next so_far (AreReached-more ends offset count run rows next window h refl so_far) in
    omega arith

-- copies of what a function has at each of some more rows
rows_alike : (f : ℕ → ℕ) (offset rows more value : ℕ) → ((row : ℕ) → rows ≤ row → row < rows + more → f (offset + row) ≡ value)
    → map f (range_with_len offset (rows + more)) ≡ map f (range_with_len offset rows) ++ replicate more value
rows_alike f offset rows zero value alike =
    let none : rows + 0 ≡ rows = omega arith in
    ap (λ n. map f (range_with_len offset n)) none ∙ sym (append-nil (map f (range_with_len offset rows)))
rows_alike f offset rows (suc more) value alike =
    let first = rows_alike f offset rows more value (λ row from lt. alike row from (omega arith)) in
    let last = alike (rows + more) (omega arith) (omega arith) in
    let next : rows + suc more ≡ (rows + more) + 1 = omega arith in
    let copies : replicate (suc more) value ≡ replicate more value ++ value ∷ [] = rw add-one at (sym (replicate_more more value)) in
    ap (λ n. map f (range_with_len offset n)) next
    ∙ map-range_with_len_more f offset (rows + more) (offset + (rows + more)) refl
    ∙ ap (λ xs. xs ++ f (offset + (rows + more)) ∷ []) first
    ∙ ap (λ x. (map f (range_with_len offset rows) ++ replicate more value) ++ x ∷ []) last
    ∙ append_assoc (map f (range_with_len offset rows)) (replicate more value) (value ∷ [])
    ∙ ap (λ xs. map f (range_with_len offset rows) ++ xs) (sym copies)

-- the run is written once for each row that it reaches and that is not there yet
pub filled-more : (ends : List ℕ) (offset count run rows reach : ℕ) (table : List ℕ) → IsWindow ends offset count → run < length ends → reach ≡ min (slice_index ends run - offset) count
    → AreReached ends offset count run rows → table ≡ runs_of_rows ends offset rows → table ++ replicate (reach - length table) run ≡ runs_of_rows ends offset reach
filled-more ends offset count run rows reach table window h is so_far filled =
    let more = AreReached-more ends offset count run rows reach window h is so_far in
    let order = reached_in_order ends offset count run rows reach so_far more in
    let long : length table ≡ rows = ap length filled ∙ length-map-range_with_len (run_at ends) offset rows in
    let missing : reach - length table ≡ reach - rows = ap (λ (n : ℕ). reach - n) long in
    let alike = rows_alike (run_at ends) offset rows (reach - rows) run (λ row from lt.
    let lower = so_far.onward row from (omega (arith, more.within)) in
    let upper = more.before row (omega arith) in
    omega arith) in
    let all : rows + (reach - rows) ≡ reach = omega arith in
    ap (λ (n : ℕ). table ++ replicate n run) missing
    ∙ ap (λ xs. xs ++ replicate (reach - rows) run) filled
    ∙ sym alike
    ∙ ap (λ n. runs_of_rows ends offset n) all

-- past the last run each row is there
pub reached_all : (ends : List ℕ) (offset count run rows : ℕ) → IsWindow ends offset count → length ends ≤ run → AreReached ends offset count run rows → rows ≡ count
reached_all ends offset count run rows window past so_far = elim (cases_lt rows count) [
  | inl fewer ↦
      let later = so_far.onward rows (omega arith) fewer in
      let within = run_of_row_within ends offset count rows window fewer in
      absurd (omega arith)
  | inr from ↦ let within = so_far.within in omega arith
]
