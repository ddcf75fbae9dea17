-- The first and the last run, which need no search.
use Rattle.std.proofs.Common.{◌≡◌, ◌+◌, ◌-◌, ◌<◌, ◌≤◌, ℕ, zero, suc, Bool, List, length, slice_index, ap, arith, inl, inr}
use Rattle.std.specs.Prelude.{count_by, min, nat_le, nat_lt}
use Rattle.std.specs.List.Sorted.{IsStrictlyIncreasing}
use Rattle.std.proofs.lemmas.Bool.{cases_lt}
use Rattle.std.proofs.Math.Dec.{leb-suc-suc}
use Rattle.std.proofs.Math.Path.{fun_ext}
use Rattle.runend_windows.proofs.Places.{run_at-beyond}
use Rattle.runend_windows.proofs.RunAt.{run_at-count_by, run_at-le}

-- no end is at or below a row of the first run
pub none_before : (ends : List ℕ) (index : ℕ) → IsStrictlyIncreasing ends → 0 < length ends → index < slice_index ends 0
    → 0 ≡ min (count_by (λ e. nat_le e index) ends) (length ends - 1)
none_before ends index increasing some inside =
    let counted = run_at-count_by ends index increasing in
    let first = run_at-le ends index 0 some inside in
    omega arith

-- the last end but one is below the last
below_last : (ends : List ℕ) → IsStrictlyIncreasing ends → 1 < length ends → slice_index ends (length ends - 2) < slice_index ends (length ends - 1)
below_last ends increasing many =
    let next = increasing (length ends - 2) (omega arith) in
    let place : length ends - 2 + 1 ≡ length ends - 1 = omega arith in
    rw place at next

-- the ends below the next number are those at or below this one
below_next : (ends : List ℕ) (row : ℕ) → count_by (λ e. nat_lt e (suc row)) ends ≡ count_by (λ e. nat_le e row) ends
below_next ends row = ap (λ (f : ℕ → Bool). count_by f ends) (fun_ext (λ e. leb-suc-suc e row))

-- all ends but the last are below a row that the last one does not pass
pub all_before : (ends : List ℕ) (index : ℕ) → IsStrictlyIncreasing ends → 0 < length ends → slice_index ends (length ends - 1) ≤ index
    → length ends ≡ min (count_by (λ e. nat_lt e index) ends + 1) (length ends)
all_before ends zero increasing some last =
    elim (cases_lt 1 (length ends)) [
      | inl many ↦ let below = below_last ends increasing many in absurd (omega arith)
      | inr one ↦ omega arith
    ]
all_before ends (suc row) increasing some last =
    elim (cases_lt 1 (length ends)) [
      | inl many ↦
          let below = below_last ends increasing many in
          let counted = run_at-count_by ends row increasing in
          let same = below_next ends row in
          let beyond = run_at-beyond ends row (length ends - 2) increasing (omega arith) (omega arith) in
          omega arith
      | inr one ↦ omega arith
    ]
