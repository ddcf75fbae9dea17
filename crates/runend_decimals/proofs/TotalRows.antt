-- The sum of the first rows, and what a run more makes of it.
use Rattle.std.proofs.Common.{◌≡◌, ◌∙◌, ℕ, zero, suc, ◌+◌, ◌-◌, ◌<◌, ◌≤◌, ℤ, pos, ◌+ℤ◌, ◌*ℤ◌, ◌&&◌, Bool, true, false, Option, Some, None, List, [], ◌∷◌, length, take, slice_index, refl, sym, ap, subst, arith, add-zero, zero-add, inl, inr}
use Rattle.std.specs.Prelude.{is_none, slice_get}
use Rattle.std.proofs.lemmas.Bool.{cases_lt}
use Rattle.std.proofs.lemmas.Int.{ints}
use Rattle.std.proofs.Math.IntN.{*ℤ-zero, +ℤ_idr}
use Rattle.std.proofs.Math.Seq.{take-length}
use Rattle.column_sums.specs.RowSum.{are_null}
use Rattle.column_sums.proofs.RunSums.{none_after, all_or}
use Rattle.column_sums.proofs.Within.{times-suc}
use Rattle.runend_floats.specs.Runs.{first_row}
use Rattle.runend_floats.proofs.CoveredRows.{run_of_its_rows, within_last}
use Rattle.runend_windows.specs.Window.{IsWindow, last_end, run_at, run_rows}
use Rattle.runend_windows.proofs.RunRows.{slice_get-run_rows_of_window}
use Rattle.runend_decimals.specs.Digits.{HasDigits}
use Rattle.runend_decimals.specs.Totals.{with_rows, StaysWithin, sum_of, IsFirstLeaving, IsHeld, IsLeftAfter, total}
use Rattle.runend_decimals.specs.declared.sums.DecimalSum.{DecimalSum}
use Rattle.runend_decimals.proofs.Held.{held_between}

-- one row more
total_next : (rows : List (Option ℤ)) (k : ℕ) (n : ℤ) → slice_get rows k ≡ Some (Some n) → total (take (suc k) rows) ≡ total (take k rows) +ℤ n
total_next [] k n h = cc
total_next (row ∷ rows) zero n h = let e : row ≡ Some n = cc in rw e (omega (arith, ints))
total_next (None ∷ rows) (suc k) n h = total_next rows k n h
total_next (Some m ∷ rows) (suc k) n h = let rest = total_next rows k n h in omega (arith, ints, rest)

total_null : (rows : List (Option ℤ)) (k : ℕ) → slice_get rows k ≡ Some None → total (take (suc k) rows) ≡ total (take k rows)
total_null [] k h = cc
total_null (row ∷ rows) zero h = let e : row ≡ None = cc in rw e refl
total_null (None ∷ rows) (suc k) h = total_null rows k h
total_null (Some m ∷ rows) (suc k) h = ap (λ (s : ℤ). m +ℤ s) (total_null rows k h)

are_null_next : (rows : List (Option ℤ)) (k : ℕ) (row : Option ℤ) → slice_get rows k ≡ Some row → are_null (take (suc k) rows) ≡ (are_null (take k rows) && is_none row)
are_null_next [] k row h = cc
are_null_next (r ∷ rows) zero row h = let e : r ≡ row = cc in rw e (all_or (is_none row))
are_null_next (None ∷ rows) (suc k) row h = are_null_next rows k row h
are_null_next (Some m ∷ rows) (suc k) row h = refl

-- rows from `start` on that all show one
abbrev pub AreCopies : List (Option ℤ) → ℕ → ℕ → Option ℤ → Type 0
AreCopies rows start count row = (k : ℕ) → start ≤ k → k < start + count → slice_get rows k ≡ Some row

fewer_copies : (rows : List (Option ℤ)) (start fewer count : ℕ) (row : Option ℤ) → fewer ≤ count → AreCopies rows start count row → AreCopies rows start fewer row
fewer_copies rows start fewer count row less copies = λ k from before. copies k from (omega arith)

total_copies : (rows : List (Option ℤ)) (start count : ℕ) (n : ℤ) → AreCopies rows start count (Some n) → total (take (start + count) rows) ≡ total (take start rows) +ℤ n *ℤ pos count
total_copies rows start zero n copies = rw (add-zero start, *ℤ-zero n) (sym (+ℤ_idr (total (take start rows))))
total_copies rows start (suc count) n copies =
    let place : start + suc count ≡ suc (start + count) = omega arith in
    let one = total_next rows (start + count) n (copies (start + count) (omega arith) (omega arith)) in
    let rest = total_copies rows start count n (fewer_copies rows start count (suc count) (Some n) (omega arith) copies) in
    rw place (omega (arith, ints, one, rest, times-suc n count))

total_nulls : (rows : List (Option ℤ)) (start count : ℕ) → AreCopies rows start count None → total (take (start + count) rows) ≡ total (take start rows)
total_nulls rows start zero copies = rw (add-zero start) refl
total_nulls rows start (suc count) copies =
    let place : start + suc count ≡ suc (start + count) = omega arith in
    rw place (total_null rows (start + count) (copies (start + count) (omega arith) (omega arith)) ∙ total_nulls rows start count (fewer_copies rows start count (suc count) None (omega arith) copies))

nulls_go_on : (rows : List (Option ℤ)) (start count : ℕ) → AreCopies rows start count None → are_null (take (start + count) rows) ≡ are_null (take start rows)
nulls_go_on rows start zero copies = rw (add-zero start) refl
nulls_go_on rows start (suc count) copies =
    let place : start + suc count ≡ suc (start + count) = omega arith in
    rw place (are_null_next rows (start + count) None (copies (start + count) (omega arith) (omega arith)) ∙ all_or (are_null (take (start + count) rows))
    ∙ nulls_go_on rows start count (fewer_copies rows start count (suc count) None (omega arith) copies))

nulls_end : (rows : List (Option ℤ)) (start count : ℕ) (n : ℤ) → 0 < count → AreCopies rows start count (Some n) → are_null (take (start + count) rows) ≡ false
nulls_end rows start zero n some copies = absurd (omega arith)
nulls_end rows start (suc count) n some copies =
    let place : start + suc count ≡ suc (start + count) = omega arith in
    rw place (are_null_next rows (start + count) (Some n) (copies (start + count) (omega arith) (omega arith)) ∙ none_after (are_null (take (start + count) rows)))

-- the first rows up to one were summed: no sum of them left 38 digits
pub record IsSummedTo (rows : List (Option ℤ)) (row : ℕ) (sum : ℤ) (is_empty : Bool) : Type 0 where
  pub sum_is : sum ≡ total (take row rows)
  pub within : (k : ℕ) → k ≤ row → HasDigits 38 (total (take k rows))
  pub empty : is_empty ≡ are_null (take row rows)

-- none was yet
pub summed_none : (rows : List (Option ℤ)) → IsSummedTo rows 0 (pos 0) true
summed_none rows = record {
  sum_is = refl;
  within = λ k h. let none : k ≡ 0 = omega arith in rw none (omega (arith, ints));
  empty = refl;
}

-- as far as a run holds, the sums are within
copies_within : (rows : List (Option ℤ)) (start count : ℕ) (sum n : ℤ) (is_empty : Bool) → IsSummedTo rows start sum is_empty → AreCopies rows start count (Some n) → HasDigits 38 (sum +ℤ n *ℤ pos count)
    → (k : ℕ) → k ≤ start + count → HasDigits 38 (total (take k rows))
copies_within rows start count sum n is_empty summed copies held k h = elim (cases_lt k start) [
  | inl before ↦ summed.within k (omega arith)
  | inr from ↦
      let place : start + (k - start) ≡ k = omega arith in
      let less : k - start ≤ count = omega arith in
      let reached = total_copies rows start (k - start) n (fewer_copies rows start (k - start) count (Some n) less copies) in
      let begun : HasDigits 38 sum = subst (λ (s : ℤ). HasDigits 38 s) (sym summed.sum_is) (summed.within start (omega arith)) in
      let here = held_between sum n count (k - start) less begun held in
      let there : total (take k rows) ≡ sum +ℤ n *ℤ pos (k - start) = ap (λ (j : ℕ). total (take j rows)) (sym place) ∙ reached ∙ ap (λ (s : ℤ). s +ℤ n *ℤ pos (k - start)) (sym summed.sum_is) in
      subst (λ (s : ℤ). HasDigits 38 s) (sym there) here
]

-- a run more, of a number
pub summed_run : (rows : List (Option ℤ)) (start count : ℕ) (sum n next : ℤ) (is_empty : Bool) → 0 < count → IsSummedTo rows start sum is_empty → AreCopies rows start count (Some n)
    → next ≡ sum +ℤ n *ℤ pos count → HasDigits 38 next → IsSummedTo rows (start + count) next false
summed_run rows start count sum n next is_empty some summed copies is held = record {
  sum_is = is ∙ ap (λ (s : ℤ). s +ℤ n *ℤ pos count) summed.sum_is ∙ sym (total_copies rows start count n copies);
  within = copies_within rows start count sum n is_empty summed copies (subst (λ (s : ℤ). HasDigits 38 s) is held);
  empty = sym (nulls_end rows start count n some copies);
}

-- of nulls
pub summed_nulls : (rows : List (Option ℤ)) (start count : ℕ) (sum : ℤ) (is_empty : Bool) → IsSummedTo rows start sum is_empty → AreCopies rows start count None → IsSummedTo rows (start + count) sum is_empty
summed_nulls rows start count sum is_empty summed copies = record {
  sum_is = summed.sum_is ∙ sym (total_nulls rows start count copies);
  within = λ k h. elim (cases_lt k start) [
    | inl before ↦ summed.within k (omega arith)
    | inr from ↦
        let place : start + (k - start) ≡ k = omega arith in
        let less : k - start ≤ count = omega arith in
        let reached = total_nulls rows start (k - start) (fewer_copies rows start (k - start) count None less copies) in
        let there : total (take k rows) ≡ total (take start rows) = ap (λ (j : ℕ). total (take j rows)) (sym place) ∙ reached in
        subst (λ (s : ℤ). HasDigits 38 s) (sym there) (summed.within start (omega arith))
  ];
  empty = summed.empty ∙ sym (nulls_go_on rows start count copies);
}

-- a run of which the sum does not hold all rows
pub leaving_run : (rows : List (Option ℤ)) (start count held : ℕ) (sum n : ℤ) (is_empty : Bool) → start + count ≤ length rows → IsSummedTo rows start sum is_empty → AreCopies rows start count (Some n)
    → IsHeld sum n count held → IsFirstLeaving rows (start + held)
leaving_run rows start count held sum n is_empty short summed copies is =
    let less = is.within in
    record {
      within = omega (arith, less, short);
      leaves = λ h.
          let place : start + held + 1 ≡ start + (held + 1) = omega arith in
          let reached = total_copies rows start (held + 1) n (fewer_copies rows start (held + 1) count (Some n) (omega arith) copies) in
          let there : total (take (start + held + 1) rows) ≡ sum +ℤ n *ℤ pos (held + 1) = ap (λ (k : ℕ). total (take k rows)) place ∙ reached ∙ ap (λ (s : ℤ). s +ℤ n *ℤ pos (held + 1)) (sym summed.sum_is) in
          is.leaves (subst (λ (s : ℤ). HasDigits 38 s) there h);
      before = copies_within rows start held sum n is_empty summed (fewer_copies rows start held count (Some n) (omega arith) copies) is.holds;
    }

-- a run more, of whatever value
pub summed_step : (rows : List (Option ℤ)) (start count : ℕ) (sum next : DecimalSum) (value : Option ℤ) → 0 < count → IsSummedTo rows start sum.sum sum.is_empty → AreCopies rows start count value
    → next ≡ with_rows sum value count → HasDigits 38 next.sum → IsSummedTo rows (start + count) next.sum next.is_empty
summed_step rows start count sum next None some summed copies is held =
    subst (λ (s : DecimalSum). IsSummedTo rows (start + count) s.sum s.is_empty) (sym is) (summed_nulls rows start count sum.sum sum.is_empty summed copies)
summed_step rows start count sum next (Some n) some summed copies is held =
    let reached : next.sum ≡ sum.sum +ℤ n *ℤ pos count = ap (λ (s : DecimalSum). s.sum) is in
    let filled : next.is_empty ≡ false = ap (λ (s : DecimalSum). s.is_empty) is in
    subst (λ (empty : Bool). IsSummedTo rows (start + count) next.sum empty) (sym filled) (summed_run rows start count sum.sum n next.sum sum.is_empty some summed copies reached held)

pub leaving_step : (rows : List (Option ℤ)) (start count held : ℕ) (sum : DecimalSum) (value : Option ℤ) → start + count ≤ length rows → IsSummedTo rows start sum.sum sum.is_empty
    → AreCopies rows start count value → IsLeftAfter sum.sum value count held → IsFirstLeaving rows (start + held)
leaving_step rows start count held sum None short summed copies is = absurd is
leaving_step rows start count held sum (Some n) short summed copies is = leaving_run rows start count held sum.sum n sum.is_empty short summed copies is

pub held_fewer : (sum : ℤ) (value : Option ℤ) (count held : ℕ) → IsLeftAfter sum value count held → held < count
held_fewer sum None count held is = absurd is
held_fewer sum (Some n) count held is = is.within

-- the sums within all rows
pub summed_all : (rows : List (Option ℤ)) (row : ℕ) (sum : DecimalSum) → row ≡ length rows → IsSummedTo rows row sum.sum sum.is_empty → (sum ≡ sum_of rows) × StaysWithin rows
summed_all rows row sum past summed =
    let whole : take row rows ≡ rows = ap (λ (k : ℕ). take k rows) past ∙ take-length rows in
    let value : sum.sum ≡ total rows = summed.sum_is ∙ ap total whole in
    let empty : sum.is_empty ≡ are_null rows = summed.empty ∙ ap are_null whole in
    ((λ i. record { sum = value i; is_empty = empty i }), (λ k h. summed.within k (omega (arith, h, past))))

-- the rows of a run show its value
pub run_copies : (ends : List ℕ) (values : List (Option ℤ)) (run : ℕ) (value : Option ℤ) → IsWindow ends 0 (last_end ends) → length values ≡ length ends → run < length ends
    → first_row ends run ≤ slice_index ends run → slice_get values run ≡ Some value → AreCopies (run_rows ends values 0 (last_end ends)) (first_row ends run) (slice_index ends run - first_row ends run) value
run_copies ends values run value window paired within ordered is = λ k from before.
    let last = within_last ends run window.increasing within in
    slice_get-run_rows_of_window ends values 0 (last_end ends) k window paired (omega arith)
    ∙ ap (slice_get values) (ap (run_at ends) (zero-add k) ∙ run_of_its_rows ends run k window.increasing within from (omega arith)) ∙ is

-- the first row after all runs is after the last end
pub first_after : (ends : List ℕ) → first_row ends (length ends) ≡ last_end ends
first_after [] = refl
first_after (end ∷ ends) = let place : suc (length ends) - 1 ≡ length ends = omega arith in rw place refl
