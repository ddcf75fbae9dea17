-- The tally of rows of keys, run by run.
use Rattle.std.proofs.Common.{◌≡◌, ◌∙◌, ℕ, ℤ, zero, suc, ◌+◌, ◌-◌, ◌<◌, ◌≤◌, ◌^◌, Bool, true, false, List, [], ◌∷◌, ◌++◌, Option, Some, None, length, replicate, slice_index, refl, sym, ap, arith, nat_lt, add-one, add-zero, zero-add, append-nil, append_assoc}
use Rattle.std.specs.Prelude.{if◌then◌else◌, ◌==◌, slice_get, slice_range}
use Rattle.std.proofs.lemmas.List.{take_all}
use Rattle.column_base.proofs.Ranges.{length-slice_range}
use Rattle.column_ops.proofs.RowRanges.{slice_range-next}
use Rattle.float_bits.specs.declared.formats.FloatFormat.{FloatFormat}
use Rattle.float_bits.specs.CommonSizes.{common_size}
use Rattle.float_bits.specs.Format.{infinity, magnitude, sign_bit}
use Rattle.float_bits.specs.Tally.{Tally, joined, no_rows, row_of, tally, times}
use Rattle.float_bits.proofs.Tallies.{joined_grouped, joined_none, joined_swapped, times_more, times_none}
use Rattle.runend_windows.specs.Window.{IsWindow, last_end, run_at, run_rows}
use Rattle.runend_windows.proofs.RunRows.{length-run_rows, slice_get-run_rows_of_window}
use Rattle.column_floats.specs.FloatRows.{bits_of_key}
use Rattle.runend_floats.specs.Runs.{first_row}
use Rattle.runend_floats.specs.Sums.{row_in, tally_of_keys}
use Rattle.runend_floats.proofs.CoveredRows.{run_of_its_rows, within_last}

-- what a run adds
pub tally_of_run : (f : FloatFormat) (k : ℤ) (n b : ℕ) → row_of b ≡ row_in f (bits_of_key f k) → times n (row_of b) ≡ tally_of_keys f (replicate n (Some k))
tally_of_run f k zero b e = times_none (row_of b)
tally_of_run f k (suc n) b e =
    times_more n (row_of b) ∙ ap (joined (row_of b)) (tally_of_run f k n b e) ∙ ap (λ (r : Tally). joined r (tally_of_keys f (replicate n (Some k)))) e

-- and a run of nulls
nulls : (f : FloatFormat) (n : ℕ) → tally_of_keys f (replicate n None) ≡ no_rows
nulls f zero = refl
nulls f (suc n) = nulls f n

pub tally_of_nulls : (f : FloatFormat) (t : Tally) (n : ℕ) → t ≡ joined t (tally_of_keys f (replicate n None))
tally_of_nulls f t n = sym (joined_swapped t no_rows ∙ joined_none t) ∙ ap (joined t) (sym (nulls f n))

-- rows and further rows
tally_joined : (f : FloatFormat) (xs ys : List (Option ℤ)) → tally_of_keys f (xs ++ ys) ≡ joined (tally_of_keys f xs) (tally_of_keys f ys)
tally_joined f [] ys = sym (joined_none (tally_of_keys f ys))
tally_joined f (None ∷ xs) ys = tally_joined f xs ys
tally_joined f (Some k ∷ xs) ys =
    ap (joined (row_in f (bits_of_key f k))) (tally_joined f xs ys) ∙ sym (joined_grouped (row_in f (bits_of_key f k)) (tally_of_keys f xs) (tally_of_keys f ys))

tally_grown : (f : FloatFormat) (xs ys rows : List (Option ℤ)) → rows ≡ xs ++ ys → joined (tally_of_keys f xs) (tally_of_keys f ys) ≡ tally_of_keys f rows
tally_grown f xs ys rows e = sym (tally_joined f xs ys) ∙ ap (tally_of_keys f) (sym e)

-- each row counts as one
one_row : (finite positive is_zero plus minus : Bool) (s : ℕ) →
    (if finite then (if positive then tally 1 s 0 0 0 0 0 else (if is_zero then tally 1 0 0 0 0 0 1 else tally 1 0 s 0 0 0 0))
    else (if plus then tally 1 0 0 0 1 0 0 else (if minus then tally 1 0 0 0 0 1 0 else tally 1 0 0 1 0 0 0))).rows ≡ 1
one_row true true is_zero plus minus s = refl
one_row true false true plus minus s = refl
one_row true false false plus minus s = refl
one_row false positive is_zero true minus s = refl
one_row false positive is_zero false true s = refl
one_row false positive is_zero false false s = refl

row_counts : (f : FloatFormat) (b : ℕ) → (row_in f b).rows ≡ 1
row_counts f b = one_row (nat_lt (magnitude f b) (infinity f)) (nat_lt b (sign_bit f)) (b == sign_bit f) (b == infinity f) (b == sign_bit f + infinity f) (common_size f b)

-- so a tally has at most as many rows as there are
pub rows_counted : (f : FloatFormat) (rows : List (Option ℤ)) → (tally_of_keys f rows).rows ≤ length rows
rows_counted f [] = omega arith
rows_counted f (None ∷ rows) = let rest = rows_counted f rows in omega arith
rows_counted f (Some k ∷ rows) = let rest = rows_counted f rows in let one = row_counts f (bits_of_key f k) in omega arith

-- a range of rows that goes on with copies of one
range_with_copies : {X : Type 0} (rows : List X) (start row : ℕ) (x : X) (n : ℕ) → start ≤ row → ((k : ℕ) → row ≤ k → k < row + n → slice_get rows k ≡ Some x)
    → slice_range rows start (row + n) ≡ slice_range rows start row ++ replicate n x
range_with_copies rows start row x zero ordered here = rw (add-zero row, append-nil (slice_range rows start row)) refl
range_with_copies rows start row x (suc n) ordered here =
    let place : row + 1 + n ≡ row + suc n = omega arith in
    let one = slice_range-next rows start row x ordered (here row (omega arith) (omega arith)) in
    let rest = range_with_copies rows start (row + 1) x n (omega arith) (λ k from before. here k (omega arith) (omega arith)) in
    rw (place, one, append_assoc (slice_range rows start row) (x ∷ []) (replicate n x)) at rest

-- the row after the last run
last_row : (ends : List ℕ) → first_row ends (length ends) ≡ last_end ends
last_row [] = refl
last_row (end ∷ ends) = let same : length ends ≡ suc (length ends) - 1 = omega arith in ap (slice_index (end ∷ ends)) same

-- the first row of the next run
pub first_row-next : (ends : List ℕ) (run : ℕ) → first_row ends (run + 1) ≡ slice_index ends run
first_row-next ends run = rw add-one refl

-- the rows that runs show
abbrev pub shown : List ℕ → List (Option ℤ) → List (Option ℤ)
shown ends keys = run_rows ends keys 0 (last_end ends)

module _ (f : FloatFormat) (ends : List ℕ) (keys : List (Option ℤ)) (window : IsWindow ends 0 (last_end ends)) (paired : length keys ≡ length ends) where
  -- the rows of a run show its key
  shows : (run row : ℕ) (key : Option ℤ) → run < length ends → slice_get keys run ≡ Some key → first_row ends run ≤ row → row < slice_index ends run → slice_get (shown ends keys) row ≡ Some key
  shows run row key within is from before =
      let last = within_last ends run window.increasing within in
      slice_get-run_rows_of_window ends keys 0 (last_end ends) row window paired (omega arith)
      ∙ ap (slice_get keys) (ap (run_at ends) (zero-add row) ∙ run_of_its_rows ends run row window.increasing within from before) ∙ is

  -- the tally of the rows before a run, with those of the run
  pub tally_of_next : (run end : ℕ) (key : Option ℤ) → run < length ends → end ≡ slice_index ends run → slice_get keys run ≡ Some key → first_row ends run ≤ end
      → joined (tally_of_keys f (slice_range (shown ends keys) 0 (first_row ends run))) (tally_of_keys f (replicate (end - first_row ends run) key)) ≡ tally_of_keys f (slice_range (shown ends keys) 0 end)
  tally_of_next run end key within ended is ordered =
      let start = first_row ends run in
      let whole : start + (end - start) ≡ end = omega arith in
      tally_grown f (slice_range (shown ends keys) 0 start) (replicate (end - start) key) (slice_range (shown ends keys) 0 end)
      (rw whole at (range_with_copies (shown ends keys) 0 start key (end - start) (omega arith) (λ k from before. shows run k key within is from (omega (arith, ended)))))

  -- the tally of all rows
  pub tally_of_all : (row : ℕ) → row ≡ first_row ends (length ends) → tally_of_keys f (slice_range (shown ends keys) 0 row) ≡ tally_of_keys f (shown ends keys)
  tally_of_all row is =
      let long = length-run_rows ends keys 0 (last_end ends) in
      let last = last_row ends in
      ap (tally_of_keys f) (take_all (row - 0) (shown ends keys) (omega (arith, is, long, last)))

  -- these rows, with those of the next run, are fewer than 2 ^ 64
  pub few_rows : (run row end : ℕ) → run < length ends → row ≡ first_row ends run → end ≡ slice_index ends run → row ≤ end → (tally_of_keys f (slice_range (shown ends keys) 0 row)).rows + (end - row) < 2 ^ 64
  few_rows run row end within begun ended ordered =
      let last = within_last ends run window.increasing within in
      let small = window.small in
      let counted = rows_counted f (slice_range (shown ends keys) 0 row) in
      let all = length-run_rows ends keys 0 (last_end ends) in
      let long = length-slice_range (shown ends keys) 0 row (omega arith) (omega (arith, all, last, ended, ordered)) in
      omega (arith, counted, long, last, small, ended, ordered)
