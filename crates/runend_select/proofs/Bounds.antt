-- What indices that are in bounds say of the rows that they name.
use Rattle.std.proofs.Common.{◌≡◌, ◌+◌, ◌^◌, ◌<◌, ◌≤◌, ℕ, ℤ, pos, List, Bool, true, false, Option, Some, None, length, map, get_or, refl, subst, ap, ◌∙◌, inl, inr, arith}
use Rattle.std.specs.Prelude.{◌≤ℤ◌, ◌<ℤ◌, IfSome, option_map, slice_get, slice_index, unsigned_abs}
use Rattle.std.proofs.lemmas.Bool.{cases_lt}
use Rattle.std.proofs.lemmas.Int.{ints}
use Rattle.std.proofs.lemmas.List.{length-map}
use Rattle.std.proofs.lemmas.List.Elements.{All-weaker}
use Rattle.std.proofs.lemmas.Option.{IfSome_then, get_or_from_slice_get, slice_get-map, slice_get_read, slice_get_within}
use Rattle.column_core.proofs.OptionalRows.{null-at, optionals-at}
use Rattle.runend_windows.specs.Window.{run_at}
use Rattle.runend_windows.proofs.RunAt.{ends_past, run_of_row_within, run_at-le, run_at-le-run_at}
use Rattle.runend_select.specs.Indices.{AreInBounds, AreInWindow, AreSorted, optional_indices}

-- an index that was read, where its bit is true
pub index_at : {T : Type 0} (number : T → ℤ) (indices : List T) (bits : List Bool) (place : ℕ) (index : T) → place < length indices → index ≡ get_or indices place index
    → slice_get bits place ≡ Some true → slice_get (optional_indices number indices bits) place ≡ Some (Some (number index))
index_at number indices bits place index within is valid =
    optionals-at (map number indices) bits place (number index) true
    (slice_get-map number indices place ∙ ap (option_map number) (slice_get_read indices (length indices) place index refl within is)) valid

-- and where its bit is false
pub null_index_at : {T : Type 0} (number : T → ℤ) (indices : List T) (bits : List Bool) (place : ℕ) → place < length indices
    → slice_get bits place ≡ Some false → slice_get (optional_indices number indices bits) place ≡ Some None
null_index_at number indices bits place within null = null-at (map number indices) bits place (omega (arith, length-map indices number)) null

-- the run of a row is past each run that it was not before, and that has ended
pub run_at-passed : (ends : List ℕ) (row run : ℕ) → run ≤ run_at ends row → run_at ends row < length ends → slice_index ends run ≤ row → run + 1 ≤ run_at ends row
run_at-passed ends row run onward within ended = elim (cases_lt run (run_at ends row)) [
  | inl before ↦ omega arith
  | inr from ↦
      let here : run_at ends row ≡ run = omega arith in
      let past = subst (λ (k : ℕ). row < slice_index ends k) here (ends_past ends row within) in
      absurd (omega arith)
]

-- it is the first that has not ended
pub run_at-found : (ends : List ℕ) (row run : ℕ) → run ≤ run_at ends row → run_at ends row < length ends → row < slice_index ends run → run ≡ run_at ends row
run_at-found ends row run onward within past = let to = run_at-le ends row run (omega arith) past in omega arith

-- the bounds of a valid index
pub in_bounds_at : (indices : List (Option ℤ)) (count place : ℕ) (n : ℤ) → AreInBounds indices count → slice_get indices place ≡ Some (Some n) → (pos 0 ≤ℤ n) × (n <ℤ pos count)
in_bounds_at indices count place n bounds at =
    subst (λ (o : Option ℤ). IfSome o (λ m. (pos 0 ≤ℤ m) × (m <ℤ pos count))) (get_or_from_slice_get indices place (Some n) None at)
    (bounds place None (slice_get_within indices place (Some n) at))

-- as the row that it names
pub row_in_bounds : (indices : List (Option ℤ)) (count place row : ℕ) → AreInBounds indices count → slice_get indices place ≡ Some (Some (pos row)) → row < count
row_in_bounds indices count place row bounds at = let within = (in_bounds_at indices count place (pos row) bounds at).1 in omega (arith, ints)

-- wider bounds hold too
pub AreInBounds-wider : (indices : List (Option ℤ)) (count limit : ℕ) → count ≤ limit → AreInBounds indices count → AreInBounds indices limit
AreInBounds-wider indices count limit wider bounds =
    All-weaker (λ o. IfSome o (λ n. (pos 0 ≤ℤ n) × (n <ℤ pos count))) (λ o. IfSome o (λ n. (pos 0 ≤ℤ n) × (n <ℤ pos limit)))
    (λ o h. IfSome_then o h (λ n within. let low = within.0 in let high = within.1 in (low, omega (arith, ints)))) indices bounds

-- indices in a window are in the bounds of the numbers that a row can have
pub in_bounds_of_window : (ends : List ℕ) (offset : ℕ) (indices : List (Option ℤ)) → AreInWindow ends offset indices → AreInBounds indices (2 ^ 64)
in_bounds_of_window ends offset indices given =
    let small = given.1.small in
    AreInBounds-wider indices given.0 (2 ^ 64) (omega arith) given.2

-- the position of a row that an index in a window names
pub position_fits : (ends : List ℕ) (offset : ℕ) (indices : List (Option ℤ)) (place row : ℕ) → AreInWindow ends offset indices → slice_get indices place ≡ Some (Some (pos row)) → offset + row < 2 ^ 64
position_fits ends offset indices place row given at =
    let small = given.1.small in
    let within = row_in_bounds indices given.0 place row given.2 at in
    omega arith

-- the same where the index may be null
pub position_if : (ends : List ℕ) (offset : ℕ) (indices : List (Option ℤ)) (place : ℕ) (row : Option ℕ) → AreInWindow ends offset indices
    → slice_get indices place ≡ Some (option_map (λ (n : ℕ). pos n) row) → IfSome row (λ n. offset + n < 2 ^ 64)
position_if ends offset indices place None given at = tt
position_if ends offset indices place (Some row) given at = position_fits ends offset indices place row given at

-- and its run
pub run_within : (ends : List ℕ) (offset : ℕ) (indices : List (Option ℤ)) (place row : ℕ) → AreInWindow ends offset indices → slice_get indices place ≡ Some (Some (pos row)) → run_at ends (offset + row) < length ends
run_within ends offset indices place row given at =
    run_of_row_within ends offset given.0 row given.1 (row_in_bounds indices given.0 place row given.2 at)

-- the run of a valid index is no later than that of each valid index after it, where the indices are sorted
pub runs_ascend : (ends : List ℕ) (offset : ℕ) (indices : List (Option ℤ)) (i j row : ℕ) (n : ℤ) → AreSorted indices → i < j
    → slice_get indices i ≡ Some (Some (pos row)) → slice_get indices j ≡ Some (Some n) → run_at ends (offset + row) ≤ run_at ends (offset + unsigned_abs n)
runs_ascend ends offset indices i j row n sorted later at at' =
    let order = sorted i j (pos row) n later at at' in
    let rows : row ≤ unsigned_abs n = omega (arith, ints) in
    run_at-le-run_at ends (offset + row) (offset + unsigned_abs n) (omega arith)
