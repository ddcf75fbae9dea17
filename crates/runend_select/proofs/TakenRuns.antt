-- Rows at indices are the values of the indices' runs.
use Rattle.std.proofs.Common.{◌≡◌, ◌∙◌, ℕ, ℤ, pos, negsuc, ◌+◌, ◌<◌, List, [], ◌∷◌, Bool, true, false, Option, Some, None, length, map, get_or, replicate, arith, ap, refl, sym}
use Rattle.std.specs.Prelude.{◌≤ℤ◌, ◌<ℤ◌, IfSome, unsigned_abs}
use Rattle.std.proofs.lemmas.Int.{ints}
use Rattle.std.proofs.lemmas.List.{length-map}
use Rattle.std.proofs.lemmas.List.Elements.{All-cons, All-head, All-nil, All-tail}
use Rattle.std.proofs.lemmas.List.FromFn.{get_or-map-range_with_len}
use Rattle.column_core.specs.Optionals.{optionals}
use Rattle.column_ops.specs.Take.{ArePositions, position_numbers, take_rows, taken_row}
use Rattle.runend_windows.specs.Window.{IsWindow, run_at, run_rows}
use Rattle.runend_windows.proofs.RunAt.{run_of_row_within}
use Rattle.column_base.specs.ValidityForm.{ValidityForm, HasLength, flags}
use Rattle.column_base.proofs.ValidityRows.{length-flags}
use Rattle.runend_select.specs.Indices.{AreInBounds, optional_indices, runs_of}
use Rattle.runend_select.specs.RunsOf.{AreRunsOf}

-- the row of an index is the value of its run
row-of_run : {B : Type 0} (ends : List ℕ) (values : List (Option B)) (offset count k : ℕ) → k < count → get_or values (run_at ends (offset + k)) None ≡ get_or (run_rows ends values offset count) k None
row-of_run ends values offset count k h = sym (get_or-map-range_with_len (λ p. get_or values (run_at ends p) None) offset count k (offset + k) None h refl)

-- the row that one index names, by its run
row-taken : {B : Type 0} (ends : List ℕ) (values : List (Option B)) (offset count : ℕ) (index : ℤ) → pos 0 ≤ℤ index → index <ℤ pos count
    → taken_row values (Some (pos (run_at ends (offset + unsigned_abs index)))) ≡ taken_row (run_rows ends values offset count) (Some index)
row-taken ends values offset count (pos k) low high = row-of_run ends values offset count k (omega (arith, ints))
row-taken ends values offset count (negsuc k) low high = absurd (omega (arith, ints))

run-within : (ends : List ℕ) (offset count : ℕ) (index : ℤ) → IsWindow ends offset count → pos 0 ≤ℤ index → index <ℤ pos count → run_at ends (offset + unsigned_abs index) < length ends
run-within ends offset count (pos k) window low high = run_of_row_within ends offset count k window (omega (arith, ints))
run-within ends offset count (negsuc k) window low high = absurd (omega (arith, ints))

-- the values at the runs of the indices are the rows at the indices
pub take_rows-runs : {B : Type 0} (ends : List ℕ) (values : List (Option B)) (offset count null : ℕ) (indices : List ℤ) (bits : List Bool) → AreInBounds (optionals indices bits) count
    → take_rows values (position_numbers (optionals (runs_of ends offset null (optionals indices bits)) bits)) ≡ take_rows (run_rows ends values offset count) (optionals indices bits)
take_rows-runs ends values offset count null [] bits bounds = refl
take_rows-runs ends values offset count null (index ∷ indices) [] bounds = refl
take_rows-runs {B} ends values offset count null (index ∷ indices) (true ∷ bits) bounds =
    let here : (pos 0 ≤ℤ index) × (index <ℤ pos count) = All-head (λ i. IfSome i (λ n. (pos 0 ≤ℤ n) × (n <ℤ pos count))) (Some index) (optionals indices bits) bounds in
    let rest = take_rows-runs ends values offset count null indices bits (All-tail (λ i. IfSome i (λ n. (pos 0 ≤ℤ n) × (n <ℤ pos count))) (Some index) (optionals indices bits) bounds) in
    ap (λ (row : Option B). row ∷ take_rows values (position_numbers (optionals (runs_of ends offset null (optionals indices bits)) bits))) (row-taken ends values offset count index here.0 here.1)
    ∙ ap (λ (rows : List (Option B)). taken_row (run_rows ends values offset count) (Some index) ∷ rows) rest
take_rows-runs {B} ends values offset count null (index ∷ indices) (false ∷ bits) bounds =
    ap (λ (rows : List (Option B)). None ∷ rows)
    (take_rows-runs ends values offset count null indices bits (All-tail (λ i. IfSome i (λ n. (pos 0 ≤ℤ n) × (n <ℤ pos count))) None (optionals indices bits) bounds))

-- and these runs are there
pub ArePositions-runs : (ends : List ℕ) (offset count null : ℕ) (indices : List ℤ) (bits : List Bool) → IsWindow ends offset count → AreInBounds (optionals indices bits) count
    → ArePositions (optionals (runs_of ends offset null (optionals indices bits)) bits) (length ends)
ArePositions-runs ends offset count null [] bits window bounds = All-nil (λ position. IfSome position (λ k. k < length ends))
ArePositions-runs ends offset count null (index ∷ indices) [] window bounds = All-nil (λ position. IfSome position (λ k. k < length ends))
ArePositions-runs ends offset count null (index ∷ indices) (true ∷ bits) window bounds =
    let here : (pos 0 ≤ℤ index) × (index <ℤ pos count) = All-head (λ i. IfSome i (λ n. (pos 0 ≤ℤ n) × (n <ℤ pos count))) (Some index) (optionals indices bits) bounds in
    All-cons (λ position. IfSome position (λ k. k < length ends)) (Some (run_at ends (offset + unsigned_abs index))) _ (run-within ends offset count index window here.0 here.1)
    (ArePositions-runs ends offset count null indices bits window (All-tail (λ i. IfSome i (λ n. (pos 0 ≤ℤ n) × (n <ℤ pos count))) (Some index) (optionals indices bits) bounds))
ArePositions-runs ends offset count null (index ∷ indices) (false ∷ bits) window bounds =
    All-cons (λ position. IfSome position (λ k. k < length ends)) None _ tt
    (ArePositions-runs ends offset count null indices bits window (All-tail (λ i. IfSome i (λ n. (pos 0 ≤ℤ n) × (n <ℤ pos count))) None (optionals indices bits) bounds))

-- as many runs as indices
pub length-runs : (ends : List ℕ) (offset null : ℕ) (indices : List ℤ) (bits : List Bool) → length bits ≡ length indices → length (runs_of ends offset null (optionals indices bits)) ≡ length indices
length-runs ends offset null [] bits h = refl
length-runs ends offset null (index ∷ indices) [] h = h
length-runs ends offset null (index ∷ indices) (true ∷ bits) h = let rest = length-runs ends offset null indices bits (omega arith) in omega arith
length-runs ends offset null (index ∷ indices) (false ∷ bits) h = let rest = length-runs ends offset null indices bits (omega arith) in omega arith

-- without rows, no index is valid
pub runs-of_no_rows : (ends : List ℕ) (offset : ℕ) (indices : List ℤ) (bits : List Bool) → length bits ≡ length indices → AreInBounds (optionals indices bits) 0
    → replicate (length indices) 0 ≡ runs_of ends offset 0 (optionals indices bits)
runs-of_no_rows ends offset [] bits h bounds = refl
runs-of_no_rows ends offset (index ∷ indices) [] h bounds = cc
runs-of_no_rows ends offset (index ∷ indices) (true ∷ bits) h bounds =
    let here : (pos 0 ≤ℤ index) × (index <ℤ pos 0) = All-head (λ i. IfSome i (λ n. (pos 0 ≤ℤ n) × (n <ℤ pos 0))) (Some index) (optionals indices bits) bounds in
    absurd (omega (arith, ints, here.0, here.1))
runs-of_no_rows ends offset (index ∷ indices) (false ∷ bits) h bounds =
    ap (λ (ks : List ℕ). 0 ∷ ks) (runs-of_no_rows ends offset indices bits (omega arith) (All-tail (λ i. IfSome i (λ n. (pos 0 ≤ℤ n) × (n <ℤ pos 0))) None (optionals indices bits) bounds))

module _ {S : Type 0} (number : S → ℤ) (items : List S) (form : ValidityForm) (ends : List ℕ) (offset count : ℕ) (runs : List ℕ) (fits : HasLength form (length items))
    (bounds : AreInBounds (optional_indices number items (flags form (length items))) count) (are : AreRunsOf ends offset (optional_indices number items (flags form (length items))) runs) where
  paired : length (flags form (length items)) ≡ length (map number items)
  paired = length-flags form (length items) fits ∙ sym (length-map items number)

  counted : length runs ≡ length items
  counted = ap length are.answer ∙ length-runs ends offset are.null (map number items) (flags form (length items)) paired ∙ length-map items number

  pub fits-runs : HasLength form (length runs)
  fits-runs = rw counted fits

  pub positions-runs : IsWindow ends offset count → ArePositions (optionals runs (flags form (length runs))) (length ends)
  positions-runs window = rw (counted, are.answer) (ArePositions-runs ends offset count are.null (map number items) (flags form (length items)) window bounds)

  pub rows-runs : {B : Type 0} (values : List (Option B)) → take_rows values (position_numbers (optionals runs (flags form (length runs)))) ≡ take_rows (run_rows ends values offset count) (optional_indices number items (flags form (length items)))
  rows-runs values = rw (counted, are.answer) (take_rows-runs ends values offset count are.null (map number items) (flags form (length items)) bounds)
