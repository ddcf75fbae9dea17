-- Rows that are copies of rows of a column: where the list of a row stays the same, and pieces of such rows.
use Rattle.std.proofs.Common.{◌≡◌, ◌∙◌, ◌+◌, ◌-◌, ◌^◌, ◌<◌, ◌≤◌, ◌++◌, ℕ, zero, suc, Bool, List, [], ◌∷◌, Option, None, Some, ap, append-nil, append_assoc, arith, cond, length, map, min, refl, replicate, slice_index, subst, sym}
use Rattle.std.specs.Prelude.{All, slice_get, slice_index_or, slice_range}
use Rattle.std.specs.List.{range_with_len}
use Rattle.std.proofs.lemmas.List.{ext_get_or, get_or-map, length-map, map-append, replicate_more}
use Rattle.std.proofs.lemmas.List.FromFn.{get_or-map-range_with_len, length-map-range_with_len}
use Rattle.std.proofs.lemmas.Option.{slice_get-get_or}
use Rattle.column_base.specs.ValidityForm.{NeverNull, ValidityForm}
use Rattle.column_base.specs.Types.{nullability_of, with_nullability}
use Rattle.column_base.specs.declared.dtype.DType.TheVariants as column
use Rattle.column_base.specs.declared.dtype.ElementDType.{ElementDType}
use Rattle.column_base.specs.declared.dtype.Nullability.{Nullability}
use Rattle.column_base.specs.declared.dtype.Nullability.TheVariants.{NonNullable, Nullable}
use Rattle.column_core.specs.Leaf.{leaf_rows}
use Rattle.column_core.specs.Value.{Items}
use Rattle.column_ops.proofs.RowRanges.{slice_range-next}
use Rattle.runend_windows.specs.Window.{IsWindow, run_at, run_rows}
use Rattle.runend_windows.proofs.SlicedRuns.{slice_range-none}
use Rattle.runend_windows.proofs.RunAt.{ends_past, run_at-le, run_at-le-run_at, run_of_row_within}
use Rattle.runend_array.specs.ListTake.{list_taken, lists_taken, nullability_taken}
use Rattle.runend_array.specs.Array.{validity_of}
use Rattle.runend_array.specs.Lists.{Index, Lists, RowValidityForm, index_at, list_at, list_count, list_rows, row_flag_at}
use Rattle.runend_array.specs.declared.validities.row_validity.RowValidity.{RowValidity}
use Rattle.runend_array.specs.declared.validities.row_validity.RowValidity.TheVariants as validity
use Rattle.runend_array.proofs.ListRows.{length-list_rows}
use Rattle.runend_encode.specs.Starts.{rows_at}
use Rattle.row_stretches.specs.Copies.{AreCopies, StaysUntil}
use Rattle.row_stretches.proofs.Cuts.{cut_values, no_pieces, piece_more}

-- ---- Where lists stay the same ----

-- up to where the run of a row ends, the rows from it on are in this run
pub run_stays : (ends : List ℕ) (offset count row run stop : ℕ) → IsWindow ends offset count → row < count → run ≡ run_at ends (offset + row) → stop ≡ min (slice_index ends run - offset) count
    → StaysUntil (λ (k : ℕ). run_at ends (offset + k)) row stop count
run_stays ends offset count row run stop window there found reached =
    let within = run_of_row_within ends offset count row window there in
    let past = ends_past ends (offset + row) within in
    let end = ap (slice_index ends) found in
    record {
      past = omega (arith, past, end, reached, there);
      within = omega (arith, reached);
      same = λ k from below.
          let later = run_at-le-run_at ends (offset + row) (offset + k) (omega (arith, from)) in
          let earlier = run_at-le ends (offset + k) (run_at ends (offset + row)) within (omega (arith, below, reached, end)) in
          omega (arith, later, earlier);
    }

-- what is told by the run of a row stays the same as long
pub stays_by : {X : Type 0} (told : ℕ → X) (place : ℕ → ℕ) (row stop count : ℕ) → StaysUntil place row stop count → StaysUntil (λ (k : ℕ). told (place k)) row stop count
stays_by told place row stop count stays = record { past = stays.past; within = stays.within; same = λ k from below. ap told (stays.same k from below) }

-- one row
pub row_stays : {X : Type 0} (told : ℕ → X) (row count : ℕ) → row < count → StaysUntil told row (row + 1) count
row_stays told row count there = record {
  past = omega arith;
  within = omega arith;
  same = λ k from below. ap told (omega (arith, from, below));
}

-- all rows
pub all_stay : {X : Type 0} (told : ℕ → X) (row count : ℕ) → row < count → ((k : ℕ) → told k ≡ told row) → StaysUntil told row count count
all_stay told row count there same = record { past = there; within = omega arith; same = λ k from below. same k }

-- a list stays the same as long as its offset, its size and its flag
pub lists_stay : (lists : Lists) (row flags offsets sizes stop : ℕ) → StaysUntil (row_flag_at lists.validity) row flags (list_count lists) → StaysUntil (index_at lists.offsets) row offsets (list_count lists)
    → StaysUntil (index_at lists.sizes) row sizes (list_count lists) → stop ≡ min (min flags offsets) sizes → StaysUntil (list_at lists) row stop (list_count lists)
lists_stay lists row flags offsets sizes stop flag offset size least =
    let items = leaf_rows lists.elements in
    record {
      past = omega (arith, least, flag.past, offset.past, size.past);
      within = omega (arith, least, flag.within);
      same = λ k from below.
          let shown = flag.same k from (omega (arith, below, least)) in
          let first = offset.same k from (omega (arith, below, least)) in
          let many = size.same k from (omega (arith, below, least)) in
          let f = λ (bit : Bool) (o n : ℕ). cond bit (Some (Items (slice_range items o (o + n)))) None in
          ap (λ (bit : Bool). f bit (index_at lists.offsets k) (index_at lists.sizes k)) shown
          ∙ ap (λ (o : ℕ). f (row_flag_at lists.validity row) o (index_at lists.sizes k)) first
          ∙ ap (f (row_flag_at lists.validity row) (index_at lists.offsets row)) many;
    }

-- also where the parts are given
pub lists_stay_by : (lists : Lists) (form : RowValidityForm) (first many : Index) (count row flags offsets sizes stop : ℕ) → form ≡ lists.validity → first ≡ lists.offsets → many ≡ lists.sizes → count ≡ list_count lists
    → StaysUntil (row_flag_at form) row flags count → StaysUntil (index_at first) row offsets count → StaysUntil (index_at many) row sizes count → stop ≡ min (min flags offsets) sizes
    → StaysUntil (list_at lists) row stop (list_count lists)
lists_stay_by lists form first many count row flags offsets sizes stop of_form of_first of_many counted flag offset size least =
    lists_stay lists row flags offsets sizes stop
    (subst (λ (n : ℕ). StaysUntil (row_flag_at lists.validity) row flags n) counted (subst (λ (f : RowValidityForm). StaysUntil (row_flag_at f) row flags count) of_form flag))
    (subst (λ (n : ℕ). StaysUntil (index_at lists.offsets) row offsets n) counted (subst (λ (i : Index). StaysUntil (index_at i) row offsets count) of_first offset))
    (subst (λ (n : ℕ). StaysUntil (index_at lists.sizes) row sizes n) counted (subst (λ (i : Index). StaysUntil (index_at i) row sizes count) of_many size)) least

-- a validity that is neither bits nor runs is the same in each row
pub same_flags : {A : Type 0} (held : RowValidity A) → ((bits : _) → ¬ (held ≡ validity.Bits bits)) → ((runs : _) → ¬ (held ≡ validity.Runs runs)) → (k row : ℕ)
    → row_flag_at (validity_of held) k ≡ row_flag_at (validity_of held) row
same_flags validity.NonNullable no_bits no_runs k row = refl
same_flags validity.AllValid no_bits no_runs k row = refl
same_flags validity.AllInvalid no_bits no_runs k row = refl
same_flags (validity.Bits bits) no_bits no_runs k row = absurd (no_bits bits refl)
same_flags (validity.Runs runs) no_bits no_runs k row = absurd (no_runs runs refl)

-- the list in a row, as a row of the column
row_is : (lists : Lists) (k : ℕ) → k < list_count lists → slice_index_or (list_rows lists) k None ≡ list_at lists k
row_is lists k h = get_or-map-range_with_len (list_at lists) 0 (list_count lists) k k None h (omega arith)

pub rows_stay : (lists : Lists) (row stop : ℕ) → StaysUntil (list_at lists) row stop (list_count lists) → (k : ℕ) → row ≤ k → k < stop
    → slice_index_or (list_rows lists) k None ≡ slice_index_or (list_rows lists) row None
rows_stay lists row stop stays k from below =
    let end = stays.within in
    let past = stays.past in
    row_is lists k (omega arith) ∙ stays.same k from below ∙ sym (row_is lists row (omega arith))

-- ---- Pieces of copies ----

pub no_copies : {B : Type 0} (all : List (Option B)) → AreCopies all [] [] [] 0
no_copies all = record { numbers = []; cut = no_pieces (length all); shown = refl }

-- the same row many times
copies_at : {B : Type 0} (all : List (Option B)) (m row : ℕ) → rows_at all (replicate m row) ≡ replicate m (slice_index_or all row None)
copies_at all zero row = refl
copies_at {B} all (suc m) row = ap (λ (rest : List (Option B)). slice_index_or all row None ∷ rest) (copies_at all m row)

-- a range that goes on with copies of a row
range_stays : {B : Type 0} (all : List (Option B)) (start row m : ℕ) → start ≤ row → row + m ≤ length all → ((k : ℕ) → row ≤ k → k < row + m → slice_index_or all k None ≡ slice_index_or all row None)
    → slice_range all start (row + m) ≡ slice_range all start row ++ replicate m (slice_index_or all row None)
range_stays all start row zero low high same = ap (slice_range all start) (omega arith) ∙ sym (append-nil (slice_range all start row))
range_stays {B} all start row (suc n) low high same =
    let value = slice_index_or all row None in
    let next : row + suc n ≡ row + n + 1 = omega arith in
    let more : n + 1 ≡ suc n = omega arith in
    let here : slice_get all (row + n) ≡ Some value = slice_get-get_or all (row + n) None (omega (arith, high)) ∙ ap Some (same (row + n) (omega arith) (omega arith)) in
    ap (slice_range all start) next ∙ slice_range-next all start (row + n) value (omega (arith, low)) here
    ∙ ap (λ (xs : List (Option B)). xs ++ value ∷ []) (range_stays all start row n low (omega (arith, high)) (λ k from below. same k from (omega (arith, below))))
    ∙ append_assoc (slice_range all start row) (replicate n value) (value ∷ [])
    ∙ ap (λ (xs : List (Option B)). slice_range all start row ++ xs) (replicate_more n value ∙ ap (λ (k : ℕ). replicate k value) more)

-- the pieces before the first row of a stretch
pub none_of_range : {B : Type 0} (all rows : List (Option B)) (ends runs : List ℕ) (n start : ℕ) → AreCopies all rows ends runs n → AreCopies all (rows ++ slice_range all start start) ends runs n
none_of_range {B} all rows ends runs n start copies =
    subst (λ (xs : List (Option B)). AreCopies all xs ends runs n) (sym (ap (λ (xs : List (Option B)). rows ++ xs) (slice_range-none all start start refl) ∙ append-nil rows)) copies

-- one piece more
module _ {B : Type 0} (all rows : List (Option B)) (ends runs : List ℕ) (n start row reach : ℕ) (copies : AreCopies all (rows ++ slice_range all start row) ends runs n) (low : start ≤ row) (past : row < reach)
    (high : reach ≤ length all) (small : n + (reach - row) < 2 ^ 64) (same : (k : ℕ) → row ≤ k → k < reach → slice_index_or all k None ≡ slice_index_or all row None) where
  abbrev value : Option B
  value = slice_index_or all row None

  reached : slice_range all start reach ≡ slice_range all start row ++ replicate (reach - row) value
  reached =
      let whole : row + (reach - row) ≡ reach = omega (arith, past) in
      ap (slice_range all start) (sym whole) ∙ range_stays all start row (reach - row) low (omega (arith, whole, high)) (λ k from below. same k from (omega (arith, below, whole)))

  shown : rows_at all (copies.numbers ++ replicate (reach - row) row) ≡ rows ++ slice_range all start reach
  shown =
      let f = λ (place : ℕ). slice_index_or all place None in
      map-append f copies.numbers (replicate (reach - row) row) ∙ ap (λ (xs : List (Option B)). xs ++ rows_at all (replicate (reach - row) row)) copies.shown
      ∙ ap (λ (xs : List (Option B)). (rows ++ slice_range all start row) ++ xs) (copies_at all (reach - row) row)
      ∙ append_assoc rows (slice_range all start row) (replicate (reach - row) value) ∙ ap (λ (xs : List (Option B)). rows ++ xs) (sym reached)

  pub copies_more : (more_ends more_runs : List ℕ) (total : ℕ) → more_ends ≡ ends ++ (n + (reach - row)) ∷ [] → more_runs ≡ runs ++ row ∷ [] → total ≡ n + (reach - row)
      → AreCopies all (rows ++ slice_range all start reach) more_ends more_runs total
  copies_more more_ends more_runs total ends_are runs_are total_is =
      let more = piece_more (length all) copies.numbers ends runs n (reach - row) row copies.cut (omega (arith, past)) small (omega (arith, past, high)) in
      rw (ends_are, runs_are, total_is) (record { numbers = copies.numbers ++ replicate (reach - row) row; cut = more; shown = shown })

-- what the pieces show
pub rows_of_copies : {B : Type 0} (all rows : List (Option B)) (ends runs : List ℕ) (count : ℕ) → AreCopies all rows ends runs count → run_rows ends (rows_at all runs) 0 count ≡ rows
rows_of_copies all rows ends runs count copies = cut_values all (length all) copies.numbers ends runs count copies.cut ∙ copies.shown

-- ---- Lists at rows ----

-- as many as there are places
pub count_taken : (lists taken : Lists) (places : List ℕ) (form : ValidityForm) → list_rows taken ≡ lists_taken lists places form → list_count taken ≡ length places
count_taken lists taken places form are = sym (length-list_rows taken) ∙ ap length are ∙ length-map-range_with_len (list_taken lists places form) 0 (length places)

-- without null among the places
pub lists_at : (lists : Lists) (places : List ℕ) → All (λ place. place < list_count lists) places → lists_taken lists places NeverNull ≡ rows_at (list_rows lists) places
lists_at lists places within =
    let f = λ (i : ℕ). list_at lists (slice_index places i) in
    let g = λ (place : ℕ). slice_index_or (list_rows lists) place None in
    let counted = length-map-range_with_len f 0 (length places) in
    ext_get_or None (map f (range_with_len 0 (length places))) (map g places) (counted ∙ sym (length-map places g)) (λ i h.
    let there : i < length places = omega (arith, counted, h) in
    get_or-map-range_with_len f 0 (length places) i i None there (omega arith)
    ∙ sym (get_or-map g places i 0 None there ∙ row_is lists (slice_index places i) (within i 0 there)))

-- and of the type of the lists
pub same_type : (element : ElementDType) (n : Nullability)
    → with_nullability (column.List element n) (nullability_taken (nullability_of (column.List element n)) NonNullable) ≡ column.List element n
same_type element NonNullable = refl
same_type element Nullable = refl
