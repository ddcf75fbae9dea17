-- Ranges of rows that runs show: the runs of these rows.
use Rattle.std.proofs.Common.{◌≡◌, ℕ, zero, suc, ◌+◌, ◌-◌, ◌<◌, ◌≤◌, List, Bool, false, length, map, pos, get_or, refl, sym, ◌∙◌, ap, arith}
use Rattle.std.specs.Prelude.{slice_range, option_map}
use Rattle.std.proofs.lemmas.List.{length-map}
use Rattle.column_base.proofs.Ranges.{get_or-slice_range, length-slice_range}
use Rattle.column_base.specs.declared.dtype.PType.{PType}
use Rattle.column_base.specs.declared.dtype.PType.TheVariants.{U64}
use Rattle.column_base.specs.ValidityForm.{NeverNull}
use Rattle.column_core.specs.Value.{FlatValue, Single}
use Rattle.column_core.specs.PrimitiveForm.{PrimitiveForm, primitive_dtype, primitive_rows, primitive_with}
use Rattle.column_core.specs.BoolForm.{BoolForm, bool_rows, bool_with}
use Rattle.column_core.specs.Leaf.{OfNumbers, OfTruths}
use Rattle.column_core.proofs.OptionalRows.{length-primitive_rows, length-bool_rows}
use Rattle.runend_windows.specs.Ends.{IsEndsType, ends_of}
use Rattle.runend_windows.specs.Visible.{visible}
use Rattle.runend_windows.specs.Window.{IsWindow, run_at}
use Rattle.runend_windows.proofs.RunAt.{run_at-le-run_at, run_of_row_within}
use Rattle.runend_windows.proofs.SlicedRuns.{IsWindow-of_none, run_at-slice_range}
use Rattle.runend_windows.proofs.StoredNumbers.{naturals-of_pos}
use Rattle.runend_windows.proofs.VisibleRuns.{visible_is}
use Rattle.runend_array.specs.Column.{AreParts, AreRuns, Column, OfLeaf, Runs, column_of_runs, column_rows, end_numbers, index_of, runs_of, runs_validity, runs_with, truths_of}
use Rattle.runend_array.specs.Lists.{ByRuns, Index, RowValidityForm, RunIndex, index_at, index_count, row_flag_at, row_nullability}
use Rattle.runend_array.specs.ListSlice.{IsIndexInRange, IsValidityInRange, position_of}
use Rattle.runend_array.specs.RowRuns.{first_visible, stop_visible}

-- the visible items are those from the first visible run to the last
pub visible-between : {X : Type 0} (ends : List ℕ) (items : List X) (position count first stop : ℕ)
    → first ≡ first_visible ends position count → stop ≡ stop_visible ends position count → slice_range items first stop ≡ visible ends position count items
visible-between ends items position zero first stop from to = rw (from, to) refl
visible-between ends items position (suc n) first stop from to = rw (from, to) refl

-- without rows these are 0
pub first_visible-none : (ends : List ℕ) (position count : ℕ) → count ≡ 0 → first_visible ends position count ≡ 0
first_visible-none ends position count none = rw none refl

pub stop_visible-none : (ends : List ℕ) (position count : ℕ) → count ≡ 0 → stop_visible ends position count ≡ 0
stop_visible-none ends position count none = rw none refl

-- the run of the first row, and one past that of the last, where there is a row
pub first_visible-some : (ends : List ℕ) (position count : ℕ) → 0 < count → first_visible ends position count ≡ run_at ends position
first_visible-some ends position zero some = absurd (omega arith)
first_visible-some ends position (suc n) some = refl

pub stop_visible-some : (ends : List ℕ) (position count last : ℕ) → 0 < count → last ≡ position + count - 1 → stop_visible ends position count ≡ run_at ends last + 1
stop_visible-some ends position zero last some is = absurd (omega arith)
stop_visible-some ends position (suc n) last some is = let same : position + n ≡ last = omega arith in ap (λ (p : ℕ). run_at ends p + 1) same

-- a window of no rows begins at 0, and one of some rows at its position
pub position_of-none : (count position : ℕ) → count ≡ 0 → position_of count position ≡ 0
position_of-none count position none = rw none refl

pub position_of-some : (count position : ℕ) → 0 < count → position_of count position ≡ position
position_of-some zero position some = absurd (omega arith)
position_of-some (suc n) position some = refl

-- the runs of some rows are a window over them
pub IsWindow-some : (ends : List ℕ) (position count first last : ℕ) → 0 < count → first ≡ first_visible ends position count → last ≡ stop_visible ends position count
    → IsWindow (slice_range ends first last) position count → IsWindow (visible ends position count ends) (position_of count position) count
IsWindow-some ends position count first last some from to window = rw (position_of-some count position some, ← visible-between ends ends position count first last from to) window

-- and no runs over none
pub IsWindow-none : (ends : List ℕ) (position count : ℕ) → count ≡ 0 → IsWindow (visible ends position count ends) (position_of count position) count
IsWindow-none ends position count none = rw none IsWindow-of_none

module _ (ends : List ℕ) (offset count start stop : ℕ) (window : IsWindow ends offset count) (within : stop ≤ count) where
  abbrev from : ℕ
  from = offset + start

  abbrev size : ℕ
  size = stop - start

  -- a row of the range shows what it showed
  shown-between : {X : Type 0} (items : List X) (default : X) (i : ℕ) → i < size
      → get_or (visible ends from size items) (run_at (visible ends from size ends) (position_of size from + i)) default ≡ get_or items (run_at ends (offset + (start + i))) default
  shown-between items default i h =
      let some : 0 < size = omega arith in
      let place : from + i ≡ offset + (start + i) = omega arith in
      let final : from + size - 1 ≡ offset + (stop - 1) = omega arith in
      let low = run_at-le-run_at ends from (from + i) (omega arith) in
      let high = run_at-le-run_at ends (from + i) (from + size - 1) (omega arith) in
      let inside : run_at ends (from + size - 1) < length ends = rw final (run_of_row_within ends offset count (stop - 1) window (omega arith)) in
      let run = run_at ends (from + i) in
      let first = run_at ends from in
      let last = run_at ends (from + size - 1) in
      let there = run_at-slice_range ends (from + i) first (last + 1) low (omega (arith, high)) (omega (arith, inside)) in
      let back : first + (run - first) ≡ run = omega (arith, low) in
      ap (λ p. get_or (visible ends from size items) (run_at (visible ends from size ends) (p + i)) default) (position_of-some size from some)
      ∙ ap (λ xs. get_or xs (run_at (visible ends from size ends) (from + i)) default) (visible_is ends from size items some)
      ∙ ap (λ xs. get_or (slice_range items first (last + 1)) (run_at xs (from + i)) default) (visible_is ends from size ends some)
      ∙ ap (λ k. get_or (slice_range items first (last + 1)) k default) there
      ∙ get_or-slice_range items first (last + 1) (run - first) default (omega (arith, low, high))
      ∙ ap (λ k. get_or items k default) back
      ∙ ap (λ p. get_or items (run_at ends p) default) place

  -- so numbers in runs
  IsIndexInRange-runs : (ends_type : PType) (numbers : List ℕ) (part : Index)
      → part ≡ RunIndex ends_type (visible ends from size ends) (visible ends from size numbers) (position_of size from) size
      → IsIndexInRange (RunIndex ends_type ends numbers offset count) start stop part
  IsIndexInRange-runs ends_type numbers part cut = record {
    form = cut;
    counted = ap index_count cut;
    numbers = λ i h. ap (λ index. index_at index i) cut ∙ shown-between numbers 0 i h;
  }

  -- and flags
  IsValidityInRange-runs : (ends_type : PType) (bits : List Bool) (part : RowValidityForm)
      → part ≡ ByRuns ends_type (visible ends from size ends) (visible ends from size bits) (position_of size from) size
      → IsValidityInRange (ByRuns ends_type ends bits offset count) start stop part
  IsValidityInRange-runs ends_type bits part cut = record {
    kept = λ none. cc;
    stored = cut;
    counted = rw cut refl;
    flags = λ i h. ap (λ v. row_flag_at v i) cut ∙ shown-between bits false i h;
    nullability = ap row_nullability cut;
  }

-- numbers without null have a row each
pub rows-of_numbers : (form : PrimitiveForm) (items : List ℕ) → form ≡ primitive_with U64 (map (λ (n : ℕ). pos n) items) NeverNull → length (column_rows (OfLeaf (OfNumbers form))) ≡ length items
rows-of_numbers form items is =
    rw is
    (length-map (primitive_rows (primitive_with U64 (map (λ (n : ℕ). pos n) items) NeverNull)) (option_map (λ (v : FlatValue). Single v))
    ∙ length-primitive_rows (primitive_with U64 (map (λ (n : ℕ). pos n) items) NeverNull) tt ∙ length-map items (λ (n : ℕ). pos n))

-- so have booleans
pub rows-of_truths : (form : BoolForm) (bits : List Bool) → form ≡ bool_with bits NeverNull → length (column_rows (OfLeaf (OfTruths form))) ≡ length bits
rows-of_truths form bits is =
    rw is (length-map (bool_rows (bool_with bits NeverNull)) (option_map (λ (v : FlatValue). Single v)) ∙ length-bool_rows (bool_with bits NeverNull) tt)

module _ (whole : Runs) (first last start stop : ℕ)
    (from : first ≡ first_visible whole.ends (whole.offset + start) (stop - start))
    (to : last ≡ stop_visible whole.ends (whole.offset + start) (stop - start)) where
  -- the ends of the runs of these rows, with a value for each, make a run column
  pub AreParts-between : (ends : PrimitiveForm) (values : Column) (position : ℕ) → first ≤ last → last ≤ length whole.ends → IsEndsType (primitive_dtype ends)
      → ends_of ends ≡ slice_range whole.ends first last → length (column_rows values) ≡ last - first → position ≡ position_of (stop - start) (whole.offset + start)
      → IsWindow (visible whole.ends (whole.offset + start) (stop - start) whole.ends) (position_of (stop - start) (whole.offset + start)) (stop - start)
      → AreParts (OfLeaf (OfNumbers ends)) values position (stop - start)
  AreParts-between ends values position ordered within plain cut paired place window =
      let shown = cut ∙ visible-between whole.ends whole.ends (whole.offset + start) (stop - start) first last from to in
      let over : IsWindow (ends_of ends) position (stop - start) = rw (shown, place) window in
      record { plain = plain; runs = record { window = over; paired = paired ∙ sym (ap length cut ∙ length-slice_range whole.ends first last ordered within) } }

  -- it is the runs of these rows
  pub runs-between : (ends : PrimitiveForm) (values : Column) (position : ℕ) (part : Runs) → part ≡ runs_of (OfLeaf (OfNumbers ends)) values position (stop - start)
      → ends_of ends ≡ slice_range whole.ends first last → ends.ptype ≡ whole.ends_type → position ≡ position_of (stop - start) (whole.offset + start)
      → part ≡ runs_with whole.ends_type (visible whole.ends (whole.offset + start) (stop - start) whole.ends) values (position_of (stop - start) (whole.offset + start)) (stop - start)
  runs-between ends values position part made cut typed place =
      made ∙ ap (λ t. runs_with t (ends_of ends) values position (stop - start)) typed
      ∙ ap (λ es. runs_with whole.ends_type es values position (stop - start)) (cut ∙ visible-between whole.ends whole.ends (whole.offset + start) (stop - start) first last from to)
      ∙ ap (λ p. runs_with whole.ends_type (visible whole.ends (whole.offset + start) (stop - start) whole.ends) values p (stop - start)) place

  -- numbers in such runs are those of the range
  pub IsIndexInRange-between : (form : PrimitiveForm) (items : List ℕ) (part : Runs) → AreRuns whole → stop ≤ whole.count
      → form ≡ primitive_with U64 (map (λ (n : ℕ). pos n) items) NeverNull → items ≡ slice_range (end_numbers whole.values) first last
      → part ≡ runs_with whole.ends_type (visible whole.ends (whole.offset + start) (stop - start) whole.ends) (OfLeaf (OfNumbers form)) (position_of (stop - start) (whole.offset + start)) (stop - start)
      → IsIndexInRange (index_of (column_of_runs whole)) start stop (index_of (column_of_runs part))
  IsIndexInRange-between form items part valid within is cut made =
      let shown = ap ends_of is ∙ naturals-of_pos items ∙ cut ∙ visible-between whole.ends (end_numbers whole.values) (whole.offset + start) (stop - start) first last from to in
      IsIndexInRange-runs whole.ends whole.offset whole.count start stop valid.window within whole.ends_type (end_numbers whole.values) (index_of (column_of_runs part))
      (ap (λ (r : Runs). index_of (column_of_runs r)) made
      ∙ ap (λ ns. RunIndex whole.ends_type (visible whole.ends (whole.offset + start) (stop - start) whole.ends) ns (position_of (stop - start) (whole.offset + start)) (stop - start)) shown)

  -- and so are flags
  pub IsValidityInRange-between : (form : BoolForm) (bits : List Bool) (part : Runs) → AreRuns whole → stop ≤ whole.count
      → form ≡ bool_with bits NeverNull → bits ≡ slice_range (truths_of whole.values) first last
      → part ≡ runs_with whole.ends_type (visible whole.ends (whole.offset + start) (stop - start) whole.ends) (OfLeaf (OfTruths form)) (position_of (stop - start) (whole.offset + start)) (stop - start)
      → IsValidityInRange (runs_validity whole) start stop (runs_validity part)
  IsValidityInRange-between form bits part valid within is cut made =
      let shown = ap (λ (f : BoolForm). f.bits) is ∙ cut ∙ visible-between whole.ends (truths_of whole.values) (whole.offset + start) (stop - start) first last from to in
      IsValidityInRange-runs whole.ends whole.offset whole.count start stop valid.window within whole.ends_type (truths_of whole.values) (runs_validity part)
      (ap runs_validity made
      ∙ ap (λ bs. ByRuns whole.ends_type (visible whole.ends (whole.offset + start) (stop - start) whole.ends) bs (position_of (stop - start) (whole.offset + start)) (stop - start)) shown)
