-- The rows that are null, counted run by run.
use Rattle.std.proofs.Common.{◌≡◌, ◌∙◌, ◌+◌, ◌-◌, ◌<◌, ◌≤◌, ◌^◌, refl, sym, ap, ℕ, zero, suc, List, [], ◌∷◌, ◌++◌, Bool, true, false, not, Option, Some, None, add-one, cond, count_by, length, map, min, replicate, slice_index, slice_range, arith}
use Rattle.std.specs.Prelude.{is_none, option_map, slice_get, slice_index_or}
use Rattle.std.specs.List.{range_with_len}
use Rattle.std.proofs.lemmas.List.{length-map}
use Rattle.std.proofs.lemmas.List.Sums.{count_by-le-length, sum_by-append, sum_by-cons}
use Rattle.std.proofs.lemmas.Option.{slice_get-get_or}
use Rattle.column_base.specs.declared.dtype.DType.TheVariants as column
use Rattle.column_base.specs.declared.dtype.Nullability.{Nullability}
use Rattle.column_base.specs.declared.dtype.Nullability.TheVariants.{NonNullable}
use Rattle.column_base.specs.ValidityForm.{ValidityForm, AllNull, ByBits, HasLength, NeverNull, NoneNull, flags, nullability_in}
use Rattle.column_base.proofs.BitLists.{count_by-false, count_by-true}
use Rattle.column_base.proofs.ValidityRows.{length-flags}
use Rattle.column_core.specs.Leaf.{Leaf, OfDecimals, OfNumbers, OfTruths, OfVarBins, leaf_count, leaf_rows, leaf_validity, single_rows}
use Rattle.column_core.specs.Optionals.{optionals}
use Rattle.column_core.specs.Value.{DecimalNumber, FlatValue, Items, Number, Single, Truth, Value}
use Rattle.column_core.specs.VarBinForm.{kind_dtype, varbin_value, view_bytes}
use Rattle.column_core.specs.declared.varbinview.VarBinKind.{VarBinKind}
use Rattle.column_core.specs.declared.varbinview.VarBinKind.TheVariants.{Binary, Utf8}
use Rattle.runend_array.specs.Column.{Column, IsPlainTruths, OfConstant, OfLeaf, OfLists, OfRuns, Runs, column_rows, runs_validity, truths_of}
use Rattle.runend_array.specs.Lists.{ByRows, Lists, index_at, list_at, list_count, list_rows, row_flag_at}
use Rattle.runend_array.specs.RowRuns.{first_visible, stop_visible}
use Rattle.runend_windows.specs.Cover.{Covers}
use Rattle.runend_windows.specs.Window.{IsWindow, run_at, run_rows}
use Rattle.runend_windows.proofs.Decoded.{Decoded, Decoded-next, reached}
use Rattle.runend_windows.proofs.DecodedItems.{rows_of}
use Rattle.runend_windows.proofs.RunAt.{ended_before, ends_past, run_of_row_within}
use Rattle.runend_windows.proofs.RunRows.{Covers-run_rows}
use Rattle.runend_windows.proofs.ShownRuns.{equal_from_Covers}
use Rattle.runend_pairs.specs.NullCounts.{null_rows, where_true}

-- ---- Rows in general ----

null_rows-null : (rows : List (Option Value)) → null_rows (None ∷ rows) ≡ 1 + null_rows rows
null_rows-null rows = sum_by-cons (λ (row : Option Value). cond (is_none row) 1 0) None rows

null_rows-some : (value : Value) (rows : List (Option Value)) → null_rows (Some value ∷ rows) ≡ 0 + null_rows rows
null_rows-some value rows = sum_by-cons (λ (row : Option Value). cond (is_none row) 1 0) (Some value) rows

-- copies of a row are all null, or none is
pub null_rows-copies : (copies : ℕ) (row : Option Value) → null_rows (replicate copies row) ≡ cond (is_none row) copies 0
null_rows-copies zero None = refl
null_rows-copies zero (Some value) = refl
null_rows-copies (suc n) None = omega (arith, null_rows-null (replicate n None), null_rows-copies n None)
null_rows-copies (suc n) (Some value) = omega (arith, null_rows-some value (replicate n (Some value)), null_rows-copies n (Some value))

null_rows-append : (rows more : List (Option Value)) → null_rows (rows ++ more) ≡ null_rows rows + null_rows more
null_rows-append rows more = sum_by-append (λ (row : Option Value). cond (is_none row) 1 0) rows more

null_rows-le : (rows : List (Option Value)) → null_rows rows ≤ length rows
null_rows-le rows = count_by-le-length is_none rows

-- ---- Visible runs ----

-- the rows of the runs before one are counted, and it starts after them
pub record NullsSoFar (ends : List ℕ) (values : List (Option Value)) (offset count run row nulls : ℕ) : Type 0 where
  pub shown : List (Option Value)
  pub decoded : Decoded ends values offset count run shown
  pub reached_row : row ≡ length shown
  pub counted : nulls ≡ null_rows shown

-- before the first visible run no row is counted
none_reached : (ends : List ℕ) (offset count run : ℕ) → ((k : ℕ) → k < run → slice_index ends k ≤ offset) → 0 ≡ reached ends offset count run
none_reached ends offset count zero ended = refl
none_reached ends offset count (suc run) ended = let e = ended run (omega arith) in omega arith

first_reached : (ends : List ℕ) (offset count : ℕ) → 0 ≡ reached ends offset count (first_visible ends offset count)
first_reached ends offset zero = refl
first_reached ends offset (suc n) = none_reached ends offset (suc n) (run_at ends offset) (λ k h. ended_before ends offset k h)

-- no more rows are counted than there are
reached-small : (ends : List ℕ) (offset count run : ℕ) → reached ends offset count run ≤ count
reached-small ends offset count zero = omega arith
reached-small ends offset count (suc run) = omega arith

no_rows : (rows : List (Option Value)) → length rows ≡ 0 → null_rows rows ≡ 0
no_rows [] none = refl
no_rows (row ∷ rows) none = absurd (omega (arith, none))

-- past the last visible run all rows are counted
all_shown : (ends : List ℕ) (values : List (Option Value)) (offset count run : ℕ) (shown : List (Option Value)) → IsWindow ends offset count → length values ≡ length ends → run ≡ stop_visible ends offset count
    → Decoded ends values offset count run shown → null_rows shown ≡ null_rows (run_rows ends values offset count)
all_shown ends values offset zero run shown window paired last decoded = no_rows shown (decoded.counted ∙ ap (reached ends offset 0) last)
all_shown ends values offset (suc n) run shown window paired last decoded =
    let stop = run_at ends (offset + n) in
    let inside = run_of_row_within ends offset (suc n) n window (omega arith) in
    let past = ends_past ends (offset + n) inside in
    let at : run ≡ suc stop = omega (arith, last) in
    let whole : reached ends offset (suc n) (suc stop) ≡ suc n = omega (arith, past) in
    let full : length shown ≡ suc n = decoded.counted ∙ ap (reached ends offset (suc n)) at ∙ whole in
    let cover : Covers shown ends values offset (suc n) = record { window = window; paired = paired; counted = full; each = λ i h. decoded.each i (omega (arith, full, h)) } in
    ap null_rows (equal_from_Covers shown (run_rows ends values offset (suc n)) ends values offset (suc n) cover (Covers-run_rows ends values offset (suc n) window paired))

module _ (ends : List ℕ) (values : List (Option Value)) (offset count : ℕ) where
  pub nulls_none : (run : ℕ) → run ≡ first_visible ends offset count → NullsSoFar ends values offset count run 0 0
  nulls_none run first = record {
    shown = [];
    decoded = record { counted = first_reached ends offset count ∙ ap (reached ends offset count) (sym first); each = λ i h. absurd (omega arith) };
    reached_row = refl;
    counted = refl;
  }

  -- the next run
  nulls_next : (run row nulls stop more : ℕ) → IsWindow ends offset count → length values ≡ length ends → run < length ends → stop ≡ min (slice_index ends run - offset) count
      → more ≡ cond (is_none (slice_index_or values run None)) (stop - row) 0 → NullsSoFar ends values offset count run row nulls → NullsSoFar ends values offset count (run + 1) stop (nulls + more)
  nulls_next run row nulls stop more window paired within stops is so_far =
      let value = slice_index_or values run None in
      let copies = stop - row in
      let rows = so_far.shown in
      let here : slice_get values run ≡ Some value = slice_get-get_or values run None (omega (arith, within, paired)) in
      let at = so_far.reached_row in
      let copied : copies ≡ min (slice_index ends run - offset) count - length rows = omega (arith, stops, at) in
      let next = Decoded-next ends values offset count run rows value copies window within here copied so_far.decoded in
      let full : length (rows ++ replicate copies value) ≡ min (slice_index ends run - offset) count = next.counted ∙ ap (reached ends offset count) (add-one run) in
      record {
        shown = rows ++ replicate copies value;
        decoded = next;
        reached_row = stops ∙ sym full;
        counted =
            ap (λ (n : ℕ). n + more) so_far.counted
            ∙ ap (λ (n : ℕ). null_rows rows + n) (is ∙ sym (null_rows-copies copies value))
            ∙ sym (null_rows-append rows (replicate copies value));
      }

  -- as it is computed
  pub nulls_after : (run row nulls stop rest more : ℕ) → IsWindow ends offset count → length values ≡ length ends → run < length ends → stop ≡ min (slice_index ends run - offset) count
      → more ≡ cond (is_none (slice_index_or values run None)) rest 0 → rest ≡ stop - row → NullsSoFar ends values offset count run row nulls → NullsSoFar ends values offset count (run + 1) stop (nulls + more)
  nulls_after run row nulls stop rest more window paired within stops is copies so_far = nulls_next run row nulls stop more window paired within stops (rw copies at is) so_far

  pub nulls_small : (run row nulls : ℕ) → IsWindow ends offset count → NullsSoFar ends values offset count run row nulls → nulls < 2 ^ 64
  nulls_small run row nulls window so_far =
      let small = window.small in
      omega (arith, so_far.counted, null_rows-le so_far.shown, so_far.decoded.counted, reached-small ends offset count run, small)

  pub nulls_all : (run row nulls : ℕ) → IsWindow ends offset count → length values ≡ length ends → run ≡ stop_visible ends offset count → NullsSoFar ends values offset count run row nulls
      → nulls ≡ null_rows (run_rows ends values offset count)
  nulls_all run row nulls window paired last so_far = so_far.counted ∙ all_shown ends values offset count run so_far.shown window paired last so_far.decoded

-- ---- Lists ----

-- rows of which the same are null
null_rows-alike : (first second : ℕ → Option Value) (start other count : ℕ) → ((k : ℕ) → k < count → is_none (first (start + k)) ≡ is_none (second (other + k)))
    → null_rows (map first (range_with_len start count)) ≡ null_rows (map second (range_with_len other count))
null_rows-alike first second start other zero alike = refl
null_rows-alike first second start other (suc n) alike =
    let next = λ (k : ℕ) (h : k < n).
    let left : start + 1 + k ≡ start + (k + 1) = omega arith in
    let right : other + (k + 1) ≡ other + 1 + k = omega arith in
    ap (λ (i : ℕ). is_none (first i)) left ∙ alike (k + 1) (omega (arith, h)) ∙ ap (λ (i : ℕ). is_none (second i)) right in
    let rest = null_rows-alike first second (start + 1) (other + 1) n next in
    let first_start : start ≡ start + 0 = omega arith in
    let first_other : other + 0 ≡ other = omega arith in
    let here : is_none (first start) ≡ is_none (second other) =
    ap (λ (i : ℕ). is_none (first i)) first_start ∙ alike 0 (omega arith) ∙ ap (λ (i : ℕ). is_none (second i)) first_other in
    let same = ap {B = ℕ} (λ (b : Bool). cond b 1 0) here in
    let one = sum_by-cons (λ (row : Option Value). cond (is_none row) 1 0) (first start) (map first (range_with_len (start + 1) n)) in
    let two = sum_by-cons (λ (row : Option Value). cond (is_none row) 1 0) (second other) (map second (range_with_len (other + 1) n)) in
    omega (arith, one, two, rest, same)

-- copies of one row
copies_made : (row : Option Value) (start count : ℕ) → map (λ (i : ℕ). row) (range_with_len start count) ≡ replicate count row
copies_made row start zero = refl
copies_made row start (suc n) = ap (λ (rows : List (Option Value)). row ∷ rows) (copies_made row (start + 1) n)

-- rows of which all are null, or none
nulls_or_none : (first : ℕ → Option Value) (row : Option Value) (count : ℕ) → ((k : ℕ) → k < count → is_none (first (0 + k)) ≡ is_none row) → null_rows (map first (range_with_len 0 count)) ≡ cond (is_none row) count 0
nulls_or_none first row count alike =
    null_rows-alike first (λ i. row) 0 0 count alike ∙ ap null_rows (copies_made row 0 count) ∙ null_rows-copies count row

one_bit : (bit : Bool) (bits : List Bool) (rest all : ℕ) (is : Bool) → is ≡ not bit → all ≡ cond is 1 0 + rest → rest + count_by (λ flag. flag) bits ≡ length bits → all + count_by (λ flag. flag) (bit ∷ bits) ≡ suc (length bits)
one_bit true bits rest all is here one so_far = let none = ap {B = ℕ} (λ (b : Bool). cond b 1 0) here in omega (arith, count_by-true bits, one, none, so_far)
one_bit false bits rest all is here one so_far = let none = ap {B = ℕ} (λ (b : Bool). cond b 1 0) here in omega (arith, count_by-false bits, one, none, so_far)

-- a bit for each row, that is true where the row is valid
nulls_of_bits : (bits : List Bool) (first : ℕ → Option Value) (start : ℕ) → ((k : ℕ) → k < length bits → is_none (first (start + k)) ≡ not (slice_index_or bits k false))
    → null_rows (map first (range_with_len start (length bits))) + count_by (λ flag. flag) bits ≡ length bits
nulls_of_bits [] first start alike = refl
nulls_of_bits (bit ∷ bits) first start alike =
    let next = λ (k : ℕ) (h : k < length bits).
    let place : start + 1 + k ≡ start + suc k = omega arith in
    ap (λ (i : ℕ). is_none (first i)) place ∙ alike (suc k) (omega (arith, h)) in
    let rest = nulls_of_bits bits first (start + 1) next in
    let place : start ≡ start + 0 = omega arith in
    let here : is_none (first start) ≡ not bit = ap (λ (i : ℕ). is_none (first i)) place ∙ alike 0 (omega arith) in
    let one = sum_by-cons (λ (row : Option Value). cond (is_none row) 1 0) (first start) (map first (range_with_len (start + 1) (length bits))) in
    one_bit bit bits (null_rows (map first (range_with_len (start + 1) (length bits)))) (null_rows (map first (range_with_len start (suc (length bits))))) (is_none (first start)) here one rest

-- where it is shown that no flag is true
flag_shown : (bits : List Bool) (k : ℕ) → is_none (slice_index_or (map where_true (map (option_map Single) (map (option_map Truth) (optionals bits (replicate (length bits) true))))) k None) ≡ not (slice_index_or bits k false)
flag_shown [] k = refl
flag_shown (true ∷ bits) zero = refl
flag_shown (false ∷ bits) zero = refl
flag_shown (true ∷ bits) (suc k) = flag_shown bits k
flag_shown (false ∷ bits) (suc k) = flag_shown bits k

-- booleans without null have a bit for each row
never_null : (v : ValidityForm) → nullability_in v ≡ NonNullable → v ≡ NeverNull
never_null NeverNull h = refl
never_null NoneNull h = cc
never_null AllNull h = cc
never_null (ByBits bits) h = cc

no_truths : (kind : VarBinKind) (n : Nullability) → ¬ (kind_dtype kind n ≡ column.Bool NonNullable)
no_truths Utf8 n e = cc
no_truths Binary n e = cc

shown_flag : (c : Column) (k : ℕ) → IsPlainTruths c → is_none (slice_index_or (map where_true (column_rows c)) k None) ≡ not (slice_index_or (truths_of c) k false)
shown_flag (OfLeaf (OfNumbers form)) k h = cc
shown_flag (OfLeaf (OfTruths form)) k h =
    let required : nullability_in form.validity ≡ NonNullable = cc in
    ap (λ (v : ValidityForm). is_none (slice_index_or (map where_true (map (option_map Single) (map (option_map Truth) (optionals form.bits (flags v (length form.bits)))))) k None)) (never_null form.validity required)
    ∙ flag_shown form.bits k
shown_flag (OfLeaf (OfDecimals form)) k h = cc
shown_flag (OfLeaf (OfVarBins form)) k h = absurd (no_truths form.kind _ h)
shown_flag (OfConstant constant) k h = absurd h
shown_flag (OfLists lists) k h = absurd h
shown_flag (OfRuns ends_type ends values offset count) k h = absurd h

-- a row of lists is null where it is not valid
null_where : (lists : Lists) (i : ℕ) (valid : Bool) → row_flag_at lists.validity i ≡ valid → is_none (list_at lists i) ≡ not valid
null_where lists i true is = ap (λ (b : Bool). is_none (cond b (Some (Items (slice_range (leaf_rows lists.elements) (index_at lists.offsets i) (index_at lists.offsets i + index_at lists.sizes i)))) None)) is
null_where lists i false is = ap (λ (b : Bool). is_none (cond b (Some (Items (slice_range (leaf_rows lists.elements) (index_at lists.offsets i) (index_at lists.offsets i + index_at lists.sizes i)))) None)) is

module _ (lists : Lists) where
  pub no_nulls : ((i : ℕ) → row_flag_at lists.validity i ≡ true) → 0 ≡ null_rows (list_rows lists)
  no_nulls valid = sym (nulls_or_none (list_at lists) (Some (Items [])) (list_count lists) (λ k h. null_where lists (0 + k) true (valid (0 + k))))

  pub all_nulls : ((i : ℕ) → row_flag_at lists.validity i ≡ false) → list_count lists ≡ null_rows (list_rows lists)
  all_nulls never = sym (nulls_or_none (list_at lists) None (list_count lists) (λ k h. null_where lists (0 + k) false (never (0 + k))))

  pub bits_nulls : (bits : List Bool) → lists.validity ≡ ByRows (ByBits bits) → length bits ≡ list_count lists → null_rows (list_rows lists) + count_by (λ flag. flag) bits ≡ list_count lists
  bits_nulls bits is long =
      let each = λ (k : ℕ) (h : k < length bits).
      let zero : 0 + k ≡ k = omega arith in
      null_where lists (0 + k) (slice_index_or bits k false) (ap (λ form. row_flag_at form (0 + k)) is ∙ ap (λ (i : ℕ). slice_index_or bits i false) zero) in
      ap (λ (n : ℕ). null_rows (map (list_at lists) (range_with_len 0 n)) + count_by (λ flag. flag) bits) (sym long) ∙ nulls_of_bits bits (list_at lists) 0 each ∙ long

  pub runs_nulls : (r : Runs) → lists.validity ≡ runs_validity r → r.count ≡ list_count lists → IsPlainTruths r.values
      → null_rows (run_rows r.ends (map where_true (column_rows r.values)) r.offset r.count) ≡ null_rows (list_rows lists)
  runs_nulls r is long plain =
      let shown = λ (k : ℕ) (h : k < r.count).
      let zero : 0 + k ≡ k = omega arith in
      let flag = ap (λ form. row_flag_at form (0 + k)) is ∙ ap (λ (i : ℕ). slice_index_or (truths_of r.values) (run_at r.ends (r.offset + i)) false) zero in
      shown_flag r.values (run_at r.ends (r.offset + k)) plain ∙ sym (null_where lists (0 + k) (slice_index_or (truths_of r.values) (run_at r.ends (r.offset + k)) false) flag) in
      null_rows-alike (λ position. slice_index_or (map where_true (column_rows r.values)) (run_at r.ends position) None) (list_at lists) r.offset 0 r.count shown
      ∙ ap (λ (n : ℕ). null_rows (map (list_at lists) (range_with_len 0 n))) long

-- ---- Flat rows ----

-- each row is null or valid
nulls_and_flags : {B : Type 0} (value : B → FlatValue) (items : List B) (bits : List Bool) → length bits ≡ length items
    → null_rows (map (option_map Single) (map (option_map value) (optionals items bits))) + count_by (λ flag. flag) bits ≡ length items
nulls_and_flags value [] [] paired = refl
nulls_and_flags value [] (b ∷ bits) paired = absurd (omega (arith, paired))
nulls_and_flags value (x ∷ items) [] paired = absurd (omega (arith, paired))
nulls_and_flags value (x ∷ items) (true ∷ bits) paired =
    let rest = map (option_map Single) (map (option_map value) (optionals items bits)) in
    let before : length bits ≡ length items = omega (arith, paired) in
    omega (arith, null_rows-some (Single (value x)) rest, count_by-true bits, nulls_and_flags value items bits before)
nulls_and_flags value (x ∷ items) (false ∷ bits) paired =
    let rest = map (option_map Single) (map (option_map value) (optionals items bits)) in
    let before : length bits ≡ length items = omega (arith, paired) in
    omega (arith, null_rows-null rest, count_by-false bits, nulls_and_flags value items bits before)

nulls_of_items : {B : Type 0} (value : B → FlatValue) (items : List B) (form : ValidityForm) → HasLength form (length items)
    → null_rows (map (option_map Single) (rows_of value items form)) + count_by (λ flag. flag) (flags form (length items)) ≡ length items
nulls_of_items value items form fits = nulls_and_flags value items (flags form (length items)) (length-flags form (length items) fits)

pub nulls_of_leaf : (leaf : Leaf) → HasLength (leaf_validity leaf) (leaf_count leaf)
    → null_rows (single_rows leaf) + count_by (λ flag. flag) (flags (leaf_validity leaf) (leaf_count leaf)) ≡ leaf_count leaf
nulls_of_leaf (OfNumbers form) fits = nulls_of_items Number form.numbers form.validity fits
nulls_of_leaf (OfTruths form) fits = nulls_of_items Truth form.bits form.validity fits
nulls_of_leaf (OfDecimals form) fits = nulls_of_items DecimalNumber form.numbers form.validity fits
nulls_of_leaf (OfVarBins form) fits =
    let long = length-map form.views (view_bytes form.buffers) in
    let fits_bytes : HasLength form.validity (length (map (view_bytes form.buffers) form.views)) = rw long fits in
    rw long at (nulls_of_items (varbin_value form.kind) (map (view_bytes form.buffers) form.views) form.validity fits_bytes)
