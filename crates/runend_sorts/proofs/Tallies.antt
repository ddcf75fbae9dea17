-- Rows in order, counted by value.
use Rattle.std.proofs.Common.{◌≡◌, ◌∙◌, ℕ, zero, suc, pos, ◌+◌, ◌*◌, ◌<◌, ◌≤◌, List, [], ◌∷◌, ◌++◌, Bool, true, false, cond, Option, None, Some, add-one, add-zero, append-nil, ap, arith, get_or, inl, inr, length, map, refl, replicate, slice_index, subst, sym, zero-add}
use Rattle.std.specs.Prelude.{All, Contains, count_by, option_map, slice_index_or}
use Rattle.std.specs.List.{flat_map, range_with_len}
use Rattle.std.specs.List.Sorted.{IsPermutation}
use Rattle.std.specs.Ordering.{is_eq, is_lt, ordering_reverse}
use Rattle.std.specs.declared.cmp.Ordering.{Ordering}
use Rattle.std.specs.declared.cmp.Ordering.TheVariants.{Less, Equal, Greater}
use Rattle.std.proofs.lemmas.Bool.{cases_lt}
use Rattle.std.proofs.lemmas.Cmp.{tied_itself}
use Rattle.std.proofs.lemmas.List.{length-map}
use Rattle.std.proofs.lemmas.List.Concat.{flat_map-append}
use Rattle.std.proofs.lemmas.List.Elements.{All-replicate, All-weaker, Contains-get_or}
use Rattle.std.proofs.lemmas.List.Folds.{sum_by-replicate}
use Rattle.std.proofs.lemmas.List.FromFn.{get_or-range_with_len, length-range_with_len}
use Rattle.std.proofs.lemmas.List.Sorted.{All-permutation, Contains-permutation, IsPermutation-sym, sum_by-IsPermutation}
use Rattle.std.proofs.lemmas.List.Sums.{sum_by-append}
use Rattle.std.proofs.lemmas.Option.{slice_get-get_or, slice_get-map}
use Rattle.column_base.specs.declared.dtype.DType.{DType}
use Rattle.column_base.specs.declared.dtype.PType.TheVariants.{U64}
use Rattle.column_base.specs.ValidityForm.{NeverNull}
use Rattle.column_core.specs.Leaf.{Leaf, OfNumbers, single_rows}
use Rattle.column_core.specs.PrimitiveForm.{PrimitiveForm, primitive_dtype, primitive_with}
use Rattle.column_core.specs.Value.{Value}
use Rattle.column_ops.specs.Order.{row_cmp}
use Rattle.column_ops.specs.OrderFacts.{IsInOrder, IsInStrictOrder}
use Rattle.column_ops.proofs.OrderLaws.{row_total}
use Rattle.column_ops.proofs.RowRanges.{length-single_rows}
use Rattle.runend_windows.proofs.Lists.{equal_by_slice_get}
use Rattle.runend_array.specs.Column.{Column, OfLeaf}
use Rattle.runend_sorts.specs.Counts.{AreCounts, count_of, count_row}
use Rattle.runend_sorts.specs.Runs.{AreRunsOf, rows_in_order, run_of}
use Rattle.runend_sorts.proofs.Rising.{all_pieces}
use Rattle.runend_sorts.proofs.Ranges.{range_more}

less_of : (o : Ordering) → is_lt o ≡ true → o ≡ Less
less_of Less h = refl
less_of Equal h = cc
less_of Greater h = cc

-- in strict order each row is below any later one
below_later : (values : List (Option Value)) → IsInStrictOrder values → (i j : ℕ) → i < j → j < length values → row_cmp (get_or values i None) (get_or values j None) ≡ Less
below_later values strict i zero before within = absurd (omega arith)
below_later values strict i (suc j) before within =
    let at = strict j None (omega arith) in
    let step : row_cmp (get_or values j None) (get_or values (suc j) None) ≡ Less = less_of (row_cmp (get_or values j None) (get_or values (suc j) None)) (rw add-one at at) in
    elim (cases_lt i j) [
      | inl earlier ↦ row_total.trans (get_or values i None) (get_or values j None) (get_or values (suc j) None) (below_later values strict i j earlier (omega arith)) step
      | inr last ↦ let same : i ≡ j = omega arith in rw same step
    ]

-- so no other row is equal to it
apart : (values : List (Option Value)) → IsInStrictOrder values → (i j : ℕ) → (i ≡ j → ⊥) → i < length values → j < length values
    → is_eq (row_cmp (get_or values i None) (get_or values j None)) ≡ false
apart values strict i j other low high = elim (cases_lt i j) [
  | inl before ↦ ap is_eq (below_later values strict i j before high)
  | inr from ↦
      let a = get_or values i None in
      let b = get_or values j None in
      let later : j < i = omega arith in
      ap is_eq (row_total.antisymm a b ∙ ap ordering_reverse (below_later values strict j i later low))
]

-- how many of the rows of one more run pass a test
counted_more : {A : Type 0} (p : A → Bool) (f : ℕ → List A) (count : ℕ) → count_by p (flat_map f (range_with_len 0 (suc count))) ≡ count_by p (flat_map f (range_with_len 0 count)) + count_by p (f count)
counted_more {A} p f count =
    let one : A → ℕ = λ x. cond (p x) 1 0 in
    ap (λ (order : List ℕ). count_by p (flat_map f order)) (range_more 0 count ∙ ap (λ (k : ℕ). range_with_len 0 count ++ k ∷ []) (zero-add count))
    ∙ ap (count_by p) (flat_map-append f (range_with_len 0 count) (count ∷ []) ∙ ap (λ (last : List A). flat_map f (range_with_len 0 count) ++ last) (append-nil (f count)))
    ∙ sum_by-append one (flat_map f (range_with_len 0 count)) (f count)

counted_copies : {A : Type 0} (p : A → Bool) (count : ℕ) (value : A) (passes : Bool) → p value ≡ passes → count_by p (replicate count value) ≡ count * cond passes 1 0
counted_copies p count value passes is = sum_by-replicate (λ x. cond (p x) 1 0) count value ∙ ap (λ (b : Bool). count * cond b 1 0) is

module _ (lengths : List ℕ) (values : List (Option Value)) (strict : IsInStrictOrder values) (paired : length values ≡ length lengths) (run : ℕ) (within : run < length lengths) where
  abbrev own : Option Value
  own = get_or values run None

  abbrev is_own : Option Value → Bool
  is_own other = is_eq (row_cmp own other)

  -- no row of the runs before it is equal to the value of a run
  none_before : (count : ℕ) → count ≤ run → count_by is_own (rows_in_order lengths values (range_with_len 0 count)) ≡ 0
  none_before zero short = refl
  none_before (suc count) short =
      let last = counted_copies is_own (slice_index lengths count) (get_or values count None) false (apart values strict run count (λ e. omega arith) (omega arith) (omega arith)) in
      let front = none_before count (omega arith) in
      counted_more is_own (run_of lengths values) count ∙ ap (λ (n : ℕ). n + count_by is_own (run_of lengths values count)) front ∙ zero-add _ ∙ last ∙ omega arith

  -- with it, all of its rows are
  own_rows : (count : ℕ) → run < count → count ≤ length lengths → count_by is_own (rows_in_order lengths values (range_with_len 0 count)) ≡ slice_index lengths run
  own_rows zero past short = absurd (omega arith)
  own_rows (suc count) past short = elim (cases_lt run count) [
    | inl before ↦
        let last = counted_copies is_own (slice_index lengths count) (get_or values count None) false (apart values strict run count (λ e. omega arith) (omega arith) (omega arith)) in
        let front = own_rows count before (omega arith) in
        let none : slice_index lengths count * cond false 1 0 ≡ 0 = omega arith in
        counted_more is_own (run_of lengths values) count ∙ ap (λ (n : ℕ). n + count_by is_own (run_of lengths values count)) front
        ∙ ap (λ (n : ℕ). slice_index lengths run + n) (last ∙ none) ∙ add-zero (slice_index lengths run)
    | inr here ↦
        let same : count ≡ run = omega arith in
        let last = counted_copies is_own (slice_index lengths run) own true (ap is_eq (tied_itself row_total own)) in
        let whole : slice_index lengths run * cond true 1 0 ≡ slice_index lengths run = omega arith in
        rw same (counted_more is_own (run_of lengths values) run ∙ ap (λ (n : ℕ). n + count_by is_own (run_of lengths values run)) (none_before run (omega arith)) ∙ zero-add _ ∙ last ∙ whole)
  ]

module _ (rows : List (Option Value)) (dtype : DType) (lengths : List ℕ) (leaf : Leaf) (runs : AreRunsOf rows dtype lengths leaf) where
  many : length (single_rows leaf) ≡ length lengths
  many = length-single_rows leaf ∙ runs.paired

  -- each row is one of the values
  pub rows_among : All (Contains (single_rows leaf)) rows
  rows_among =
      let values = single_rows leaf in
      let count = length lengths in
      let has = Contains values in
      subst (All has) runs.shown (all_pieces has (run_of lengths values) (range_with_len 0 count) (λ k d inside.
      let long = length-range_with_len 0 count in
      let below : k < count = omega arith in
      let place = get_or-range_with_len 0 count k d below in
      let run = get_or (range_with_len 0 count) k d in
      let as_many = many in
      All-replicate has (slice_index lengths run) (slice_index_or values run None) (Contains-get_or values run None (omega arith))))

  -- where they are in order, each value is that of as many rows as its run has
  pub count_at : IsInOrder rows → (run : ℕ) → run < length lengths → count_of rows (get_or (single_rows leaf) run None) ≡ slice_index lengths run
  count_at ordered run within =
      let value = get_or (single_rows leaf) run None in
      ap (λ (shown : List (Option Value)). count_of shown value) (sym runs.shown)
      ∙ own_rows lengths (single_rows leaf) (runs.ordered ordered) many run within (length lengths) within (omega arith)

-- rows in another order are counted alike
counted_alike : (rows sorted : List (Option Value)) (row : Option Value) → IsPermutation rows sorted → count_of sorted row ≡ count_of rows row
counted_alike rows sorted row moved = sum_by-IsPermutation (λ (other : Option Value). cond (is_eq (row_cmp row other)) 1 0) rows sorted moved

-- the numbers of rows, stored without null
stored_counts : (counts : List ℕ) → single_rows (OfNumbers (primitive_with U64 (map (λ (n : ℕ). pos n) counts) NeverNull)) ≡ map count_row counts
stored_counts [] = refl
stored_counts (count ∷ counts) = ap (λ (rest : List (Option Value)). count_row count ∷ rest) (stored_counts counts)

module _ (rows sorted : List (Option Value)) (dtype : DType) (lengths : List ℕ) (leaf : Leaf) (moved : IsPermutation rows sorted) (ordered : IsInOrder sorted) (runs : AreRunsOf sorted dtype lengths leaf) where
  tallies : map count_row lengths ≡ map (λ value. count_row (count_of rows value)) (single_rows leaf)
  tallies =
      let values = single_rows leaf in
      let count : Option Value → Option Value = λ value. count_row (count_of rows value) in
      let as_many = many sorted dtype lengths leaf runs in
      let long = length-map lengths count_row in
      let wide = length-map values count in
      equal_by_slice_get (map count_row lengths) (map count values) (omega arith) (λ k inside.
      let within : k < length lengths = omega arith in
      slice_get-map count_row lengths k ∙ ap (option_map count_row) (slice_get-get_or lengths k 0 within)
      ∙ ap (λ (n : ℕ). Some (count_row n)) (sym (count_at sorted dtype lengths leaf runs ordered k within) ∙ counted_alike rows sorted (get_or values k None) moved)
      ∙ sym (slice_get-map count values k ∙ ap (option_map count) (slice_get-get_or values k None (omega arith))))

  pub counted_values : (form : PrimitiveForm) → form ≡ primitive_with U64 (map (λ (n : ℕ). pos n) lengths) NeverNull → single_rows (OfNumbers form) ≡ map (λ value. count_row (count_of rows value)) (single_rows leaf)
  counted_values form is = ap (λ (f : PrimitiveForm). single_rows (OfNumbers f)) is ∙ stored_counts lengths ∙ tallies

  pub all_counted : All (Contains (single_rows leaf)) rows
  all_counted = All-permutation (Contains (single_rows leaf)) sorted rows (IsPermutation-sym rows sorted moved) (rows_among sorted dtype lengths leaf runs)

  pub some_counted : All (Contains rows) (single_rows leaf)
  some_counted = All-weaker (Contains sorted) (Contains rows) (λ row has. Contains-permutation sorted rows row (IsPermutation-sym rows sorted moved) has) (single_rows leaf) runs.among

-- the values and lengths of the runs of sorted rows are the distinct rows and their counts
pub counts_of_runs : (rows sorted : List (Option Value)) (dtype own : DType) (lengths : List ℕ) (leaf : Leaf) (form : PrimitiveForm) (column : Column) → IsPermutation rows sorted → IsInOrder sorted
    → AreRunsOf sorted own lengths leaf → own ≡ dtype → form ≡ primitive_with U64 (map (λ (n : ℕ). pos n) lengths) NeverNull → column ≡ OfLeaf leaf → AreCounts rows dtype column (OfLeaf (OfNumbers form))
counts_of_runs rows sorted dtype own lengths leaf form column moved ordered runs same is stored =
    subst (λ (c : Column). AreCounts rows dtype c (OfLeaf (OfNumbers form))) (sym stored) (record {
      ordered = runs.ordered ordered;
      all = all_counted rows sorted own lengths leaf moved ordered runs;
      some = some_counted rows sorted own lengths leaf moved ordered runs;
      counted = counted_values rows sorted own lengths leaf moved ordered runs form is;
      typed = runs.typed ∙ same;
      counts_typed = ap primitive_dtype is;
      flat = tt;
      counts_flat = tt;
    })
