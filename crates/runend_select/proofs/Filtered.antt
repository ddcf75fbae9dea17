-- The rows that kept runs show: those that the mask selects.
use Rattle.std.proofs.Common.{◌≡◌, ℕ, ◌+◌, ◌-◌, ◌<◌, ◌≤◌, zero, suc, List, [], ◌∷◌, ◌++◌, Bool, true, false, Option, None, length, map, min, take, slice_index, get_or, replicate, arith, ap, ◌∙◌, sym, refl, inl, inr}
use Rattle.std.specs.Prelude.{slice_range}
use Rattle.std.proofs.lemmas.Bool.{cases_lt}
use Rattle.std.proofs.lemmas.List.{ext_get_or, append-nil, get_or-replicate, length-map, length-replicate, length-take, map-append, take_all}
use Rattle.std.proofs.lemmas.List.Sums.{count_by-le-length}
use Rattle.std.proofs.lemmas.List.FromFn.{get_or-map-range_with_len}
use Rattle.std.specs.List.Sorted.{IsStrictlyIncreasing}
use Rattle.column_base.proofs.Ranges.{length-slice_range, get_or-slice_range}
use Rattle.column_ops.specs.Filter.{filter_rows}
use Rattle.runend_windows.specs.Window.{IsWindow, run_at, run_rows}
use Rattle.runend_windows.proofs.RunRows.{length-run_rows}
use Rattle.runend_select.specs.KeptRuns.{AreKept, selected_before}
use Rattle.runend_select.proofs.Grown.{Grown, Grown-none, Grown-push, IsWindow-grown, AllHaveRows-grown, run_rows-push}
use Rattle.runend_encode.specs.Joined.{AllHaveRows}
use Rattle.runend_select.proofs.KeptSoFar.{HasSelectedRow-counted, counted-HasSelectedRow}
use Rattle.runend_select.proofs.Reached.{reached, reached-all, reached-le, run_at-reached}
use Rattle.runend_select.proofs.Selected.{at_set, filter_rows-append, filter_rows-replicate, set_at, set_bits, set_bits-split, take-split}

-- the rows of one run
rows-of_run : {B : Type 0} (ends : List ℕ) (values : List (Option B)) (offset count k start stop : ℕ) → IsStrictlyIncreasing ends → k < length ends
    → start ≡ reached ends offset count k → stop ≡ min (slice_index ends k - offset) count → slice_range (run_rows ends values offset count) start stop ≡ replicate (stop - start) (get_or values k None)
rows-of_run ends values offset count k start stop increasing h from to =
    let order = reached-le ends offset count k increasing h in
    let size = length-run_rows ends values offset count in
    let part = length-slice_range (run_rows ends values offset count) start stop (omega arith) (omega arith) in
    let copies = length-replicate (stop - start) (get_or values k None) in
    ext_get_or None _ _ (omega arith) (λ i lt.
    let same = run_at-reached ends offset count k (start + i) increasing h (omega arith) (omega arith) in
    get_or-slice_range (run_rows ends values offset count) start stop i None (omega arith)
    ∙ get_or-map-range_with_len (λ p. get_or values (run_at ends p) None) offset count (start + i) (offset + (start + i)) None (omega arith) refl
    ∙ ap (λ j. get_or values j None) same
    ∙ sym (get_or-replicate (stop - start) i (get_or values k None) None (omega arith)))

-- what the first k runs give
pub record Filtered {B : Type 0} (ends : List ℕ) (values : List (Option B)) (offset count : ℕ) (bits : List Bool) (k : ℕ) (kept_ends : List ℕ) (kept_values : List (Option B)) : Type 0 where
  pub grown : Grown kept_ends kept_values (set_bits (take (reached ends offset count k) bits))
  pub rows : run_rows kept_ends kept_values 0 (set_bits (take (reached ends offset count k) bits))
      ≡ filter_rows (take (reached ends offset count k) bits) (take (reached ends offset count k) (run_rows ends values offset count))

take-next : {B : Type 0} (xs : List B) (k : ℕ) (d : B) → k < length xs → take (suc k) xs ≡ take k xs ++ get_or xs k d ∷ []
take-next [] k d h = absurd (omega arith)
take-next (x ∷ xs) zero d h = refl
take-next (x ∷ xs) (suc k) d h = ap (λ ys. x ∷ ys) (take-next xs k d (omega arith))

module _ {B : Type 0} (ends : List ℕ) (values : List (Option B)) (offset count : ℕ) (bits kept : List Bool) (kept_ends : List ℕ)
    (window : IsWindow ends offset count) (paired : length values ≡ length ends) (long : length bits ≡ count) (are : AreKept ends offset bits kept kept_ends) where
  abbrev ends_to : ℕ → List ℕ
  ends_to k = filter_rows (take k kept) (map (selected_before bits offset) (take k ends))

  abbrev values_to : ℕ → List (Option B)
  values_to k = filter_rows (take k kept) (take k values)

  abbrev more_at : ℕ → ℕ
  more_at k = set_bits (slice_range bits (reached ends offset count k) (reached ends offset count (suc k)))

  order : (k : ℕ) → k < length ends → reached ends offset count k ≤ reached ends offset count (suc k)
  order k h = reached-le ends offset count k window.increasing h

  -- how many rows are selected up to the end of a run
  up_to : (k : ℕ) → selected_before bits offset (slice_index ends k) ≡ set_bits (take (reached ends offset count (suc k)) bits)
  up_to k = ap set_bits (elim (cases_lt (slice_index ends k - offset) count) [
    | inl less ↦ let e : slice_index ends k - offset ≡ reached ends offset count (suc k) = omega arith in ap (λ (n : ℕ). take n bits) e
    | inr all ↦ take_all (slice_index ends k - offset) bits (omega arith) ∙ sym (take_all (reached ends offset count (suc k)) bits (omega arith))
  ])

  split : (k : ℕ) → k < length ends → set_bits (take (reached ends offset count (suc k)) bits) ≡ set_bits (take (reached ends offset count k) bits) + more_at k
  split k h = set_bits-split bits (reached ends offset count k) (reached ends offset count (suc k)) (order k h)

  -- one run more gives as many copies of its value as it has selected rows
  more_rows : (k : ℕ) → k < length ends → filter_rows (take (reached ends offset count (suc k)) bits) (take (reached ends offset count (suc k)) (run_rows ends values offset count))
      ≡ filter_rows (take (reached ends offset count k) bits) (take (reached ends offset count k) (run_rows ends values offset count)) ++ replicate (more_at k) (get_or values k None)
  more_rows k h =
      let o = order k h in
      let size = length-run_rows ends values offset count in
      let taken = length-take (reached ends offset count k) bits in
      let taken_rows = length-take (reached ends offset count k) (run_rows ends values offset count) in
      let part = length-slice_range bits (reached ends offset count k) (reached ends offset count (suc k)) o (omega arith) in
      rw (
        take-split (run_rows ends values offset count) (reached ends offset count k) (reached ends offset count (suc k)) o,
        take-split bits (reached ends offset count k) (reached ends offset count (suc k)) o,
        rows-of_run ends values offset count k (reached ends offset count k) (reached ends offset count (suc k)) window.increasing h refl refl,
      )
      (filter_rows-append (take (reached ends offset count k) bits) (slice_range bits (reached ends offset count k) (reached ends offset count (suc k)))
      (take (reached ends offset count k) (run_rows ends values offset count)) (replicate (reached ends offset count (suc k) - reached ends offset count k) (get_or values k None)) (omega arith)
      ∙ ap (λ zs. filter_rows (take (reached ends offset count k) bits) (take (reached ends offset count k) (run_rows ends values offset count)) ++ zs)
      (filter_rows-replicate (slice_range bits (reached ends offset count k) (reached ends offset count (suc k))) (reached ends offset count (suc k) - reached ends offset count k) (get_or values k None) part))

  -- the ends and values of one run more
  ends_next : (k : ℕ) → k < length ends → ends_to (suc k) ≡ ends_to k ++ filter_rows (get_or kept k false ∷ []) (set_bits (take (reached ends offset count (suc k)) bits) ∷ [])
  ends_next k h =
      let p = are.paired in
      let a = length-take k kept in
      let b = length-take k ends in
      let c = length-map (take k ends) (selected_before bits offset) in
      rw (take-next kept k false (omega arith), take-next ends k 0 h, map-append (selected_before bits offset) (take k ends) (slice_index ends k ∷ []), up_to k)
      (filter_rows-append (take k kept) (get_or kept k false ∷ []) (map (selected_before bits offset) (take k ends)) (set_bits (take (reached ends offset count (suc k)) bits) ∷ []) (omega arith))

  values_next : (k : ℕ) → k < length ends → values_to (suc k) ≡ values_to k ++ filter_rows (get_or kept k false ∷ []) (get_or values k None ∷ [])
  values_next k h =
      let p = are.paired in
      let a = length-take k kept in
      let b = length-take k values in
      rw (take-next kept k false (omega arith), take-next values k None (omega arith))
      (filter_rows-append (take k kept) (get_or kept k false ∷ []) (take k values) (get_or values k None ∷ []) (omega arith))

  keeps : (k : ℕ) → k < length ends → get_or kept k false ≡ true → 0 < more_at k
  keeps k h set = counted-HasSelectedRow ends offset count bits k (reached ends offset count k) (reached ends offset count (suc k)) long h refl refl ((are.each k h).0 (set_at kept k set))

  drops : (k : ℕ) → k < length ends → get_or kept k false ≡ false → more_at k ≡ 0
  drops k h unset = elim (cases_lt 0 (more_at k)) [
    | inl some ↦
        let set = at_set kept k ((are.each k h).1 (HasSelectedRow-counted ends offset count bits k (reached ends offset count k) (reached ends offset count (suc k)) window.increasing long h refl refl some)) in
        absurd (let e : true ≡ false = sym set ∙ unset in cc)
    | inr none ↦ omega arith
  ]

  next : (k : ℕ) → k < length ends → (b : Bool) → get_or kept k false ≡ b → Filtered ends values offset count bits k (ends_to k) (values_to k) → Filtered ends values offset count bits (suc k) (ends_to (suc k)) (values_to (suc k))
  next k h true set old =
      let some = keeps k h set in
      let size = split k h in
      let e = ends_next k h ∙ ap (λ (b : Bool). ends_to k ++ filter_rows (b ∷ []) (set_bits (take (reached ends offset count (suc k)) bits) ∷ [])) set in
      let v = values_next k h ∙ ap (λ (b : Bool). values_to k ++ filter_rows (b ∷ []) (get_or values k None ∷ [])) set in
      record {
        grown = rw (e, v, size) (Grown-push (ends_to k) (values_to k) (set_bits (take (reached ends offset count k) bits)) (more_at k) (get_or values k None) some old.grown);
        rows = rw (e, v, size, more_rows k h)
            (run_rows-push (ends_to k) (values_to k) (set_bits (take (reached ends offset count k) bits)) (more_at k) (get_or values k None) some old.grown ∙ ap (λ zs. zs ++ replicate (more_at k) (get_or values k None)) old.rows);
      }
  next k h false unset old =
      let none = drops k h unset in
      let size : set_bits (take (reached ends offset count (suc k)) bits) ≡ set_bits (take (reached ends offset count k) bits) = let s = split k h in omega arith in
      let e = ends_next k h ∙ ap (λ (b : Bool). ends_to k ++ filter_rows (b ∷ []) (set_bits (take (reached ends offset count (suc k)) bits) ∷ [])) unset ∙ append-nil (ends_to k) in
      let v = values_next k h ∙ ap (λ (b : Bool). values_to k ++ filter_rows (b ∷ []) (get_or values k None ∷ [])) unset ∙ append-nil (values_to k) in
      record {
        grown = rw (e, v, size) old.grown;
        rows = rw (e, v, size, more_rows k h, none) (old.rows ∙ sym (append-nil (filter_rows (take (reached ends offset count k) bits) (take (reached ends offset count k) (run_rows ends values offset count)))));
      }

  so_far : (k : ℕ) → k ≤ length ends → Filtered ends values offset count bits k (ends_to k) (values_to k)
  so_far zero h = record { grown = Grown-none; rows = refl }
  so_far (suc k) h = next k (omega arith) (get_or kept k false) refl (so_far k (omega arith))

  all_ends : ends_to (length ends) ≡ kept_ends
  all_ends =
      let p = are.paired in
      ap (λ (bs : List Bool). filter_rows bs (map (selected_before bits offset) (take (length ends) ends))) (take_all (length ends) kept (omega arith))
      ∙ ap (λ (es : List ℕ). filter_rows kept (map (selected_before bits offset) es)) (take_all (length ends) ends (omega arith)) ∙ sym are.counted

  all_values : values_to (length ends) ≡ filter_rows kept values
  all_values =
      let p = are.paired in
      ap (λ (bs : List Bool). filter_rows bs (take (length ends) values)) (take_all (length ends) kept (omega arith)) ∙ ap (filter_rows kept) (take_all (length ends) values (omega arith))

  all_rows : reached ends offset count (length ends) ≡ count
  all_rows = reached-all ends offset count window.last

  whole : Filtered ends values offset count bits (length ends) kept_ends (filter_rows kept values)
  whole = rw (← all_ends, ← all_values) (so_far (length ends) (omega arith))

  pub IsWindow-filtered : IsWindow kept_ends 0 (set_bits bits)
  IsWindow-filtered =
      let few = count_by-le-length (λ (b : Bool). b) bits in
      let small = window.small in
      let counted : set_bits (take (reached ends offset count (length ends)) bits) ≡ set_bits bits = ap set_bits (take_all (reached ends offset count (length ends)) bits (let e = all_rows in omega arith)) in
      rw (← counted) (IsWindow-grown kept_ends (filter_rows kept values) (set_bits (take (reached ends offset count (length ends)) bits)) (omega arith) whole.grown)

  -- each kept run shows a row
  pub AllHaveRows-filtered : AllHaveRows kept_ends 0 (set_bits bits)
  AllHaveRows-filtered =
      let counted : set_bits (take (reached ends offset count (length ends)) bits) ≡ set_bits bits = ap set_bits (take_all (reached ends offset count (length ends)) bits (let e = all_rows in omega arith)) in
      rw (← counted) (AllHaveRows-grown kept_ends (filter_rows kept values) (set_bits (take (reached ends offset count (length ends)) bits)) whole.grown)

  -- the kept runs show the selected rows
  pub run_rows-filtered : run_rows kept_ends (filter_rows kept values) 0 (set_bits bits) ≡ filter_rows bits (run_rows ends values offset count)
  run_rows-filtered =
      let size = length-run_rows ends values offset count in
      let reach = all_rows in
      let all_bits = take_all (reached ends offset count (length ends)) bits (omega arith) in
      let all_of_rows = take_all (reached ends offset count (length ends)) (run_rows ends values offset count) (omega arith) in
      ap (λ (bs : List Bool). run_rows kept_ends (filter_rows kept values) 0 (set_bits bs)) (sym all_bits) ∙ whole.rows
      ∙ ap (λ (bs : List Bool). filter_rows bs (take (reached ends offset count (length ends)) (run_rows ends values offset count))) all_bits
      ∙ ap (filter_rows bits) all_of_rows

  pub paired-filtered : length (filter_rows kept values) ≡ length kept_ends
  paired-filtered = whole.grown.paired
