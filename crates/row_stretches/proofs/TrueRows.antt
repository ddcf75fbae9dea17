-- The stretches of the runs that are true, as they are made run by run.
use Rattle.std.proofs.Common.{◌≡◌, ◌∙◌, ◌+◌, ◌-◌, ◌<◌, ◌≤◌, ◌++◌, ℕ, zero, suc, List, [], ◌∷◌, Bool, true, false, Option, None, Some, add-one, ap, append-nil, append_assoc, arith, cond, get_or, inl, inr, length, map, refl, slice_index, sym, zero-add}
use Rattle.std.specs.Prelude.{All, filter, slice_get, slice_index_or}
use Rattle.std.specs.List.{AllAdjacentBelow, range_with_len}
use Rattle.std.specs.List.Sorted.{IsStrictlyIncreasing}
use Rattle.std.proofs.lemmas.Bool.{cases_lt}
use Rattle.std.proofs.lemmas.List.{get_or-map, get_or_append_left, get_or_push, length-append, length-map, map-id}
use Rattle.std.proofs.lemmas.List.Concat.{flat_map-append}
use Rattle.std.proofs.lemmas.List.Elements.{All-nil, All-push}
use Rattle.std.proofs.lemmas.List.FromFn.{filter_of_map_range_with_len_more}
use Rattle.std.proofs.lemmas.List.Kept.{AllPairs-from_increasing}
use Rattle.std.proofs.lemmas.Option.{get_or_from_slice_get, slice_get-get_or}
use Rattle.column_core.specs.Value.{Value, Single, Truth}
use Rattle.column_ops.specs.Filter.{filter_rows}
use Rattle.column_ops.proofs.SelectedRows.{rows-places}
use Rattle.runend_windows.specs.Cover.{IsTightCover}
use Rattle.runend_windows.specs.Window.{last_end, run_at}
use Rattle.runend_windows.proofs.RunAt.{run_at_is}
use Rattle.runend_encode.specs.Starts.{rows_at}
use Rattle.row_stretches.specs.declared.stretches.Stretch.{Stretch}
use Rattle.row_stretches.specs.Masks.{AreTrueStretches, is_true, truths_of}
use Rattle.row_stretches.specs.Stretches.{IsWithin, stretch_places, stretch_rows}
use Rattle.row_stretches.proofs.Places.{range_more, rows_of_places}

-- the places of the true bits among the first n
module _ (bits : List Bool) where
  abbrev pub test : ℕ → Bool
  test i = slice_index_or bits i false

  abbrev pub first_places : ℕ → List ℕ
  first_places n = filter test (range_with_len 0 n)

  place_next : (k : ℕ) → first_places (k + 1) ≡ first_places k ++ cond (test k) (k ∷ []) []
  place_next k =
      ap (filter test) (sym (map-id (range_with_len 0 (k + 1))))
      ∙ filter_of_map_range_with_len_more test (λ (i : ℕ). i) 0 k k (omega arith)
      ∙ ap (λ (ks : List ℕ). filter test ks ++ cond (test k) (k ∷ []) []) (map-id (range_with_len 0 k))

  -- where all rows are false
  pub none_more : (start n : ℕ) → ((i : ℕ) → i < n → test (start + i) ≡ false) → first_places (start + n) ≡ first_places start
  none_more start zero none = ap first_places (omega arith)
  none_more start (suc n) none =
      let next : start + suc n ≡ start + n + 1 = omega arith in
      ap first_places next ∙ place_next (start + n) ∙ ap (λ (b : Bool). first_places (start + n) ++ cond b ((start + n) ∷ []) []) (none n (omega arith))
      ∙ append-nil (first_places (start + n)) ∙ none_more start n (λ i h. none i (omega arith))

  -- where all rows are true
  pub all_more : (start n : ℕ) → ((i : ℕ) → i < n → test (start + i) ≡ true) → first_places (start + n) ≡ first_places start ++ range_with_len start n
  all_more start zero all = ap first_places (omega arith) ∙ sym (append-nil (first_places start))
  all_more start (suc n) all =
      let next : start + suc n ≡ start + n + 1 = omega arith in
      let more : n + 1 ≡ suc n = omega arith in
      ap first_places next ∙ place_next (start + n) ∙ ap (λ (b : Bool). first_places (start + n) ++ cond b ((start + n) ∷ []) []) (all n (omega arith))
      ∙ ap (λ (ks : List ℕ). ks ++ (start + n) ∷ []) (all_more start n (λ i h. all i (omega arith)))
      ∙ append_assoc (first_places start) (range_with_len start n) ((start + n) ∷ [])
      ∙ ap (λ (ks : List ℕ). first_places start ++ ks) (sym (range_more start n) ∙ ap (range_with_len start) more)

-- the last end is the greatest
end_within : (ends : List ℕ) (run : ℕ) → IsStrictlyIncreasing ends → run < length ends → slice_index ends run ≤ last_end ends
end_within ends run increasing within = elim (cases_lt run (length ends - 1)) [
  | inl before ↦ let order = AllPairs-from_increasing ends increasing run (length ends - 1) 0 before (omega arith) in omega arith
  | inr last ↦ let same : run ≡ length ends - 1 = omega arith in rw same (omega arith)
]

-- a run begins before it ends, where the first one does
start_below : (ends : List ℕ) (run : ℕ) → IsStrictlyIncreasing ends → (0 < length ends → 0 < slice_index ends 0) → run < length ends → slice_index (0 ∷ ends) run < slice_index ends run
start_below ends zero increasing filled within = filled (omega arith)
start_below ends (suc run) increasing filled within =
    let order = increasing run (omega arith) in
    let next : run + 1 ≡ suc run = omega arith in
    rw next at order

-- the rows from where a run begins, before its end, are in it
run_of_rows : (ends : List ℕ) (run row : ℕ) → IsStrictlyIncreasing ends → run < length ends → slice_index (0 ∷ ends) run ≤ row → row < slice_index ends run → run_at ends row ≡ run
run_of_rows ends zero row increasing within from before = run_at_is ends row 0 (omega arith) (λ k h. absurd (omega arith)) (λ h. before)
run_of_rows ends (suc run) row increasing within from before =
    run_at_is ends row (suc run) (omega arith)
    (λ k h. elim (cases_lt k run) [
      | inl earlier ↦ let order = AllPairs-from_increasing ends increasing k run 0 earlier (omega arith) in omega arith
      | inr last ↦ let same : k ≡ run = omega arith in rw same from
    ])
    (λ h. before)

-- a true row is this value
true_value : (row : Option Value) → is_true row ≡ true → row ≡ Some (Single (Truth true))
true_value (Some (Single (Truth true))) h = refl
true_value (Some (Single (Truth false))) h = cc
true_value row h = cc

-- the stretches of the runs before this one
pub record TrueSoFar (rows : List (Option Value)) (ends : List ℕ) (values : List (Option Value)) (run start : ℕ) (order : List Stretch) : Type 0 where
  pub start_is : start ≡ slice_index (0 ∷ ends) run
  pub places : stretch_places order ≡ first_places (truths_of rows) start
  pub within : All (IsWithin (length rows)) order
  pub filled : All (λ s. s.start < s.stop) order
  pub apart : AllAdjacentBelow (λ s next. s.stop < next.start) order (length order)
  pub ended : (s : Stretch) → slice_get order (length order - 1) ≡ Some s → s.stop ≤ start
  pub touching : (s : Stretch) → slice_get order (length order - 1) ≡ Some s → s.stop ≡ start → (0 < run) × (is_true (slice_index_or values (run - 1) None) ≡ true)

pub none_so_far : (rows : List (Option Value)) (ends : List ℕ) (values : List (Option Value)) → TrueSoFar rows ends values 0 0 []
none_so_far rows ends values = record {
  start_is = refl;
  places = refl;
  within = All-nil (IsWithin (length rows));
  filled = All-nil (λ s. s.start < s.stop);
  apart = λ k d h. absurd (omega arith);
  ended = λ s is. cc;
  touching = λ s is. cc;
}

module _ (rows : List (Option Value)) (ends : List ℕ) (values : List (Option Value)) (cover : IsTightCover rows ends values) (run start stop : ℕ) (order : List Stretch) (there : run < length ends)
    (stop_is : stop ≡ slice_index ends run) (so_far : TrueSoFar rows ends values run start order) where
  abbrev pub own : Option Value
  own = slice_index_or values run None

  below : start < stop
  below = let h = start_below ends run cover.covers.window.increasing cover.tight.filled there in omega (arith, h, so_far.start_is, stop_is)

  inside : stop ≤ length rows
  inside = let h = end_within ends run cover.covers.window.increasing there in omega (arith, h, cover.exact.stop, stop_is)

  -- each row of the run is as true as its value
  bit_of_row : (i : ℕ) → i < stop - start → test (truths_of rows) (start + i) ≡ is_true own
  bit_of_row i h =
      let row = start + i in
      let increasing = cover.covers.window.increasing in
      let in_run = run_of_rows ends run row increasing there (omega (arith, so_far.start_is)) (omega (arith, stop_is, h, below)) in
      let paired = cover.covers.paired in
      let shown : slice_get rows row ≡ Some own =
      cover.covers.each row (omega (arith, inside, h, below)) ∙ ap (λ (k : ℕ). slice_get values (run_at ends k)) (zero-add row) ∙ ap (slice_get values) in_run
      ∙ slice_get-get_or values run None (omega (arith, paired, there)) in
      get_or-map is_true rows row None false (omega (arith, inside, h, below)) ∙ ap is_true (get_or_from_slice_get rows row own None shown)

  size : start + (stop - start) ≡ stop
  size = omega (arith, below)

  next_start : stop ≡ slice_index (0 ∷ ends) (run + 1)
  next_start = stop_is ∙ rw add-one refl

  -- a run that is not true
  pub run_skipped : is_true own ≡ false → TrueSoFar rows ends values (run + 1) stop order
  run_skipped fails = record {
    start_is = next_start;
    places = so_far.places ∙ sym (none_more (truths_of rows) start (stop - start) (λ i h. bit_of_row i h ∙ fails)) ∙ ap (first_places (truths_of rows)) size;
    within = so_far.within;
    filled = so_far.filled;
    apart = so_far.apart;
    ended = λ s is. let e = so_far.ended s is in omega (arith, e, below);
    touching = λ s is same. let e = so_far.ended s is in absurd (omega (arith, e, below, same));
  }

  abbrev pub one : Stretch
  one = record { start = start; stop = stop }

  -- the stretch before does not touch it
  gap : (s : Stretch) → is_true own ≡ true → slice_get order (length order - 1) ≡ Some s → s.stop < start
  gap s holds is = elim (cases_lt s.stop start) [
    | inl less ↦ less
    | inr more ↦
        let e = so_far.ended s is in
        let before = so_far.touching s is (omega (arith, e, more)) in
        let some = before.0 in
        let step : run - 1 + 1 ≡ run = omega (arith, some) in
        let paired = cover.covers.paired in
        let left = true_value (slice_index_or values (run - 1) None) before.1 in
        let right : slice_index_or values (run - 1 + 1) None ≡ Some (Single (Truth true)) = ap (λ (k : ℕ). slice_index_or values k None) step ∙ true_value own holds in
        absurd (cover.tight.differ (run - 1) None (omega (arith, step, paired, there)) (left ∙ sym right))
  ]

  apart_more : is_true own ≡ true → AllAdjacentBelow (λ s next. s.stop < next.start) (order ++ one ∷ []) (length (order ++ one ∷ []))
  apart_more holds k d h =
      let long = length-append order (one ∷ []) in
      elim (cases_lt (k + 1) (length order)) [
        | inl earlier ↦
            rw (get_or_append_left order (one ∷ []) d k (omega arith), get_or_append_left order (one ∷ []) d (k + 1) earlier) (so_far.apart k d earlier)
        | inr last ↦
            let end : k + 1 ≡ length order = omega (arith, long, h, last) in
            let here : k ≡ length order - 1 = omega (arith, end) in
            let s = get_or order k d in
            let is : slice_get order (length order - 1) ≡ Some s = ap (slice_get order) (sym here) ∙ slice_get-get_or order k d (omega (arith, end)) in
            rw (get_or_append_left order (one ∷ []) d k (omega (arith, end)), get_or_push order one d (k + 1) (sym end)) (gap s holds is)
      ]

  last_is : (s : Stretch) → slice_get (order ++ one ∷ []) (length (order ++ one ∷ []) - 1) ≡ Some s → s ≡ one
  last_is s is =
      let long = length-append order (one ∷ []) in
      let end : length (order ++ one ∷ []) - 1 ≡ length order = omega (arith, long) in
      sym (get_or_from_slice_get (order ++ one ∷ []) (length (order ++ one ∷ []) - 1) s one is) ∙ get_or_push order one one (length (order ++ one ∷ []) - 1) (sym end)

  -- a run that is true
  pub run_taken : (more : List Stretch) → more ≡ order ++ one ∷ [] → is_true own ≡ true → TrueSoFar rows ends values (run + 1) stop more
  run_taken more pushed holds = rw pushed (record {
    start_is = next_start;
    places =
        let f = λ (t : Stretch). range_with_len t.start (t.stop - t.start) in
        flat_map-append f order (one ∷ []) ∙ ap (λ (ks : List ℕ). stretch_places order ++ ks) (append-nil (f one))
        ∙ ap (λ (ks : List ℕ). ks ++ range_with_len start (stop - start)) so_far.places
        ∙ sym (all_more (truths_of rows) start (stop - start) (λ i h. bit_of_row i h ∙ holds)) ∙ ap (first_places (truths_of rows)) size;
    within = All-push (IsWithin (length rows)) order one so_far.within (record { ordered = omega (arith, below); inside = inside });
    filled = All-push (λ s. s.start < s.stop) order one so_far.filled below;
    apart = apart_more holds;
    ended = λ s is. let same = ap (λ (t : Stretch). t.stop) (last_is s is) in omega (arith, same);
    touching = λ s is same. (omega arith, ap (λ (k : ℕ). is_true (slice_index_or values k None)) (omega arith) ∙ holds);
  })

-- at the last end all rows are passed
end_of_all : (ends : List ℕ) → slice_index (0 ∷ ends) (length ends) ≡ last_end ends
end_of_all [] = refl
end_of_all (end ∷ ends) = let last : length ends ≡ length (end ∷ ends) - 1 = omega arith in ap (slice_index (end ∷ ends)) last

pub all_passed : (rows : List (Option Value)) (ends : List ℕ) (values : List (Option Value)) (run start : ℕ) (order : List Stretch) → IsTightCover rows ends values → run ≡ length ends
    → TrueSoFar rows ends values run start order → AreTrueStretches (truths_of rows) order
all_passed rows ends values run start order cover all so_far =
    let counted : length (truths_of rows) ≡ length rows = length-map rows is_true in
    let whole : start ≡ length (truths_of rows) = so_far.start_is ∙ ap (slice_index (0 ∷ ends)) all ∙ end_of_all ends ∙ cover.exact.stop ∙ sym counted in
    record {
      places = so_far.places ∙ ap (first_places (truths_of rows)) whole;
      within = rw counted so_far.within;
      filled = so_far.filled;
      apart = so_far.apart;
    }

-- the rows of the stretches of a mask are those that it selects
pub rows_selected : (rows : List (Option Value)) (bits : List Bool) (order : List Stretch) → AreTrueStretches bits order → length rows ≡ length bits → stretch_rows rows order ≡ filter_rows bits rows
rows_selected rows bits order are long =
    rows_of_places rows order (rw long are.within) ∙ ap (rows_at rows) are.places ∙ rows-places bits rows (sym long)

-- what is stored at a place, as a number
pub stored_at : {S : Type 0} (number : S → ℕ) (items : List S) (place : ℕ) (item : S) → place < length items → item ≡ get_or items place item → slice_index (map number items) place ≡ number item
stored_at number items place item within is = get_or-map number items place item 0 within ∙ ap number (sym is)
