-- The runs that are kept, as far as they have been passed.
use Rattle.std.proofs.Common.{◌≡◌, ◌↔◌, ℕ, ◌+◌, ◌-◌, ◌<◌, ◌≤◌, zero, suc, List, [], ◌∷◌, ◌++◌, Bool, true, false, Some, length, map, take, min, slice_index, arith, add-one, inl, inr, ap, refl, subst, sym, ◌∙◌, length-append}
use Rattle.std.specs.Prelude.{slice_get, slice_range, nat_lt}
use Rattle.std.proofs.lemmas.Bool.{cases_lt, lt-ltb, ltb-false, ltb-true}
use Rattle.std.proofs.lemmas.List.{length-map, length-take, take_all, map-append, append-nil}
use Rattle.std.proofs.lemmas.List.Sums.{count_by-le-length}
use Rattle.std.specs.List.Sorted.{IsStrictlyIncreasing}
use Rattle.column_ops.specs.Filter.{filter_rows}
use Rattle.runend_windows.proofs.Lists.{slice_get-append}
use Rattle.runend_select.specs.KeptRuns.{AreKept, HasSelectedRow, selected_before}
use Rattle.runend_select.proofs.Reached.{reached, reached-le, reached-from_run, reached-past_run, run_at-reached}
use Rattle.runend_select.proofs.Selected.{IsSetIn-counted, counted-IsSetIn, filter_rows-append, set_bits, set_bits-split, set_within}

-- of the first k runs: how many rows they reach and how many of these are selected, which runs are kept, and their new ends
pub record KeptSoFar (ends : List ℕ) (offset count : ℕ) (bits : List Bool) (k passed selected : ℕ) (kept : List Bool) (kept_ends : List ℕ) : Type 0 where
  pub passed_is : passed ≡ reached ends offset count k
  pub selected_is : selected ≡ set_bits (take passed bits)
  pub paired : length kept ≡ k
  pub each : (run : ℕ) → run < k → (slice_get kept run ≡ Some true) ↔ HasSelectedRow ends offset bits run
  pub counted : kept_ends ≡ filter_rows kept (map (selected_before bits offset) (take k ends))

pub KeptSoFar-none : (ends : List ℕ) (offset count : ℕ) (bits : List Bool) → KeptSoFar ends offset count bits 0 0 0 [] []
KeptSoFar-none ends offset count bits = record {
  passed_is = refl;
  selected_is = refl;
  paired = refl;
  each = λ run h. absurd (omega arith);
  counted = refl;
}

-- an item that is pushed
slice_get-push : {B : Type 0} (xs : List B) (x : B) (k : ℕ) → k ≡ length xs → slice_get (xs ++ x ∷ []) k ≡ Some x
slice_get-push [] x zero h = refl
slice_get-push [] x (suc k) h = cc
slice_get-push (y ∷ xs) x zero h = cc
slice_get-push (y ∷ xs) x (suc k) h = slice_get-push xs x k (omega arith)

-- the first items and one more
take-next : (xs : List ℕ) (k : ℕ) → k < length xs → take (k + 1) xs ≡ take k xs ++ slice_index xs k ∷ []
take-next xs k h = rw add-one (next xs k h)
  where
    next : (xs : List ℕ) (k : ℕ) → k < length xs → take (suc k) xs ≡ take k xs ++ slice_index xs k ∷ []
    next [] k h = absurd (omega arith)
    next (x ∷ xs) zero h = refl
    next (x ∷ xs) (suc k) h = ap (λ ys. x ∷ ys) (next xs k (omega arith))

-- a run has a selected row exactly where one of its rows counts
pub HasSelectedRow-counted : (ends : List ℕ) (offset count : ℕ) (bits : List Bool) (k passed reach : ℕ) → IsStrictlyIncreasing ends → length bits ≡ count → k < length ends
    → passed ≡ reached ends offset count k → reach ≡ min (slice_index ends k - offset) count → 0 < set_bits (slice_range bits passed reach) → HasSelectedRow ends offset bits k
HasSelectedRow-counted ends offset count bits k passed reach increasing long within passed_is reach_is some =
    let ordered = reached-le ends offset count k increasing within in
    let row = IsSetIn-counted bits passed reach (omega arith) (omega arith) some in
    let low = row.low in
    let high = row.high in
    record {
      row = row.place;
      selected = row.set;
      holds = run_at-reached ends offset count k row.place increasing within (omega arith) (omega arith);
    }

pub counted-HasSelectedRow : (ends : List ℕ) (offset count : ℕ) (bits : List Bool) (k passed reach : ℕ) → length bits ≡ count → k < length ends
    → passed ≡ reached ends offset count k → reach ≡ min (slice_index ends k - offset) count → HasSelectedRow ends offset bits k → 0 < set_bits (slice_range bits passed reach)
counted-HasSelectedRow ends offset count bits k passed reach long within passed_is reach_is has =
    let inside : has.row < count = let h = set_within bits has.row has.selected in omega arith in
    let from = reached-from_run ends offset count k has.row inside has.holds in
    let to = reached-past_run ends offset count k has.row within inside has.holds in
    counted-IsSetIn bits passed reach (record { place = has.row; low = omega arith; high = omega arith; set = has.selected })

-- the next run reaches no fewer rows
pub passed-le : (ends : List ℕ) (offset count : ℕ) (bits : List Bool) (k passed selected : ℕ) (kept : List Bool) (kept_ends : List ℕ) (reach : ℕ)
    → IsStrictlyIncreasing ends → k < length ends → KeptSoFar ends offset count bits k passed selected kept kept_ends → reach ≡ min (slice_index ends k - offset) count → passed ≤ reach
passed-le ends offset count bits k passed selected kept kept_ends reach increasing within old reach_is =
    let le = reached-le ends offset count k increasing within in
    let is = old.passed_is in
    omega arith

module _ (ends : List ℕ) (offset count : ℕ) (bits : List Bool) (k passed selected : ℕ) (kept : List Bool) (kept_ends : List ℕ) (reach more : ℕ)
    (increasing : IsStrictlyIncreasing ends) (long : length bits ≡ count) (within : k < length ends) (old : KeptSoFar ends offset count bits k passed selected kept kept_ends)
    (reach_is : reach ≡ min (slice_index ends k - offset) count) (more_is : more ≡ set_bits (slice_range bits passed reach)) where
  ordered : passed ≤ reach
  ordered = passed-le ends offset count bits k passed selected kept kept_ends reach increasing within old reach_is

  -- the run has a selected row exactly where it adds some
  found : 0 < more → HasSelectedRow ends offset bits k
  found some = HasSelectedRow-counted ends offset count bits k passed reach increasing long within old.passed_is reach_is (omega arith)

  adds : HasSelectedRow ends offset bits k → 0 < more
  adds has = let counted = counted-HasSelectedRow ends offset count bits k passed reach long within old.passed_is reach_is has in omega arith

  -- how many rows are selected up to the end of the run
  up_to : selected_before bits offset (slice_index ends k) ≡ selected + more
  up_to =
      let split = set_bits-split bits passed reach ordered in
      let is = old.selected_is in
      let same : take (slice_index ends k - offset) bits ≡ take reach bits = elim (cases_lt (slice_index ends k - offset) count) [
        | inl less ↦ let e : slice_index ends k - offset ≡ reach = omega arith in ap (λ (n : ℕ). take n bits) e
        | inr all ↦ take_all (slice_index ends k - offset) bits (omega arith) ∙ sym (take_all reach bits (omega arith))
      ] in
      let counted = ap set_bits same in
      omega arith

  pub selected_next : selected + more ≡ set_bits (take reach bits)
  selected_next = let split = set_bits-split bits passed reach ordered in let is = old.selected_is in omega arith

  -- no more rows are selected than the run's end says
  pub selected_within : selected + more ≤ slice_index ends k
  selected_within =
      let next = selected_next in
      let few = count_by-le-length (λ (b : Bool). b) (take reach bits) in
      let short = length-take reach bits in
      omega arith

  -- nor than there are rows
  pub selected_counted : selected + more ≤ count
  selected_counted =
      let next = selected_next in
      let few = count_by-le-length (λ (b : Bool). b) (take reach bits) in
      let short = length-take reach bits in
      omega arith

  each_next : (b : Bool) → ((b ≡ true) ↔ (0 < more)) → (run : ℕ) → run < k + 1 → (slice_get (kept ++ b ∷ []) run ≡ Some true) ↔ HasSelectedRow ends offset bits run
  each_next b says run h =
      let paired = old.paired in
      elim (cases_lt run k) [
        | inl before ↦ rw (slice_get-append kept (b ∷ []) run (omega arith)) (old.each run before)
        | inr last ↦
            let here : run ≡ k = omega arith in
            let read = slice_get-push kept b run (omega arith) in
            rw (read, here) (
              (λ set. found (says.0 (let e : Some b ≡ Some true = set in cc))),
              (λ has. ap Some (says.1 (adds has))),
            )
      ]

  counts_next : (b : Bool) → filter_rows (kept ++ b ∷ []) (map (selected_before bits offset) (take (k + 1) ends)) ≡ kept_ends ++ filter_rows (b ∷ []) ((selected + more) ∷ [])
  counts_next b =
      let paired = old.paired in
      let size = length-map (take k ends) (selected_before bits offset) in
      let part = length-take k ends in
      rw (take-next ends k within, map-append (selected_before bits offset) (take k ends) (slice_index ends k ∷ []), up_to, old.counted)
      (filter_rows-append kept (b ∷ []) (map (selected_before bits offset) (take k ends)) ((selected + more) ∷ []) (omega arith))

  pub KeptSoFar-kept : (b : Bool) → b ≡ nat_lt 0 more → 0 < more → KeptSoFar ends offset count bits (k + 1) reach (selected + more) (kept ++ b ∷ []) (kept_ends ++ (selected + more) ∷ [])
  KeptSoFar-kept b is some =
      let yes : b ≡ true = is ∙ lt-ltb 0 more some in
      record {
        passed_is = rw add-one reach_is;
        selected_is = selected_next;
        paired = let l = length-append kept (b ∷ []) in let p = old.paired in omega arith;
        each = each_next b ((λ _. some), (λ _. yes));
        counted = sym (counts_next b ∙ ap (λ (t : Bool). kept_ends ++ filter_rows (t ∷ []) ((selected + more) ∷ [])) yes);
      }

  pub KeptSoFar-skipped : (b : Bool) → b ≡ nat_lt 0 more → more ≡ 0 → KeptSoFar ends offset count bits (k + 1) reach selected (kept ++ b ∷ []) kept_ends
  KeptSoFar-skipped b is none =
      let no : b ≡ false = is ∙ ap (nat_lt 0) none in
      record {
        passed_is = rw add-one reach_is;
        selected_is = let e = selected_next in omega arith;
        paired = let l = length-append kept (b ∷ []) in let p = old.paired in omega arith;
        each = each_next b ((λ yes. absurd (let e : true ≡ false = sym yes ∙ no in cc)), (λ some. absurd (omega arith)));
        counted = sym (counts_next b ∙ ap (λ (t : Bool). kept_ends ++ filter_rows (t ∷ []) ((selected + more) ∷ [])) no ∙ append-nil kept_ends);
      }

  -- the same by how many rows are selected up to where the run reaches
  pub KeptSoFar-kept_to : (b : Bool) (total : ℕ) → total ≡ selected + more → b ≡ nat_lt 0 more → 0 < more
      → KeptSoFar ends offset count bits (k + 1) (reached ends offset count (k + 1)) total (kept ++ b ∷ []) (kept_ends ++ total ∷ [])
  KeptSoFar-kept_to b total all is some =
      let next = KeptSoFar-kept b is some in
      subst (λ (p : ℕ). KeptSoFar ends offset count bits (k + 1) p total (kept ++ b ∷ []) (kept_ends ++ total ∷ [])) next.passed_is
      (subst (λ (n : ℕ). KeptSoFar ends offset count bits (k + 1) reach n (kept ++ b ∷ []) (kept_ends ++ n ∷ [])) (sym all) next)

  pub KeptSoFar-skipped_to : (b : Bool) (total : ℕ) → total ≡ selected + more → b ≡ nat_lt 0 more → more ≡ 0
      → KeptSoFar ends offset count bits (k + 1) (reached ends offset count (k + 1)) total (kept ++ b ∷ []) kept_ends
  KeptSoFar-skipped_to b total all is none =
      let next = KeptSoFar-skipped b is none in
      let same : selected ≡ total = omega arith in
      subst (λ (p : ℕ). KeptSoFar ends offset count bits (k + 1) p total (kept ++ b ∷ []) kept_ends) next.passed_is
      (subst (λ (n : ℕ). KeptSoFar ends offset count bits (k + 1) reach n (kept ++ b ∷ []) kept_ends) same next)

  -- so it is whichever of the two is done
  pub KeptSoFar-next : (b : Bool) (total : ℕ) (next : List ℕ) → total ≡ selected + more → b ≡ nat_lt 0 more → (b ≡ true → next ≡ kept_ends ++ total ∷ []) → (b ≡ false → next ≡ kept_ends)
      → KeptSoFar ends offset count bits (k + 1) (reached ends offset count (k + 1)) total (kept ++ b ∷ []) next
  KeptSoFar-next true total next all is pushed left =
      subst (λ (es : List ℕ). KeptSoFar ends offset count bits (k + 1) (reached ends offset count (k + 1)) total (kept ++ true ∷ []) es) (sym (pushed refl))
      (KeptSoFar-kept_to true total all is (ltb-true 0 more (sym is)))
  KeptSoFar-next false total next all is pushed left =
      subst (λ (es : List ℕ). KeptSoFar ends offset count bits (k + 1) (reached ends offset count (k + 1)) total (kept ++ false ∷ []) es) (sym (left refl))
      (let few = ltb-false 0 more (sym is) in KeptSoFar-skipped_to false total all is (omega arith))

-- once all runs have been passed
pub AreKept-all : (ends : List ℕ) (offset count : ℕ) (bits : List Bool) (k passed selected : ℕ) (kept : List Bool) (kept_ends : List ℕ) → k ≡ length ends
    → KeptSoFar ends offset count bits k passed selected kept kept_ends → AreKept ends offset bits kept kept_ends
AreKept-all ends offset count bits k passed selected kept kept_ends all so_far = record {
  paired = so_far.paired ∙ all;
  each = λ run h. so_far.each run (omega arith);
  counted = so_far.counted ∙ ap (λ (es : List ℕ). filter_rows kept (map (selected_before bits offset) es)) (take_all k ends (omega arith));
}
