-- The rows of a mask that are true, run by run.
use Rattle.std.proofs.Common.{◌≡◌, ◌≢◌, ◌∙◌, ℕ, ◌+◌, ◌-◌, ◌<◌, ◌≤◌, zero, suc, List, [], ◌∷◌, ◌++◌, Bool, true, false, cond, length, slice_index, get_or, take, arith, refl, sym, ap, append_assoc}
use Rattle.std.specs.Prelude.{if◌then◌else◌}
use Rattle.std.specs.List.{range_with_len}
use Rattle.std.proofs.lemmas.List.{append-nil, map-id}
use Rattle.std.proofs.lemmas.List.FromFn.{map-range_with_len_more}
use Rattle.runend_select.specs.MaskRuns.{AreMaskRuns, before_at}
use Rattle.runend_select.proofs.KeptPlaces.{first_places, places-more}
use Rattle.runend_select.proofs.MaskRuns.{before_at-next, same_bits}
use Rattle.runend_select.proofs.Selected.{set_bits, set_bits-split}

pub range-more : (start n : ℕ) → range_with_len start (n + 1) ≡ range_with_len start n ++ (start + n) ∷ []
range-more start n =
    sym (map-id (range_with_len start (n + 1))) ∙ map-range_with_len_more (λ (i : ℕ). i) start n (start + n) refl
    ∙ ap (λ (ks : List ℕ). ks ++ (start + n) ∷ []) (map-id (range_with_len start n))

bit_none : (b : Bool) (x : ℕ) → x + (if b then 1 else 0) ≡ x → b ≡ false
bit_none true x h = absurd (omega (arith, h))
bit_none false x h = refl

bit_one : (b : Bool) (x : ℕ) → x + (if b then 1 else 0) ≡ x + 1 → b ≡ true
bit_one true x h = refl
bit_one false x h = absurd (omega (arith, h))

module _ (bits : List Bool) where
  count_more : (k : ℕ) → k < length bits → set_bits (take (k + 1) bits) ≡ set_bits (take k bits) + (if get_or bits k false then 1 else 0)
  count_more k h =
      let split = set_bits-split bits k (k + 1) (omega arith) in
      let one : k + 1 - k ≡ 1 = omega arith in
      let same = same_bits bits k (k + 1) (get_or bits k false) (omega arith) (omega (arith, h)) (λ i from to. ap (λ (n : ℕ). get_or bits n false) (omega arith)) in
      split ∙ ap (λ (n : ℕ). set_bits (take k bits) + n) (same ∙ ap (λ (n : ℕ). if get_or bits k false then n else 0) one)

  -- where no row more is true
  places_none : (start n : ℕ) → start + n ≤ length bits → ((i : ℕ) → i ≤ n → set_bits (take (start + i) bits) ≡ set_bits (take start bits)) → first_places bits (start + n) ≡ first_places bits start
  places_none start zero within none = ap (first_places bits) (omega arith)
  places_none start (suc n) within none =
      let next : start + n + 1 ≡ start + suc n = omega arith in
      let here = none n (omega arith) in
      let there : set_bits (take (start + n + 1) bits) ≡ set_bits (take start bits) = ap (λ (k : ℕ). set_bits (take k bits)) next ∙ none (suc n) (omega arith) in
      let counted = count_more (start + n) (omega arith) in
      let bit : get_or bits (start + n) false ≡ false = bit_none (get_or bits (start + n) false) (set_bits (take (start + n) bits)) (sym counted ∙ there ∙ sym here) in
      ap (first_places bits) (sym next) ∙ places-more bits (start + n)
      ∙ ap (λ (b : Bool). first_places bits (start + n) ++ cond b ((start + n) ∷ []) []) bit ∙ append-nil (first_places bits (start + n))
      ∙ places_none start n (omega arith) (λ i h. none i (omega arith))

  -- where each row is
  places_all : (start n before : ℕ) → start + n ≤ length bits → ((i : ℕ) → i ≤ n → set_bits (take (start + i) bits) ≡ before + i)
      → first_places bits (start + n) ≡ first_places bits start ++ range_with_len start n
  places_all start zero before within all = ap (first_places bits) (omega arith) ∙ sym (append-nil (first_places bits start))
  places_all start (suc n) before within all =
      let next : start + n + 1 ≡ start + suc n = omega arith in
      let more : n + 1 ≡ suc n = omega arith in
      let here = all n (omega arith) in
      let there : set_bits (take (start + n + 1) bits) ≡ before + suc n = ap (λ (k : ℕ). set_bits (take k bits)) next ∙ all (suc n) (omega arith) in
      let counted = count_more (start + n) (omega arith) in
      let bit : get_or bits (start + n) false ≡ true = bit_one (get_or bits (start + n) false) (set_bits (take (start + n) bits)) (omega (arith, counted, there, here)) in
      ap (first_places bits) (sym next) ∙ places-more bits (start + n)
      ∙ ap (λ (b : Bool). first_places bits (start + n) ++ cond b ((start + n) ∷ []) []) bit
      ∙ ap (λ (ks : List ℕ). ks ++ (start + n) ∷ []) (places_all start n before (omega arith) (λ i h. all i (omega arith)))
      ∙ append_assoc (first_places bits start) (range_with_len start n) ((start + n) ∷ [])
      ∙ ap (λ (ks : List ℕ). first_places bits start ++ ks) (sym (range-more start n) ∙ ap (range_with_len start) more)

  module _ (stops ranks : List ℕ) (runs : AreMaskRuns bits stops ranks) (run : ℕ) (there : run < length stops) (inside : slice_index stops run ≤ length bits) where
    place_of : (i : ℕ) → i ≤ slice_index stops run - before_at stops run → before_at stops run + i ≤ slice_index stops run
    place_of i h = let o = runs.ordered run there in omega arith

    whole_run : before_at stops run + (slice_index stops run - before_at stops run) ≡ slice_index stops run
    whole_run = let o = runs.ordered run there in omega arith

    pub run_none : slice_index ranks run ≡ before_at ranks run → first_places bits (slice_index stops run) ≡ first_places bits (before_at stops run)
    run_none none =
        let at = λ (i : ℕ) (h : i ≤ slice_index stops run - before_at stops run). runs.same run (before_at stops run + i) there (omega arith) (place_of i h) none in
        let first = runs.same run (before_at stops run) there (omega arith) (runs.ordered run there) none in
        ap (first_places bits) (sym whole_run)
        ∙ places_none (before_at stops run) (slice_index stops run - before_at stops run) (omega (arith, whole_run, inside)) (λ i h. at i h ∙ sym first)

    pub run_all : slice_index ranks run ≢ before_at ranks run
        → first_places bits (slice_index stops run) ≡ first_places bits (before_at stops run) ++ range_with_len (before_at stops run) (slice_index stops run - before_at stops run)
    run_all some =
        ap (first_places bits) (sym whole_run)
        ∙ places_all (before_at stops run) (slice_index stops run - before_at stops run) (before_at ranks run) (omega (arith, whole_run, inside)) (λ i h.
        runs.more run (before_at stops run + i) there (omega arith) (place_of i h) some
        ∙ ap (λ (n : ℕ). before_at ranks run + n) (omega arith))

-- one row more is appended
pub rows_pushed : (old items more : List ℕ) (start row : ℕ) → start ≤ row → items ≡ old ++ range_with_len start (row - start) → more ≡ items ++ row ∷ [] → more ≡ old ++ range_with_len start (row + 1 - start)
rows_pushed old items more start row h so_far pushed =
    let here : start + (row - start) ≡ row = omega arith in
    let size : row - start + 1 ≡ row + 1 - start = omega arith in
    pushed ∙ ap (λ (xs : List ℕ). xs ++ row ∷ []) so_far ∙ append_assoc old (range_with_len start (row - start)) (row ∷ [])
    ∙ ap (λ (xs : List ℕ). old ++ xs) (ap (λ (n : ℕ). range_with_len start (row - start) ++ n ∷ []) (sym here) ∙ sym (range-more start (row - start)) ∙ ap (range_with_len start) size)

-- no run stops past the last
stops_within : (stops : List ℕ) (n k : ℕ) → ((i : ℕ) → i < length stops → before_at stops i ≤ slice_index stops i) → k + n ≡ length stops → before_at stops k ≤ before_at stops (length stops)
stops_within stops zero k ordered is = let e = ap (before_at stops) (sym is) in let z : k + 0 ≡ k = omega arith in let f = ap (before_at stops) z in omega (arith, e, f)
stops_within stops (suc n) k ordered is =
    let rest = stops_within stops n (k + 1) ordered (omega (arith, is)) in
    let here = ordered k (omega (arith, is)) in
    omega (arith, rest, here, before_at-next stops k)

module _ (bits : List Bool) (stops ranks : List ℕ) (runs : AreMaskRuns bits stops ranks) (run : ℕ) (there : run < length stops) where
  inside : slice_index stops run ≤ length bits
  inside =
      let rest = stops_within stops (length stops - (run + 1)) (run + 1) runs.ordered (omega arith) in
      omega (arith, rest, before_at-next stops run, runs.whole)

  pub run_skipped : (start stop before rank : ℕ) (items : List ℕ) → start ≡ before_at stops run → stop ≡ slice_index stops run → before ≡ before_at ranks run → rank ≡ slice_index ranks run → rank ≡ before
      → items ≡ first_places bits start → items ≡ first_places bits stop
  run_skipped start stop before rank items start_is stop_is before_is rank_is none so_far =
      so_far ∙ ap (first_places bits) start_is ∙ sym (run_none bits stops ranks runs run there inside (sym rank_is ∙ none ∙ before_is)) ∙ ap (first_places bits) (sym stop_is)

  pub run_taken : (start stop before rank : ℕ) (items more : List ℕ) → start ≡ before_at stops run → stop ≡ slice_index stops run → before ≡ before_at ranks run → rank ≡ slice_index ranks run → rank ≢ before
      → items ≡ first_places bits start → more ≡ items ++ range_with_len start (stop - start) → more ≡ first_places bits stop
  run_taken start stop before rank items more start_is stop_is before_is rank_is some so_far pushed =
      pushed ∙ ap (λ (xs : List ℕ). xs ++ range_with_len start (stop - start)) (so_far ∙ ap (first_places bits) start_is)
      ∙ ap (λ (n : ℕ). first_places bits (before_at stops run) ++ range_with_len n (stop - n)) start_is
      ∙ ap (λ (n : ℕ). first_places bits (before_at stops run) ++ range_with_len (before_at stops run) (n - before_at stops run)) stop_is
      ∙ sym (run_all bits stops ranks runs run there inside (λ e. some (rank_is ∙ e ∙ sym before_is))) ∙ ap (first_places bits) (sym stop_is)
