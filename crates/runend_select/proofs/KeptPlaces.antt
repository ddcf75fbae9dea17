-- The places of the runs that are kept, as far as they have been passed.
use Rattle.std.proofs.Common.{◌≡◌, ◌↔◌, ◌∙◌, ℕ, ◌+◌, ◌-◌, ◌<◌, ◌≤◌, zero, suc, List, [], ◌∷◌, ◌++◌, Bool, true, false, cond, Some, length, get_or, min, slice_index, arith, inl, inr, ap, refl, subst, sym, length-append}
use Rattle.std.specs.Prelude.{All, Contains, filter, nat_lt, slice_get, slice_index_or, slice_range}
use Rattle.std.specs.List.{range_with_len}
use Rattle.std.specs.List.Sorted.{IsStrictlyIncreasing}
use Rattle.std.proofs.lemmas.Bool.{cases_lt}
use Rattle.std.proofs.lemmas.List.{append-nil, ext_get_or, map-id}
use Rattle.std.proofs.lemmas.List.Elements.{All-contains, Contains-append_left, Contains-push, filter_passes}
use Rattle.std.proofs.lemmas.List.FromFn.{filter_of_map_range_with_len_more, get_or-range_with_len, length-range_with_len}
use Rattle.std.proofs.lemmas.List.Kept.{IsStrictlyIncreasing-filter}
use Rattle.std.proofs.lemmas.Option.{slice_get-get_or}
use Rattle.column_base.specs.Bits.{set_indices_of}
use Rattle.runend_column.proofs.SetPlaces.{within-places}
use Rattle.runend_select.specs.KeptRuns.{AreKept, AreKeptAt}
use Rattle.runend_select.proofs.KeptSoFar.{KeptSoFar, KeptSoFar-next, KeptSoFar-none, AreKept-all}
use Rattle.runend_select.proofs.Reached.{reached}
use Rattle.runend_select.proofs.Selected.{set_bits}

-- the places of the true bits among the first n
module _ (bits : List Bool) where
  abbrev pub test : ℕ → Bool
  test i = slice_index_or bits i false

  abbrev pub first_places : ℕ → List ℕ
  first_places n = filter test (range_with_len 0 n)

  pub places-more : (k : ℕ) → first_places (k + 1) ≡ first_places k ++ cond (test k) (k ∷ []) []
  places-more k =
      ap (filter test) (sym (map-id (range_with_len 0 (k + 1))))
      ∙ filter_of_map_range_with_len_more test (λ (i : ℕ). i) 0 k k (omega arith)
      ∙ ap (λ (ks : List ℕ). filter test ks ++ cond (test k) (k ∷ []) []) (map-id (range_with_len 0 k))

  -- a true bit's place is among them
  has-place : (place n : ℕ) → place < n → test place ≡ true → Contains (first_places n) place
  has-place place zero h set = absurd (omega arith)
  has-place place (suc n) h set =
      let next : n + 1 ≡ suc n = omega arith in
      subst (λ (k : ℕ). Contains (first_places k) place) next (rw (places-more n) (elim (cases_lt place n) [
        | inl before ↦ Contains-append_left (first_places n) (cond (test n) (n ∷ []) []) place (has-place place n before set)
        | inr last ↦
            let here : n ≡ place = omega arith in
            let told : test n ≡ true = ap test here ∙ set in
            rw told (subst (λ (k : ℕ). Contains (first_places n ++ n ∷ []) k) here (Contains-push (first_places n) n))
      ]))

  pub Contains-place : (place : ℕ) → place < length bits → (Contains (set_indices_of bits) place) ↔ (slice_get bits place ≡ Some true)
  Contains-place place within = (
    (λ has. slice_get-get_or bits place false within ∙ ap Some (All-contains (λ i. test i ≡ true) (set_indices_of bits) place (filter_passes test (range_with_len 0 (length bits))) has)),
    (λ set. has-place place (length bits) within (let read = slice_get-get_or bits place false within in let same : Some (test place) ≡ Some true = sym read ∙ set in cc)),
  )

-- they ascend
pub places-ascend : (bits : List Bool) → IsStrictlyIncreasing (set_indices_of bits)
places-ascend bits = IsStrictlyIncreasing-filter (λ i. slice_index_or bits i false) (range_with_len 0 (length bits)) (λ k h.
    let long = length-range_with_len 0 (length bits) in
    let here = get_or-range_with_len 0 (length bits) k 0 (omega arith) in
    let next = get_or-range_with_len 0 (length bits) (k + 1) 0 (omega arith) in
    omega arith)

-- bits that are true at the same places are the same
pub bits-of_places : (mask kept : List Bool) (runs : ℕ) → length mask ≡ runs → length kept ≡ runs
    → ((run : ℕ) → run < runs → (slice_get mask run ≡ Some true) ↔ Contains (set_indices_of kept) run) → mask ≡ kept
bits-of_places mask kept runs long paired says = ext_get_or false mask kept (long ∙ sym paired) (λ run h.
    let set = says run (omega arith) in
    let has = Contains-place kept run (omega arith) in
    let mine = slice_get-get_or mask run false h in
    let own = slice_get-get_or kept run false (omega arith) in
    same (get_or mask run false) (get_or kept run false)
    (λ (yes : get_or mask run false ≡ true). let read = own in let told = has.0 (set.0 (mine ∙ ap Some yes)) in let e : Some (get_or kept run false) ≡ Some true = sym read ∙ told in cc)
    (λ (yes : get_or kept run false ≡ true). let read = mine in let told = set.1 (has.1 (own ∙ ap Some yes)) in let e : Some (get_or mask run false) ≡ Some true = sym read ∙ told in cc))
  where
    same : (a b : Bool) → (a ≡ true → b ≡ true) → (b ≡ true → a ≡ true) → a ≡ b
    same true b to from = sym (to refl)
    same false true to from = from refl
    same false false to from = refl

-- the bit of one place is not changed by one more after the last
test-before : (bits : List Bool) (b : Bool) (i : ℕ) → i < length bits → get_or (bits ++ b ∷ []) i false ≡ get_or bits i false
test-before [] b i h = absurd (omega arith)
test-before (x ∷ bits) b zero h = refl
test-before (x ∷ bits) b (suc i) h = test-before bits b i (omega arith)

test-last : (bits : List Bool) (b : Bool) → get_or (bits ++ b ∷ []) (length bits) false ≡ b
test-last [] b = refl
test-last (x ∷ bits) b = test-last bits b

places-before : (bits : List Bool) (b : Bool) (k : ℕ) → k ≤ length bits → first_places (bits ++ b ∷ []) k ≡ first_places bits k
places-before bits b zero h = refl
places-before bits b (suc k) h =
    let next : k + 1 ≡ suc k = omega arith in
    subst (λ (n : ℕ). first_places (bits ++ b ∷ []) n ≡ first_places bits n) next
    (places-more (bits ++ b ∷ []) k ∙ ap (λ (ks : List ℕ). ks ++ cond (get_or (bits ++ b ∷ []) k false) (k ∷ []) []) (places-before bits b k (omega arith))
    ∙ ap (λ (t : Bool). first_places bits k ++ cond t (k ∷ []) []) (test-before bits b k (omega arith)) ∙ sym (places-more bits k))

-- one bit more adds its place where it is true
pub places-push : (bits : List Bool) (b : Bool) → set_indices_of (bits ++ b ∷ []) ≡ set_indices_of bits ++ cond b (length bits ∷ []) []
places-push bits b =
    let long : length (bits ++ b ∷ []) ≡ length bits + 1 = length-append bits (b ∷ []) in
    ap (first_places (bits ++ b ∷ [])) long ∙ places-more (bits ++ b ∷ []) (length bits)
    ∙ ap (λ (ks : List ℕ). ks ++ cond (get_or (bits ++ b ∷ []) (length bits) false) (length bits ∷ []) []) (places-before bits b (length bits) (omega arith))
    ∙ ap (λ (t : Bool). set_indices_of bits ++ cond t (length bits ∷ []) []) (test-last bits b)

-- of the first k runs: how many rows are selected, the places of the kept ones, and their ends
pub record KeptTo (ends : List ℕ) (offset count : ℕ) (bits : List Bool) (k selected : ℕ) (places kept_ends : List ℕ) : Type 0 where
  pub kept : List Bool
  pub so_far : KeptSoFar ends offset count bits k (reached ends offset count k) selected kept kept_ends
  pub placed : places ≡ set_indices_of kept

pub KeptTo-none : (ends : List ℕ) (offset count : ℕ) (bits : List Bool) → KeptTo ends offset count bits 0 0 [] []
KeptTo-none ends offset count bits = record { kept = []; so_far = KeptSoFar-none ends offset count bits; placed = refl }

-- one run more
pub KeptTo-next : (ends : List ℕ) (offset count : ℕ) (bits : List Bool) (k selected : ℕ) (places kept_ends : List ℕ) (reach more total : ℕ) (next_places next_ends : List ℕ)
    → IsStrictlyIncreasing ends → length bits ≡ count → k < length ends → KeptTo ends offset count bits k selected places kept_ends
    → reach ≡ min (slice_index ends k - offset) count → more ≡ set_bits (slice_range bits (reached ends offset count k) reach) → total ≡ selected + more
    → (nat_lt 0 more ≡ true → next_ends ≡ kept_ends ++ total ∷ []) → (nat_lt 0 more ≡ false → next_ends ≡ kept_ends)
    → (nat_lt 0 more ≡ true → next_places ≡ places ++ k ∷ []) → (nat_lt 0 more ≡ false → next_places ≡ places)
    → KeptTo ends offset count bits (k + 1) total next_places next_ends
KeptTo-next ends offset count bits k selected places kept_ends reach more total next_places next_ends increasing long within old reach_is more_is all ends_pushed ends_left pushed left =
    let b = nat_lt 0 more in
    record {
      kept = old.kept ++ b ∷ [];
      so_far = KeptSoFar-next ends offset count bits k (reached ends offset count k) selected old.kept kept_ends reach more increasing long within old.so_far reach_is more_is b total next_ends all refl ends_pushed ends_left;
      placed = one b refl ∙ sym (places-push old.kept b);
    }
  where
    one : (b : Bool) → nat_lt 0 more ≡ b → next_places ≡ set_indices_of old.kept ++ cond b (length old.kept ∷ []) []
    one true is_kept = pushed is_kept ∙ ap (λ (ks : List ℕ). ks ++ k ∷ []) old.placed ∙ ap (λ (n : ℕ). set_indices_of old.kept ++ n ∷ []) (sym old.so_far.paired)
    one false is_left = left is_left ∙ old.placed ∙ sym (append-nil (set_indices_of old.kept))

-- once all runs have been passed
pub AreKeptAt-all : (ends : List ℕ) (offset count : ℕ) (bits : List Bool) (k selected : ℕ) (places kept_ends : List ℕ) → k ≡ length ends
    → KeptTo ends offset count bits k selected places kept_ends → AreKeptAt ends offset bits places kept_ends
AreKeptAt-all ends offset count bits k selected places kept_ends all to = record {
  kept = to.kept;
  are = AreKept-all ends offset count bits k (reached ends offset count k) selected to.kept kept_ends all to.so_far;
  placed = to.placed;
}

-- they ascend, and each is a run
pub AreKeptAt-ascend : (ends : List ℕ) (offset : ℕ) (bits : List Bool) (places kept_ends : List ℕ) → AreKeptAt ends offset bits places kept_ends → IsStrictlyIncreasing places
AreKeptAt-ascend ends offset bits places kept_ends found = subst IsStrictlyIncreasing (sym found.placed) (places-ascend found.kept)

pub AreKeptAt-within : (ends : List ℕ) (offset : ℕ) (bits : List Bool) (places kept_ends : List ℕ) (runs : ℕ) → runs ≡ length ends → AreKeptAt ends offset bits places kept_ends
    → All (λ place. place < runs) places
AreKeptAt-within ends offset bits places kept_ends runs counted found =
    subst (λ (n : ℕ). All (λ place. place < n) places) (found.are.paired ∙ sym counted) (within-places found.kept places found.placed)

-- the mask that is true at these places keeps these runs
pub AreKept-masked : (ends : List ℕ) (offset : ℕ) (bits : List Bool) (places kept_ends : List ℕ) (mask : List Bool) (runs : ℕ) → runs ≡ length ends → length mask ≡ runs
    → ((run : ℕ) → run < runs → (slice_get mask run ≡ Some true) ↔ Contains places run) → AreKeptAt ends offset bits places kept_ends → AreKept ends offset bits mask kept_ends
AreKept-masked ends offset bits places kept_ends mask runs counted long says found =
    let paired : length found.kept ≡ runs = found.are.paired ∙ sym counted in
    let same = bits-of_places mask found.kept runs long paired (λ run h. subst (λ (ks : List ℕ). (slice_get mask run ≡ Some true) ↔ Contains ks run) found.placed (says run h)) in
    subst (λ (kept : List Bool). AreKept ends offset bits kept kept_ends) (sym same) found.are
