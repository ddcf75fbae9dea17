-- Lemmas on lists of bits.
use Rattle.std.proofs.Common.{◌≡◌, ◌≢◌, ◌+◌, ◌-◌, ◌<◌, ◌≤◌, ◌∙◌, ℕ, suc, List, [], ◌∷◌, ◌++◌, Bool, true, false, cond, length, take, drop, set, refl, sym, ap, arith, get_or, add-one, ⊎_elim}
use Rattle.std.specs.Prelude.{◌↔◌, replicate, count_by, slice_range, All, Contains}
use Rattle.std.proofs.lemmas.Bool.{cases_eq}
use Rattle.std.proofs.lemmas.List.{set_split, get_or-set_same, get_or-set_other, take_more, length-drop}
use Rattle.std.proofs.lemmas.List.Elements.{All-head, All-tail, All-same, All-replicate, Contains-push, Contains-push_cases, Contains-append_left}
use Rattle.std.proofs.lemmas.List.Sums.{count_by-le-length, count_by_more_no, count_by_more_yes, sum_by-cons, sum_by-take-drop}

-- a true bit in front counts
pub count_by-true : (bits : List Bool) → count_by (λ b. b) (true ∷ bits) ≡ 1 + count_by (λ b. b) bits
count_by-true bits = sum_by-cons (λ (b : Bool). cond b 1 0) true bits

-- a false bit in front does not
pub count_by-false : (bits : List Bool) → count_by (λ b. b) (false ∷ bits) ≡ 0 + count_by (λ b. b) bits
count_by-false bits = sum_by-cons (λ (b : Bool). cond b 1 0) false bits

-- bits that all count are all true
pub all_set : (bits : List Bool) → count_by (λ b. b) bits ≡ length bits → replicate (length bits) true ≡ bits
all_set [] h = refl
all_set (true ∷ bits) h = ap (λ bs. true ∷ bs) (all_set bits (omega (arith, count_by-true bits)))
all_set (false ∷ bits) h = absurd (omega (arith, count_by-false bits, count_by-le-length (λ (b : Bool). b) bits))

-- bits of which none counts are all false
pub none_set : (bits : List Bool) → count_by (λ b. b) bits ≡ 0 → replicate (length bits) false ≡ bits
none_set [] h = refl
none_set (true ∷ bits) h = absurd (omega (arith, count_by-true bits))
none_set (false ∷ bits) h = ap (λ bs. false ∷ bs) (none_set bits (omega (arith, count_by-false bits)))

-- where all bits are true, each counts
pub count_by-all_true : (bits : List Bool) → All (λ b. b ≡ true) bits → count_by (λ b. b) bits ≡ length bits
count_by-all_true [] h = refl
count_by-all_true (true ∷ bits) h =
    omega (arith, count_by-true bits, count_by-all_true bits (All-tail (λ b. b ≡ true) true bits h))
count_by-all_true (false ∷ bits) h =
    let first : false ≡ true = All-head (λ b. b ≡ true) false bits h in cc

-- where all bits are false, none counts
pub count_by-all_false : (bits : List Bool) → All (λ b. b ≡ false) bits → count_by (λ b. b) bits ≡ 0
count_by-all_false [] h = refl
count_by-all_false (true ∷ bits) h =
    let first : true ≡ false = All-head (λ b. b ≡ false) true bits h in cc
count_by-all_false (false ∷ bits) h =
    omega (arith, count_by-false bits, count_by-all_false bits (All-tail (λ b. b ≡ false) false bits h))

-- where one bit counts, there is a true bit
pub Contains-true : (bits : List Bool) → 0 < count_by (λ b. b) bits → Contains bits true
Contains-true [] h = absurd (omega arith)
Contains-true (true ∷ bits) h = (0, omega arith, refl)
Contains-true (false ∷ bits) h =
    let rest = Contains-true bits (omega (arith, count_by-false bits)) in
    (suc rest.0, omega (arith, rest.1), rest.2)

-- where one bit does not count, there is a false bit
pub Contains-false : (bits : List Bool) → count_by (λ b. b) bits < length bits → Contains bits false
Contains-false [] h = absurd (omega arith)
Contains-false (true ∷ bits) h =
    let rest = Contains-false bits (omega (arith, count_by-true bits)) in
    (suc rest.0, omega (arith, rest.1), rest.2)
Contains-false (false ∷ bits) h = (0, omega arith, refl)

-- a range of one bit that is filled is that one bit, set
pub fill_one : (bits : List Bool) (i : ℕ) (b : Bool) → i < length bits → take i bits ++ (replicate (i + 1 - i) b ++ drop (i + 1) bits) ≡ set bits i b
fill_one bits i b h =
    let one : i + 1 - i ≡ 1 = omega arith in
    rw (one, add-one i) (sym (set_split bits i b h))

-- bits that all count are all true, each at its place
pub All-true : (bits : List Bool) → count_by (λ b. b) bits ≡ length bits → All (λ b. b ≡ true) bits
All-true bits h =
    All-same (λ b. b ≡ true) bits (replicate (length bits) true) (sym (all_set bits h)) (All-replicate (λ b. b ≡ true) (length bits) true refl)

-- a place that was just set is a true bit, and is in the list of places
selected_here : (bits : List Bool) (places : List ℕ) (i k : ℕ) → i < length bits → k ≡ i → (get_or (set bits i true) k false ≡ true) ↔ Contains (places ++ i ∷ []) k
selected_here bits places i k within same =
    (λ _. rw same (Contains-push places i), λ _. rw same (get_or-set_same bits i true false within))

-- another place is as it was
selected_elsewhere : (bits : List Bool) (places : List ℕ) (i k : ℕ) → (get_or bits k false ≡ true) ↔ Contains places k → k ≢ i → (get_or (set bits i true) k false ≡ true) ↔ Contains (places ++ i ∷ []) k
selected_elsewhere bits places i k before other =
    let same : get_or (set bits i true) k false ≡ get_or bits k false = get_or-set_other bits i k true false other in (
      λ is_set. Contains-append_left places (i ∷ []) k (before.0 (sym same ∙ is_set)),
      λ member. same ∙ ⊎_elim before.1 (λ (e : i ≡ k). absurd (other (sym e))) (Contains-push_cases places i k member),
    )

-- where the true bits are those at the first n places, and the next place is set, they are those at one place more
pub selected_more : (bits : List Bool) (places : List ℕ) (n i : ℕ)
    → n < length places → get_or places n 0 ≡ i → i < length bits
    → ((k : ℕ) → k < length bits → (get_or bits k false ≡ true) ↔ Contains (take n places) k)
    → (k : ℕ) → k < length bits → (get_or (set bits i true) k false ≡ true) ↔ Contains (take (n + 1) places) k
selected_more bits places n i within place in_bits before k inside =
    let taken : take (n + 1) places ≡ take n places ++ i ∷ [] = take_more places n 0 within ∙ ap (λ p. take n places ++ p ∷ []) place in
    rw taken
    (⊎_elim
    (selected_here bits (take n places) i k in_bits)
    (selected_elsewhere bits (take n places) i k (before k inside))
    (cases_eq k i))

-- one bit more adds itself to the count
pub count_by-more : (bits : List Bool) (i : ℕ) (bit : Bool) → i < length bits → get_or bits i false ≡ bit
    → count_by (λ b. b) (take (i + 1) bits) ≡ count_by (λ b. b) (take i bits) + cond bit 1 0
count_by-more bits i true within here = count_by_more_yes (λ (b : Bool). b) bits i false within here
count_by-more bits i false within here = omega (arith, count_by_more_no (λ (b : Bool). b) bits i false within here)

-- where the first m bits are of both kinds, so are all
pub both_from_front : (bits : List Bool) (m : ℕ) → m ≤ length bits → count_by (λ b. b) (slice_range bits 0 m) < m → count_by (λ b. b) bits < length bits
both_from_front bits m within some =
    let parts : count_by (λ b. b) (slice_range bits 0 m) + count_by (λ b. b) (drop (m - 0) bits) ≡ count_by (λ b. b) bits = sum_by-take-drop (λ (b : Bool). cond b 1 0) bits (m - 0) in
    omega (arith, parts, count_by-le-length (λ (b : Bool). b) (drop (m - 0) bits), length-drop (m - 0) bits)
