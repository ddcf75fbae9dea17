-- Rows that are all the same: at positions, under a mask, and the first of them.
use Rattle.std.proofs.Common.{◌≡◌, ◌∙◌, ℕ, zero, suc, ◌+◌, ◌-◌, ◌<◌, ◌≤◌, pos, List, [], ◌∷◌, Bool, true, false, Option, Some, None, get_or, length, map, min, take, drop, replicate, refl, sym, ap, arith}
use Rattle.std.specs.Prelude.{All, IfSome, count_by, option_map, slice_range}
use Rattle.std.proofs.lemmas.List.{length-replicate}
use Rattle.std.proofs.lemmas.List.Elements.{All-cons, All-head, All-nil, All-tail}
use Rattle.column_base.proofs.BitLists.{count_by-true, count_by-false}
use Rattle.column_core.specs.Optionals.{optionals}
use Rattle.column_ops.specs.Filter.{filter_rows}
use Rattle.column_ops.specs.Take.{ArePositions, position_numbers, take_rows}

row_of : {B : Type 0} (v : Option B) (n k : ℕ) → k < n → get_or (replicate n v) k None ≡ v
row_of v zero k within = absurd (omega arith)
row_of v (suc n) zero within = refl
row_of v (suc n) (suc k) within = row_of v n k (omega arith)

-- the first of them is each of them
pub taken-constant : {B : Type 0} (v : Option B) (n : ℕ) (positions : List ℕ) (marks : List Bool) → ArePositions (optionals positions marks) n
    → take_rows (replicate (min n 1) v) (position_numbers (optionals (replicate (length positions) 0) marks)) ≡ take_rows (replicate n v) (position_numbers (optionals positions marks))
taken-constant v n [] marks within = refl
taken-constant v n (k ∷ positions) [] within = refl
taken-constant v n (k ∷ positions) (true ∷ marks) within =
    let here : k < n = All-head (λ p. IfSome p (λ j. j < n)) (Some k) (optionals positions marks) within in
    let rest = taken-constant v n positions marks (All-tail (λ p. IfSome p (λ j. j < n)) (Some k) (optionals positions marks) within) in
    ap (λ row. row ∷ take_rows (replicate (min n 1) v) (position_numbers (optionals (replicate (length positions) 0) marks))) (row_of v (min n 1) 0 (omega arith) ∙ sym (row_of v n k here))
    ∙ ap (λ rows. get_or (replicate n v) k None ∷ rows) rest
taken-constant v n (k ∷ positions) (false ∷ marks) within =
    ap (λ rows. None ∷ rows) (taken-constant v n positions marks (All-tail (λ p. IfSome p (λ j. j < n)) None (optionals positions marks) within))

-- and there is one where some position is valid
pub within-first : (n : ℕ) (positions : List ℕ) (marks : List Bool) → ArePositions (optionals positions marks) n → ArePositions (optionals (replicate (length positions) 0) marks) (min n 1)
within-first n [] marks within = All-nil (λ p. IfSome p (λ j. j < min n 1))
within-first n (k ∷ positions) [] within = All-nil (λ p. IfSome p (λ j. j < min n 1))
within-first n (k ∷ positions) (true ∷ marks) within =
    let here : k < n = All-head (λ p. IfSome p (λ j. j < n)) (Some k) (optionals positions marks) within in
    let first : 0 < min n 1 = omega arith in
    All-cons (λ p. IfSome p (λ j. j < min n 1)) (Some 0) (optionals (replicate (length positions) 0) marks) first
    (within-first n positions marks (All-tail (λ p. IfSome p (λ j. j < n)) (Some k) (optionals positions marks) within))
within-first n (k ∷ positions) (false ∷ marks) within =
    All-cons (λ p. IfSome p (λ j. j < min n 1)) None (optionals (replicate (length positions) 0) marks) tt
    (within-first n positions marks (All-tail (λ p. IfSome p (λ j. j < n)) None (optionals positions marks) within))

-- a mask leaves as many as it has true bits
pub selected-constant : {B : Type 0} (v : B) (n : ℕ) (bits : List Bool) → length bits ≡ n → filter_rows bits (replicate n v) ≡ replicate (count_by (λ b. b) bits) v
selected-constant v n [] masked = refl
selected-constant v zero (b ∷ bits) masked = cc
selected-constant v (suc n) (true ∷ bits) masked =
    let more : count_by (λ b. b) (true ∷ bits) ≡ suc (count_by (λ b. b) bits) = omega (arith, count_by-true bits) in
    rw more (ap (λ rows. v ∷ rows) (selected-constant v n bits (omega arith)))
selected-constant v (suc n) (false ∷ bits) masked =
    let same : count_by (λ b. b) (false ∷ bits) ≡ count_by (λ b. b) bits = omega (arith, count_by-false bits) in
    rw same (selected-constant v n bits (omega arith))

take-first : {B : Type 0} (v : B) (n k : ℕ) → k ≤ n → take k (replicate n v) ≡ replicate k v
take-first v n zero within = refl
take-first v zero (suc k) within = absurd (omega arith)
take-first v (suc n) (suc k) within = ap (λ rows. v ∷ rows) (take-first v n k (omega arith))

drop-zero : {B : Type 0} (rows : List B) → drop 0 rows ≡ rows
drop-zero [] = refl
drop-zero (x ∷ rows) = refl

-- the first rows
pub slice_range-constant : {B : Type 0} (v : B) (n k : ℕ) → k ≤ n → slice_range (replicate n v) 0 k ≡ replicate k v
slice_range-constant v n k within =
    let all : k - 0 ≡ k = omega arith in
    rw (drop-zero (replicate n v), all) (take-first v n k within)

-- no more bits are true than there are bits
pub few_true : (bits : List Bool) → count_by (λ b. b) bits ≤ length bits
few_true [] = omega arith
few_true (true ∷ bits) = omega (arith, count_by-true bits, few_true bits)
few_true (false ∷ bits) = omega (arith, count_by-false bits, few_true bits)
