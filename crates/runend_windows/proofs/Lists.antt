-- Items of lists by index, where std's lemmas want a default.
use Rattle.std.proofs.Common.{◌≡◌, ℕ, zero, suc, ◌+◌, ◌<◌, ◌≤◌, List, [], ◌∷◌, ◌++◌, Some, length, replicate, refl, arith}
use Rattle.std.specs.List.{slice_get}

-- an item of the first of two joined lists
pub slice_get-append : {A : Type 0} (xs ys : List A) (k : ℕ) → k < length xs → slice_get (xs ++ ys) k ≡ slice_get xs k
slice_get-append [] ys k h = absurd (omega arith)
slice_get-append (x ∷ xs) ys zero h = refl
slice_get-append (x ∷ xs) ys (suc k) h = slice_get-append xs ys k (omega arith)

-- each item of n copies
pub slice_get-replicate : {A : Type 0} (n k : ℕ) (x : A) → k < n → slice_get (replicate n x) k ≡ Some x
slice_get-replicate zero k x h = absurd (omega arith)
slice_get-replicate (suc n) zero x h = refl
slice_get-replicate (suc n) (suc k) x h = slice_get-replicate n k x (omega arith)

-- each item past a list that n copies follow
pub slice_get-append_copies : {A : Type 0} (xs : List A) (n k : ℕ) (x : A) → length xs ≤ k → k < length xs + n → slice_get (xs ++ replicate n x) k ≡ Some x
slice_get-append_copies [] n k x low high = slice_get-replicate n k x (omega arith)
slice_get-append_copies (y ∷ xs) n zero x low high = absurd (omega arith)
slice_get-append_copies (y ∷ xs) n (suc k) x low high = slice_get-append_copies xs n k x (omega arith) (omega arith)

-- lists of one length with the same item at each index are equal
pub equal_by_slice_get : {A : Type 0} (xs ys : List A) → length xs ≡ length ys → ((k : ℕ) → k < length xs → slice_get xs k ≡ slice_get ys k) → xs ≡ ys
equal_by_slice_get [] [] same each = refl
equal_by_slice_get [] (y ∷ ys) same each = cc
equal_by_slice_get (x ∷ xs) [] same each = cc
equal_by_slice_get (x ∷ xs) (y ∷ ys) same each =
    let first = each 0 (omega arith) in
    let rest = equal_by_slice_get xs ys (omega arith) (λ k lt. each (suc k) (omega arith)) in
    cc
