-- Lists that grow by what is left of others.
use Rattle.std.proofs.Common.{◌≡◌, ◌∙◌, ◌+◌, ◌-◌, ◌<◌, ◌≤◌, ℕ, List, [], ◌∷◌, ◌++◌, Some, drop, length, take, sym, ap, arith, append-nil, append_assoc, get_or}
use Rattle.std.specs.Prelude.{Err, Ok, OnOk, Result, replicate, slice_get, slice_range}
use Rattle.std.proofs.lemmas.List.{drop-replicate, drop_all, drop_more, length-append, length-drop, take-append-le, take_all, take_more}
use Rattle.std.proofs.lemmas.Option.{get_or_from_slice_get, slice_get_within}

-- one item more of those from the first on
pub take_next : {X : Type 0} (xs now next : List X) (k : ℕ) (default : X) → k < length xs → now ≡ take k xs → next ≡ now ++ get_or xs k default ∷ [] → next ≡ take (k + 1) xs
take_next {X} xs now next k default within before pushed = pushed ∙ ap (λ (ys : List X). ys ++ get_or xs k default ∷ []) before ∙ sym (take_more xs k default within)

-- one item more of what is left
pub rest_next : {X : Type 0} (xs now next whole : List X) (k : ℕ) (x : X) → slice_get xs k ≡ Some x → now ++ drop k xs ≡ whole → next ≡ now ++ x ∷ [] → next ++ drop (k + 1) xs ≡ whole
rest_next {X} xs now next whole k x here before pushed =
    ap (λ (ys : List X). ys ++ drop (k + 1) xs) pushed ∙ append_assoc now (x ∷ []) (drop (k + 1) xs)
    ∙ ap (λ (y : X). now ++ y ∷ drop (k + 1) xs) (sym (get_or_from_slice_get xs k x x here))
    ∙ ap (λ (ys : List X). now ++ ys) (sym (drop_more xs k x (slice_get_within xs k x here))) ∙ before

-- and nothing is left at last
pub rest_all : {X : Type 0} (xs now whole : List X) (k : ℕ) → length xs ≤ k → now ++ drop k xs ≡ whole → now ≡ whole
rest_all {X} xs now whole k past before = sym (append-nil now) ∙ ap (λ (ys : List X). now ++ ys) (sym (drop_all k xs past)) ∙ before

-- a range up to the last item is what is left from its start on
pub range_is_rest : {X : Type 0} (xs : List X) (start : ℕ) → slice_range xs start (length xs) ≡ drop start xs
range_is_rest xs start = let long = length-drop start xs in take_all (length xs - start) (drop start xs) (omega arith)

-- items after others leave those that were there
pub first_stay : {X : Type 0} (old now next more : List X) → length old ≤ length now → take (length old) now ≡ old → next ≡ now ++ more → (length old ≤ length next) × (take (length old) next ≡ old)
first_stay old now next more long first grown =
    let size = ap length grown in
    let sum = length-append now more in
    (omega arith, ap (take (length old)) grown ∙ take-append-le (length old) now more long ∙ first)

pub first_kept : {X : Type 0} (old now next : List X) → take (length old) now ≡ old → next ≡ now → take (length old) next ≡ old
first_kept old now next first same = ap (take (length old)) same ∙ first

-- copies after others are what is left of more copies
pub copies_behind : {X T E : Type 0} (result : Result T E) (now old copies : List X) (start count : ℕ) (x : X) → copies ≡ replicate count x → OnOk result (now ≡ old ++ replicate (count - start) x)
    → OnOk result (now ≡ old ++ drop start copies)
copies_behind {X} (Ok value) now old copies start count x same pushed = pushed ∙ ap (λ (xs : List X). old ++ xs) (sym (ap (drop start) same ∙ drop-replicate start count x))
copies_behind (Err error) now old copies start count x same pushed = tt
