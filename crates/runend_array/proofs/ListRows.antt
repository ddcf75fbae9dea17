-- The rows of a column of lists.
use Rattle.std.proofs.Common.{◌≡◌, List, ◌<◌, ℕ, Some, map, length, ◌∙◌, ap, arith, ◌+◌, [], ◌∷◌, ◌++◌, sym}
use Rattle.std.specs.List.{slice_get, range_with_len}
use Rattle.std.proofs.lemmas.List.FromFn.{length-map-range_with_len, get_or-map-range_with_len, map-range_with_len_more}
use Rattle.std.proofs.lemmas.Option.{slice_get-get_or}
use Rattle.runend_array.specs.Lists.{Lists, list_at, list_count, list_rows}

-- an item of a list that is made by a function of the index
pub slice_get-made : {X : Type 0} (f : ℕ → X) (n i : ℕ) → i < n → slice_get (map f (range_with_len 0 n)) i ≡ Some (f i)
slice_get-made f n i h =
    slice_get-get_or (map f (range_with_len 0 n)) i (f i) (rw (length-map-range_with_len f 0 n) h)
    ∙ ap Some (get_or-map-range_with_len f 0 n i i (f i) h (omega arith))

-- there is a row for each offset
pub length-list_rows : (lists : Lists) → length (list_rows lists) ≡ list_count lists
length-list_rows lists = length-map-range_with_len (list_at lists) 0 (list_count lists)

-- one item more
pub made-push : {X : Type 0} (f : ℕ → X) (xs ys : List X) (n : ℕ) (x : X) → ys ≡ xs ++ x ∷ [] → x ≡ f n → xs ≡ map f (range_with_len 0 n) → ys ≡ map f (range_with_len 0 (n + 1))
made-push f xs ys n x pushed is made = pushed ∙ ap (λ y. xs ++ y ∷ []) is ∙ ap (λ zs. zs ++ f n ∷ []) made ∙ sym (map-range_with_len_more f 0 n n (omega arith))
