-- Bits that are computed row by row.
use Rattle.std.proofs.Common.{◌≡◌, ℕ, ◌+◌, List, [], ◌∷◌, ◌++◌, Bool, length, map, ap, sym, ◌∙◌, arith}
use Rattle.std.specs.List.{range_with_len}
use Rattle.std.proofs.lemmas.List.FromFn.{length-map-range_with_len, map-range_with_len_more}

-- the bits of one row more
row_more : (f : ℕ → Bool) (row : ℕ) → map f (range_with_len 0 (row + 1)) ≡ map f (range_with_len 0 row) ++ f row ∷ []
row_more f row = let same : 0 + row ≡ row = omega arith in map-range_with_len_more f 0 row row same

-- the bits so far, and the bit of the next row after them
pub one_more : (f : ℕ → Bool) (row : ℕ) (bits more : List Bool) (bit : Bool) → bits ≡ map f (range_with_len 0 row) → more ≡ bits ++ bit ∷ [] → bit ≡ f row → more ≡ map f (range_with_len 0 (row + 1))
one_more f row bits more bit so_far put is =
    put ∙ ap (λ (xs : List Bool). xs ++ bit ∷ []) so_far ∙ ap (λ (b : Bool). map f (range_with_len 0 row) ++ b ∷ []) is ∙ sym (row_more f row)

-- there are as many bits as rows
pub counted_bits : (f : ℕ → Bool) (count : ℕ) → length (map f (range_with_len 0 count)) ≡ count
counted_bits f count = length-map-range_with_len f 0 count
