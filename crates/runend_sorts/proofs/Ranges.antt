-- Ranges of numbers that go on.
use Rattle.std.proofs.Common.{◌≡◌, ◌∙◌, ℕ, zero, suc, ◌+◌, List, [], ◌∷◌, ◌++◌, ap, arith}
use Rattle.std.specs.List.{range_with_len}

-- a range of numbers goes on with the next one
pub range_more : (start count : ℕ) → range_with_len start (suc count) ≡ range_with_len start count ++ (start + count) ∷ []
range_more start zero = let place : start ≡ start + zero = omega arith in ap (λ (k : ℕ). k ∷ []) place
range_more start (suc count) =
    let place : start + 1 + count ≡ start + suc count = omega arith in
    ap (λ (rest : List ℕ). start ∷ rest) (range_more (start + 1) count ∙ ap (λ (k : ℕ). range_with_len (start + 1) count ++ k ∷ []) place)
