-- Stretches in reverse order.
use Rattle.std.proofs.Common.{◌≡◌, ◌∙◌, ℕ, zero, suc, ◌+◌, ◌<◌, List, [], ◌∷◌, ◌++◌, Option, append-nil, ap, arith, refl, replicate, reverse, sym}
use Rattle.std.specs.List.{flat_map}
use Rattle.std.proofs.lemmas.List.{replicate_more, reverse-append}
use Rattle.std.proofs.lemmas.List.Concat.{flat_map-append}
use Rattle.std.proofs.lemmas.List.Sorted.{All-permutation, IsPermutation-reverse}
use Rattle.column_core.specs.Value.{Value}
use Rattle.runend_sorts.specs.declared.row_runs.Stretch.{Stretch}
use Rattle.runend_sorts.specs.Stretches.{AreWithin, stretch_of, stretch_rows}

-- copies are the same the other way round
pub reverse_copies : {A : Type 0} (count : ℕ) (value : A) → reverse (replicate count value) ≡ replicate count value
reverse_copies zero value = refl
reverse_copies {A} (suc count) value =
    let one : count + 1 ≡ suc count = omega arith in
    reverse-append (value ∷ []) (replicate count value) ∙ ap (λ (copies : List A). copies ++ value ∷ []) (reverse_copies count value) ∙ replicate_more count value
    ∙ ap (λ (k : ℕ). replicate k value) one

-- stretches that are the same the other way round, put together from the last to the first
reverse_pieces : {X A : Type 0} (f : X → List A) → ((x : X) → reverse (f x) ≡ f x) → (xs : List X) → reverse (flat_map f xs) ≡ flat_map f (reverse xs)
reverse_pieces f same [] = refl
reverse_pieces {X} {A} f same (x ∷ xs) =
    reverse-append (f x) (flat_map f xs) ∙ ap (λ (back : List A). reverse (flat_map f xs) ++ back) (same x ∙ sym (append-nil (f x)))
    ∙ ap (λ (front : List A). front ++ (f x ++ [])) (reverse_pieces f same xs) ∙ sym (flat_map-append f (reverse xs) (x ∷ [])) ∙ ap (flat_map f) (sym (reverse-append (x ∷ []) xs))

-- stretches in reverse order show the rows in reverse order
pub reversed_stretches : (values : List (Option Value)) (order : List Stretch) → stretch_rows values (reverse order) ≡ reverse (stretch_rows values order)
reversed_stretches values order = sym (reverse_pieces (stretch_of values) (λ stretch. reverse_copies _ _) order)

-- and are of the same runs
pub reversed_within : (count : ℕ) (order : List Stretch) → AreWithin count order → AreWithin count (reverse order)
reversed_within count order within = All-permutation (λ (stretch : Stretch). stretch.run < count) order (reverse order) (IsPermutation-reverse order) within
