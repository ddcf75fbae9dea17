-- A part of a list, cut again.
use Rattle.std.proofs.Common.{◌≡◌, ℕ, ◌+◌, ◌-◌, ◌≤◌, List, length, take, drop, slice_range, ap, ◌∙◌, arith, sym, length-drop}
use Rattle.std.proofs.lemmas.List.{drop-drop, take-take, length-take}
use Rattle.std.proofs.lemmas.Slice.{between_is}

-- how many items a part has
pub length-slice_range : {X : Type 0} (xs : List X) (start stop : ℕ) → start ≤ stop → stop ≤ length xs → length (slice_range xs start stop) ≡ stop - start
length-slice_range xs start stop ordered within =
    omega (arith, length-take (stop - start) (drop start xs), length-drop start xs)

-- a part loses its front
pub drop-slice_range : {X : Type 0} (xs : List X) (s e a : ℕ) → s + a ≤ e → drop a (slice_range xs s e) ≡ slice_range xs (s + a) e
drop-slice_range xs s e a h =
    ap (drop a) (between_is xs s e) ∙ drop-drop a s (take e xs) ∙ sym (between_is xs (s + a) e)

-- a part of a part is a part of the list
pub slice_range-slice_range : {X : Type 0} (xs : List X) (s e a b : ℕ) → a ≤ b → s + b ≤ e → slice_range (slice_range xs s e) a b ≡ slice_range xs (s + a) (s + b)
slice_range-slice_range xs s e a b p q =
    let same : b - a ≡ s + b - (s + a) = omega arith in
    ap (take (b - a)) (drop-slice_range xs s e a (omega arith))
    ∙ take-take (b - a) (e - (s + a)) (drop (s + a) xs) (omega arith)
    ∙ ap (λ n. take n (drop (s + a) xs)) same
