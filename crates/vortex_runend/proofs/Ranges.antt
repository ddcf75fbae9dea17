-- Ranges of ranges.
use Rattle.std.proofs.Common.{◌≡◌, ℕ, ◌+◌, ◌-◌, ◌≤◌, List, length, take, drop, ap, ◌∙◌, arith}
use Rattle.std.specs.Prelude.{slice_range}
use Rattle.std.proofs.lemmas.List.{drop-take, drop-drop, take-take}
use Rattle.column_base.proofs.Ranges.{length-slice_range}

-- a range of the front of a list
range_of_front : {X : Type 0} (xs : List X) (front skipped count : ℕ) → skipped + count ≤ front → take count (drop skipped (take front xs)) ≡ take count (drop skipped xs)
range_of_front xs front skipped count within =
    let parts : front ≡ skipped + (front - skipped) = omega arith in
    ap (λ (n : ℕ). take count (drop skipped (take n xs))) parts
    ∙ ap (take count) (drop-take skipped (front - skipped) xs)
    ∙ take-take count (front - skipped) (drop skipped xs) (omega arith)

-- a range of a range is the range at the added positions
pub range_of_range : {X : Type 0} (xs : List X) (start stop first last : ℕ)
    → start ≤ stop → stop ≤ length xs → first ≤ last → last ≤ length (slice_range xs start stop)
    → (slice_range (slice_range xs start stop) first last ≡ slice_range xs (start + first) (start + last)) × (start + last ≤ length xs)
range_of_range xs start stop first last ordered within ordered' within' =
    let counted = length-slice_range xs start stop ordered within in
    let short : first + (last - first) ≤ stop - start = omega arith in
    let same : last - first ≡ (start + last) - (start + first) = omega arith in (
      range_of_front (drop start xs) (stop - start) first (last - first) short
          ∙ ap (take (last - first)) (drop-drop first start xs)
          ∙ ap (λ (n : ℕ). take n (drop (start + first) xs)) same,
      omega arith,
    )
