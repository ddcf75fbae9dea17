-- The rows that indices name, which is row 0 for a null one, and the ranks of these rows.
use Rattle.std.proofs.Common.{◌≡◌, ◌+◌, ◌<◌, ℕ, ℤ, pos, List, Option, Some, None, length, map, get_or, ap, refl, sym, ◌∙◌, arith}
use Rattle.std.specs.Prelude.{◌≤ℤ◌, ◌<ℤ◌, IfSome, option_map, slice_get, unsigned_abs, unwrap_or}
use Rattle.std.proofs.lemmas.Int.{ints}
use Rattle.std.proofs.lemmas.List.{ext_get_or, get_or-map, length-map}
use Rattle.runend_windows.specs.Window.{IsWindow, run_at}
use Rattle.runend_select.specs.Indices.{AreInBounds, run_of, runs_of}
use Rattle.runend_select.specs.Ranks.{AreMarked, ones_before, rank_at}
use Rattle.runend_select.proofs.Bounds.{row_in_bounds}
use Rattle.runend_select.proofs.RunBits.{rank_of_row}

-- such a row is in the bounds of the indices
pub named_within : (indices : List (Option ℤ)) (count place : ℕ) (row : Option ℕ) → 0 < count → AreInBounds indices count → slice_get indices place ≡ Some (option_map (λ (n : ℕ). pos n) row)
    → unwrap_or row 0 < count
named_within indices count place None some bounds at = some
named_within indices count place (Some row) some bounds at = row_in_bounds indices count place row bounds at

-- its rank is that at the index
pub rank_named : (words : List ℕ) (row : Option ℕ) → ones_before words (unwrap_or row 0 + 1) ≡ rank_at words (option_map (λ (n : ℕ). pos n) row)
rank_named words None = refl
rank_named words (Some row) = refl

-- and is the run of the row
rank_at_index : (ends : List ℕ) (offset count : ℕ) (words : List ℕ) (index : Option ℤ) → IsWindow ends offset count → AreMarked ends offset count words → 0 < count
    → IfSome index (λ n. (pos 0 ≤ℤ n) × (n <ℤ pos count)) → rank_at words index ≡ run_of ends offset (run_at ends offset) index
rank_at_index ends offset count words None window marked some within =
    let first : offset + 0 ≡ offset = omega arith in
    rank_of_row ends offset count words 0 window marked some ∙ ap (run_at ends) first
rank_at_index ends offset count words (Some n) window marked some within =
    let low = within.0 in
    let high = within.1 in
    rank_of_row ends offset count words (unsigned_abs n) window marked (omega (arith, ints))

-- so the ranks at indices are what the strategy answers
pub ranks_of_rows : (ends : List ℕ) (offset count : ℕ) (words : List ℕ) (indices : List (Option ℤ)) → IsWindow ends offset count → AreMarked ends offset count words → 0 < count
    → AreInBounds indices count → map (rank_at words) indices ≡ runs_of ends offset (run_at ends offset) indices
ranks_of_rows ends offset count words indices window marked some bounds =
    let f = rank_at words in
    let g = run_of ends offset (run_at ends offset) in
    ext_get_or 0 (map f indices) (map g indices) (length-map indices f ∙ sym (length-map indices g)) (λ i before.
    let within : i < length indices = omega (arith, length-map indices f) in
    get_or-map f indices i None 0 within
    ∙ rank_at_index ends offset count words (get_or indices i None) window marked some (bounds i None within)
    ∙ sym (get_or-map g indices i None 0 within))
