-- The ends of a valid window, trimmed to it, are run ends for its rows.
use Rattle.std.proofs.Common.{◌≡◌, ℕ, ◌-◌, ◌<◌, List, [], ◌∷◌, length, min, get_or, slice_index, refl, sym, ap, arith, inl, inr}
use Rattle.std.proofs.lemmas.Bool.{cases_lt}
use Rattle.std.proofs.lemmas.List.{length-map, get_or-map}
use Rattle.std.proofs.lemmas.List.Kept.{AllPairs-from_increasing}
use Rattle.std.specs.Iterator.{YieldsFirst}
use Rattle.std.specs.List.Sorted.{IsNonDecreasing, IsStrictlyIncreasing}
use Rattle.runend_windows.specs.Trimmed.{trimmed_ends}
use Rattle.runend_windows.specs.RunEnds.{AreRunEnds}
use Rattle.runend_windows.specs.Window.{last_end, IsWindow}
use Rattle.runend_windows.proofs.RunEnds.{AreRunEnds-of_first}

-- the trimmed end of a run
trimmed_at : (ends : List ℕ) (offset count run d : ℕ) → run < length ends → get_or (trimmed_ends ends offset count) run d ≡ min (slice_index ends run - offset) count
trimmed_at ends offset count run d h = get_or-map (λ (end : ℕ). min (end - offset) count) ends run 0 d h

ordered_trimmed : (ends : List ℕ) (offset count : ℕ) → IsStrictlyIncreasing ends → IsNonDecreasing (trimmed_ends ends offset count)
ordered_trimmed ends offset count increasing i j d le within =
    let long = length-map ends (λ (end : ℕ). min (end - offset) count) in
    let first = trimmed_at ends offset count i d (omega arith) in
    let next = trimmed_at ends offset count j d (omega arith) in
    elim (cases_lt i j) [
      | inl before ↦ let order = AllPairs-from_increasing ends increasing i j 0 before (omega arith) in omega arith
      | inr from ↦ let same : i ≡ j = omega arith in let equal = ap (slice_index ends) same in omega arith
    ]

last_trimmed : (ends : List ℕ) (offset count : ℕ) → IsWindow ends offset count → last_end (trimmed_ends ends offset count) ≡ count
last_trimmed [] offset count window = sym (window.none refl).1
last_trimmed (end ∷ ends) offset count window =
    let long = length-map (end ∷ ends) (λ (e : ℕ). min (e - offset) count) in
    let at = trimmed_at (end ∷ ends) offset count (length (end ∷ ends) - 1) 0 (omega arith) in
    let same = ap (λ (run : ℕ). get_or (trimmed_ends (end ∷ ends) offset count) (run - 1) 0) long in
    elim (cases_lt 0 count) [
      | inl some ↦ let last = window.last some in omega arith
      | inr none ↦ omega arith
    ]

-- so a decoder of run ends may be given them
pub AreRunEnds-of_window : (ends : List ℕ) (offset count : ℕ) → IsWindow ends offset count
    → AreRunEnds (YieldsFirst (λ (left : List ℕ). left)) (trimmed_ends ends offset count) (length ends) count (trimmed_ends ends offset count)
AreRunEnds-of_window ends offset count window =
    AreRunEnds-of_first (λ (left : List ℕ). left) (trimmed_ends ends offset count) (length ends) count (trimmed_ends ends offset count) refl
    (length-map ends (λ (end : ℕ). min (end - offset) count))
    (ordered_trimmed ends offset count window.increasing)
    (last_trimmed ends offset count window)
