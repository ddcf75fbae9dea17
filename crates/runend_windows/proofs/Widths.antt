-- Which types have ends: no end is above the last, so a type that has the last end has each.
use Rattle.std.proofs.Common.{ℕ, zero, suc, ◌<◌, ◌≤◌, ◌^◌, List, [], ◌∷◌, length, pos, arith}
use Rattle.std.specs.Prelude.{slice_index_or, All}
use Rattle.std.specs.List.Sorted.{IsStrictlyIncreasing}
use Rattle.std.specs.Int.{FitsUnsigned, w8, w16, w32, w64}
use Rattle.std.proofs.lemmas.Int.{ints}
use Rattle.runend_windows.specs.Window.{last_end}
use Rattle.runend_windows.proofs.RunAt.{IsStrictlyIncreasing-tail}
use Rattle.runend_windows.proofs.Tiles.{last_end-next}

-- no end is above the last
pub le-last_end : (ends : List ℕ) (k d : ℕ) → IsStrictlyIncreasing ends → k < length ends → slice_index_or ends k d ≤ last_end ends
le-last_end [] k d increasing h = absurd (omega arith)
le-last_end (end ∷ []) zero d increasing h = omega arith
le-last_end (end ∷ []) (suc k) d increasing h = absurd (omega arith)
le-last_end (end ∷ next ∷ ends) zero d increasing h =
    let first : end < next = increasing 0 (omega arith) in
    let rest = le-last_end (next ∷ ends) 0 d (IsStrictlyIncreasing-tail end (next ∷ ends) increasing) (omega arith) in
    let same = last_end-next end next ends in
    omega arith
le-last_end (end ∷ next ∷ ends) (suc k) d increasing h =
    let rest = le-last_end (next ∷ ends) k d (IsStrictlyIncreasing-tail end (next ∷ ends) increasing) (omega arith) in
    let same = last_end-next end next ends in
    omega arith

pub all_fit-8 : (ends : List ℕ) → IsStrictlyIncreasing ends → last_end ends < 2 ^ 8 → All (λ end. FitsUnsigned w8 (pos end)) ends
all_fit-8 ends increasing h k d lt = let le = le-last_end ends k d increasing lt in (omega (arith, ints), omega (arith, ints))

pub all_fit-16 : (ends : List ℕ) → IsStrictlyIncreasing ends → last_end ends < 2 ^ 16 → All (λ end. FitsUnsigned w16 (pos end)) ends
all_fit-16 ends increasing h k d lt = let le = le-last_end ends k d increasing lt in (omega (arith, ints), omega (arith, ints))

pub all_fit-32 : (ends : List ℕ) → IsStrictlyIncreasing ends → last_end ends < 2 ^ 32 → All (λ end. FitsUnsigned w32 (pos end)) ends
all_fit-32 ends increasing h k d lt = let le = le-last_end ends k d increasing lt in (omega (arith, ints), omega (arith, ints))

pub all_fit-64 : (ends : List ℕ) → IsStrictlyIncreasing ends → last_end ends < 2 ^ 64 → All (λ end. FitsUnsigned w64 (pos end)) ends
all_fit-64 ends increasing h k d lt = let le = le-last_end ends k d increasing lt in (omega (arith, ints), omega (arith, ints))
