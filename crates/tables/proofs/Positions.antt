-- Positions of rows, as indices that were tested.
use Rattle.std.proofs.Common.{◌≡◌, ◌<◌, ℕ, pos, List, [], ◌∷◌, Bool, Option, None, Some, sym, subst, arith}
use Rattle.std.specs.Prelude.{◌≤ℤ◌, ◌<ℤ◌, ℤ, IfSome}
use Rattle.std.proofs.lemmas.Int.{ints}
use Rattle.std.proofs.lemmas.List.Elements.{All-cons, All-head, All-nil, All-tail}
use Rattle.column_core.specs.Optionals.{optionals}
use Rattle.column_ops.specs.Take.{ArePositions, position_numbers}
use Rattle.column_ops.proofs.IndexPositions.{optionals-map}
use Rattle.runend_select.specs.Indices.{AreInBounds, optional_indices}

-- positions are indices of rows
in_bounds : (positions : List (Option ℕ)) (count : ℕ) → ArePositions positions count → AreInBounds (position_numbers positions) count
in_bounds [] count within = All-nil (λ index. IfSome index (λ n. (pos 0 ≤ℤ n) × (n <ℤ pos count)))
in_bounds (None ∷ positions) count within =
    All-cons (λ index. IfSome index (λ n. (pos 0 ≤ℤ n) × (n <ℤ pos count))) None (position_numbers positions) tt
    (in_bounds positions count (All-tail (λ position. IfSome position (λ k. k < count)) None positions within))
in_bounds (Some k ∷ positions) count within =
    let below : k < count = All-head (λ position. IfSome position (λ k. k < count)) (Some k) positions within in
    All-cons (λ index. IfSome index (λ n. (pos 0 ≤ℤ n) × (n <ℤ pos count))) (Some (pos k)) (position_numbers positions) (omega (arith, ints), omega (arith, ints))
    (in_bounds positions count (All-tail (λ position. IfSome position (λ k. k < count)) (Some k) positions within))

-- items as positions and as indices
pub same_positions : (items : List ℕ) (bits : List Bool) → optional_indices (λ n. pos n) items bits ≡ position_numbers (optionals items bits)
same_positions items bits = optionals-map (λ n. pos n) items bits

pub items_in_bounds : (items : List ℕ) (bits : List Bool) (count : ℕ) → ArePositions (optionals items bits) count → AreInBounds (optional_indices (λ n. pos n) items bits) count
items_in_bounds items bits count within = subst (λ (indices : List (Option ℤ)). AreInBounds indices count) (sym (same_positions items bits)) (in_bounds (optionals items bits) count within)
