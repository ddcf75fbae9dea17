-- All rows of a flat column, as a range.
use Rattle.std.proofs.Common.{◌≡◌, ◌-◌, length, arith, slice_range}
use Rattle.std.proofs.lemmas.List.{take_all, length-map}
use Rattle.std.specs.Prelude.{option_map}
use Rattle.column_core.specs.Leaf.{Leaf, leaf_rows, single_rows}
use Rattle.column_core.specs.Value.{FlatValue, Single}

-- the range of all rows is all rows
pub all_rows : (leaf : Leaf) → slice_range (single_rows leaf) 0 (length (leaf_rows leaf)) ≡ single_rows leaf
all_rows leaf =
    let counted = length-map (leaf_rows leaf) (option_map (λ (v : FlatValue). Single v)) in
    let all : length (leaf_rows leaf) - 0 ≡ length (leaf_rows leaf) = omega arith in
    rw all (take_all (length (leaf_rows leaf)) (single_rows leaf) (omega arith))
