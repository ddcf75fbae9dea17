-- Values that lend a flat column.
use Rattle.std.proofs.Common.{◌≡◌, ◌≤◌, ℕ, length, ap, arith}
use Rattle.std.specs.Prelude.{option_map}
use Rattle.std.proofs.lemmas.List.{length-map}
use Rattle.column_core.specs.Leaf.{Leaf, leaf_rows}
use Rattle.column_core.specs.Value.{FlatValue, Single}
use Rattle.runend_array.specs.Column.{Column, OfLeaf, column_rows}

-- what lies within the values lies within it
pub within_leaf : (values : Column) (leaf : Leaf) (stop : ℕ) → values ≡ OfLeaf leaf → stop ≤ length (column_rows values) → stop ≤ length (leaf_rows leaf)
within_leaf values leaf stop flat inside =
    omega (arith, inside, ap (λ (column : Column). length (column_rows column)) flat, length-map (leaf_rows leaf) (option_map (λ (v : FlatValue). Single v)))
