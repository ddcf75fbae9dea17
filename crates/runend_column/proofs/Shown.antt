-- The bytes that rows of texts and bytes show, row by row.
use Rattle.std.proofs.Common.{◌≡◌, ◌∙◌, ◌≤◌, ◌<◌, ◌+◌, ℕ, List, length, map, take, ap, arith}
use Rattle.std.specs.Prelude.{Option, None, option_map, slice_index_or, sum_by}
use Rattle.std.proofs.lemmas.List.{length-map, take_all}
use Rattle.std.proofs.lemmas.List.Sums.{sum_by_more}
use Rattle.column_core.specs.Value.{FlatValue, Value, Single}
use Rattle.column_core.specs.Leaf.{Leaf, leaf_rows, single_rows}
use Rattle.runend_column.specs.BytesUsed.{in_usize, text_length}

counted : (leaf : Leaf) → length (single_rows leaf) ≡ length (leaf_rows leaf)
counted leaf = length-map (leaf_rows leaf) (option_map (λ (v : FlatValue). Single v))

-- one row more
pub one_row_more : (leaf : Leaf) (count row before shown after : ℕ) → count ≡ length (leaf_rows leaf) → row < count → before ≡ in_usize (sum_by text_length (take row (single_rows leaf)))
    → shown ≡ text_length (slice_index_or (single_rows leaf) row None) → after ≡ in_usize (before + shown) → after ≡ in_usize (sum_by text_length (take (row + 1) (single_rows leaf)))
one_row_more leaf count row before shown after rows within so_far this is =
    let more = sum_by_more text_length (single_rows leaf) row None (omega (arith, rows, within, counted leaf)) in
    omega (arith, so_far, this, is, more)

-- all rows
pub all_rows : (leaf : Leaf) (count bytes : ℕ) → count ≡ length (leaf_rows leaf) → bytes ≡ in_usize (sum_by text_length (take count (single_rows leaf))) → bytes ≡ in_usize (sum_by text_length (single_rows leaf))
all_rows leaf count bytes rows is = is ∙ ap (λ (xs : List (Option Value)). in_usize (sum_by text_length xs)) (take_all count (single_rows leaf) (omega (arith, rows, counted leaf)))
