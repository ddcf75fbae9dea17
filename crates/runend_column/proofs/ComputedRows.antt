-- Flat rows as a call computes them, as rows of a column.
use Rattle.std.proofs.Common.{◌∙◌, ℤ, List, Bool, Option, map, sym, ap, Ok, Err}
use Rattle.std.specs.Prelude.{IfOk, Result, option_map}
use Rattle.column_base.specs.declared.dtype.DType.{DType}
use Rattle.column_core.specs.Value.{Single}
use Rattle.column_core.specs.Leaf.{Leaf, leaf_rows, single_rows}
use Rattle.column_ops.specs.Computed.{IsMade}
use Rattle.column_ops.specs.Filter.{filter_rows}
use Rattle.column_ops.specs.Take.{take_rows}
use Rattle.column_ops.proofs.Made.{filter_rows-map, take_rows-map}
use Rattle.runend_array.specs.Column.{OfLeaf}
use Rattle.runend_column.specs.Computed.{IsComputedAs}

-- what holds of an answer, weakened
pub ok_then : {T E : Type 0} (result : Result T E) (P Q : T → Type 0) → ((value : T) → P value → Q value) → IfOk result P → IfOk result Q
ok_then (Ok value) P Q then' h = then' value h
ok_then (Err error) P Q then' h = tt

pub ok_then2 : {T E : Type 0} (result : Result T E) (P P' Q : T → Type 0) → ((value : T) → P value → P' value → Q value) → IfOk result P → IfOk result P' → IfOk result Q
ok_then2 (Ok value) P P' Q then' h h' = then' value h h'
ok_then2 (Err error) P P' Q then' h h' = tt

pub IsComputedAs-taken : (own leaf : Leaf) (indices : List (Option ℤ)) (dtype : DType) → IsMade (take_rows (leaf_rows own) indices) dtype leaf → IsComputedAs (take_rows (single_rows own) indices) dtype (OfLeaf leaf)
IsComputedAs-taken own leaf indices dtype made = record {
  rows = ap (map (option_map Single)) made.rows ∙ sym (take_rows-map Single (leaf_rows own) indices);
  dtype = made.dtype;
  form = made.computed;
}

pub IsComputedAs-selected : (own leaf : Leaf) (bits : List Bool) (dtype : DType) → IsMade (filter_rows bits (leaf_rows own)) dtype leaf → IsComputedAs (filter_rows bits (single_rows own)) dtype (OfLeaf leaf)
IsComputedAs-selected own leaf bits dtype made = record {
  rows = ap (map (option_map Single)) made.rows ∙ sym (filter_rows-map (option_map Single) bits (leaf_rows own));
  dtype = made.dtype;
  form = made.computed;
}
