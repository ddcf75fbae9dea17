use Rattle.std.proofs.Common.{◌∙◌, length, map, sym}
use Rattle.std.proofs.lemmas.List.{length-map}
use Rattle.column_base.specs.Types.{nullability_of}
use Rattle.column_base.specs.declared.dtype.DType.TheVariants as types
use Rattle.column_core.specs.FlatColumn.{leaf_of}
use Rattle.runend_array.specs.Array.{column_of, dtype_of, rows}
use Rattle.runend_builder.proofs.Parts.{encoded_of_rows, parts_of_rows}
use Rattle.runend_decimals.specs.Scales.{integer_of_row, scale_of}
use Rattle.runend_decimals.proofs.to_integers.integers_of.Goals as goal

pub new_unchecked-requires : goal.new_unchecked-requires
new_unchecked-requires g c =
    let array = c.args.column.now in
    let row = integer_of_row (scale_of (dtype_of array)) in
    parts_of_rows (map row (rows array)) (types.Primitive c.args.to (nullability_of (dtype_of array))) c.in_ok-ends.ends (leaf_of c.in_ok-ends.values) c.len.result (column_of c.array_of.result) c.in_ok-ends.ensures.encoding
    (c.len.ensures ∙ sym (length-map (rows array) row)) c.array_of.ensures

pub returns-clause-encoded : goal.returns-clause-encoded
returns-clause-encoded g c =
    let array = c.args.column.now in
    let row = integer_of_row (scale_of (dtype_of array)) in
    rw c.new_unchecked.ensures
    (encoded_of_rows (map row (rows array)) (types.Primitive c.args.to (nullability_of (dtype_of array))) c.in_ok-ends.ends (leaf_of c.in_ok-ends.values) c.len.result (column_of c.array_of.result) c.in_ok-ends.ensures.encoding
    (c.len.ensures ∙ sym (length-map (rows array) row)) c.array_of.ensures)
