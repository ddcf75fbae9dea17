use Rattle.std.proofs.Common.{◌∙◌, map, sym}
use Rattle.std.proofs.lemmas.List.{length-map}
use Rattle.column_core.specs.FlatColumn.{leaf_of}
use Rattle.runend_array.specs.Array.{column_of, dtype_of, rows}
use Rattle.runend_builder.proofs.Parts.{encoded_of_rows, parts_of_rows}
use Rattle.column_floats.specs.FloatRows.{key_row}
use Rattle.column_floats.specs.Formats.{format_of, keys_dtype}
use Rattle.column_floats.specs.Patterns.{stored_key}
use Rattle.runend_floats.proofs.encoding.encode_floats.Goals as goal

pub new_unchecked-requires : goal.new_unchecked-requires
new_unchecked-requires g c =
    let array = c.args.bits.now in
    let key = key_row (stored_key c.args.patterns (format_of (dtype_of array))) in
    parts_of_rows (map key (rows array)) (keys_dtype (dtype_of array)) c.in_ok-ends.ends (leaf_of c.in_ok-ends.keys) c.len.result (column_of c.array_of.result) c.in_ok-ends.ensures.encoding
    (c.len.ensures ∙ sym (length-map (rows array) key)) c.array_of.ensures

pub returns-clause-encoded : goal.returns-clause-encoded
returns-clause-encoded g c =
    let array = c.args.bits.now in
    let key = key_row (stored_key c.args.patterns (format_of (dtype_of array))) in
    rw c.new_unchecked.ensures
    (encoded_of_rows (map key (rows array)) (keys_dtype (dtype_of array)) c.in_ok-ends.ends (leaf_of c.in_ok-ends.keys) c.len.result (column_of c.array_of.result) c.in_ok-ends.ensures.encoding
    (c.len.ensures ∙ sym (length-map (rows array) key)) c.array_of.ensures)
