use Rattle.column_core.specs.FlatColumn.{leaf_of}
use Rattle.runend_array.specs.Array.{column_of, dtype_of, rows}
use Rattle.runend_builder.proofs.Parts.{encoded_of_rows, parts_of_rows}
use Rattle.runend_builder.proofs.encode.encode_rows.Goals as goal

pub new_unchecked-requires : goal.new_unchecked-requires
new_unchecked-requires g c =
    parts_of_rows (rows c.args.array.now) (dtype_of c.args.array.now) c.in_ok-ends.ends (leaf_of c.in_ok-ends.values) c.len-count.result (column_of c.array_of.result) c.in_ok-ends.ensures.encoding c.len-count.ensures c.array_of.ensures

pub returns-clause-encoded : goal.returns-clause-encoded
returns-clause-encoded g c =
    rw c.new_unchecked.ensures
    (encoded_of_rows (rows c.args.array.now) (dtype_of c.args.array.now) c.in_ok-ends.ends (leaf_of c.in_ok-ends.values) c.len-count.result (column_of c.array_of.result) c.in_ok-ends.ensures.encoding c.len-count.ensures c.array_of.ensures)
