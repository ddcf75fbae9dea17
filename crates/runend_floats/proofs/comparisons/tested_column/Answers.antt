use Rattle.std.proofs.Common.{◌∙◌, map, sym}
use Rattle.std.proofs.lemmas.List.{length-map}
use Rattle.column_base.specs.declared.dtype.DType.TheVariants as types
use Rattle.column_base.specs.Types.{nullability_of}
use Rattle.column_core.specs.FlatColumn.{leaf_of}
use Rattle.column_floats.specs.Comparisons.{tested_row}
use Rattle.column_sums.specs.SumAnswer.{number_in}
use Rattle.runend_array.specs.Array.{column_of, dtype_of, rows}
use Rattle.runend_builder.proofs.Parts.{encoded_of_rows, parts_of_rows}
use Rattle.runend_floats.proofs.comparisons.tested_column.Goals as goal

pub new_unchecked-requires : goal.new_unchecked-requires
new_unchecked-requires g c =
    let keys = map number_in (rows c.args.column.now) in
    let row = tested_row (g.T.KeyTest.passes c.args.test.now) in
    let wanted = types.Bool (nullability_of (dtype_of c.args.column.now)) in
    let long = c.len.ensures ∙ sym (length-map keys row ∙ length-map (rows c.args.column.now) number_in) in
    parts_of_rows (map row keys) wanted c.in_ok-ends.ends (leaf_of c.in_ok-ends.truths) c.len.result (column_of c.array_of.result) c.in_ok-ends.ensures.tested long c.array_of.ensures

pub returns-clause-tested : goal.returns-clause-tested
returns-clause-tested g c =
    let keys = map number_in (rows c.args.column.now) in
    let row = tested_row (g.T.KeyTest.passes c.args.test.now) in
    let wanted = types.Bool (nullability_of (dtype_of c.args.column.now)) in
    let long = c.len.ensures ∙ sym (length-map keys row ∙ length-map (rows c.args.column.now) number_in) in
    rw c.new_unchecked.ensures (encoded_of_rows (map row keys) wanted c.in_ok-ends.ends (leaf_of c.in_ok-ends.truths) c.len.result (column_of c.array_of.result) c.in_ok-ends.ensures.tested long c.array_of.ensures)
