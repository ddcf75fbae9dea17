use Rattle.std.proofs.Common.{◌∙◌, sym}
use Rattle.std.proofs.lemmas.Slice.Zip.{AllZip-long}
use Rattle.column_base.specs.declared.dtype.DType.TheVariants as types
use Rattle.column_base.specs.Types.{nullability_of}
use Rattle.column_core.specs.FlatColumn.{leaf_of}
use Rattle.runend_array.specs.Array.{column_of, dtype_of, rows}
use Rattle.runend_builder.proofs.Parts.{encoded_of_rows, parts_of_rows}
use Rattle.column_floats.specs.Casts.{Becomes, IsCastRow}
use Rattle.runend_floats.proofs.casts.cast_column.Goals as goal

pub new_unchecked-requires : goal.new_unchecked-requires
new_unchecked-requires g c =
    let becomes = Becomes (g.C.NumberCast.target c.args.cast.now) (g.C.NumberCast.casts c.args.cast.now) in
    let wanted = types.Primitive (g.C.NumberCast.target c.args.cast.now) (nullability_of (dtype_of c.args.column.now)) in
    let made = c.in_ok-ends.ensures.cast in
    let long = c.len.ensures ∙ sym (AllZip-long (IsCastRow becomes) (rows c.args.column.now) made.cast made.each) in
    parts_of_rows made.cast wanted c.in_ok-ends.ends (leaf_of c.in_ok-ends.values) c.len.result (column_of c.array_of.result) made.encoding long c.array_of.ensures

pub returns-clause-cast : goal.returns-clause-cast
returns-clause-cast g c =
    let becomes = Becomes (g.C.NumberCast.target c.args.cast.now) (g.C.NumberCast.casts c.args.cast.now) in
    let wanted = types.Primitive (g.C.NumberCast.target c.args.cast.now) (nullability_of (dtype_of c.args.column.now)) in
    let made = c.in_ok-ends.ensures.cast in
    let long = c.len.ensures ∙ sym (AllZip-long (IsCastRow becomes) (rows c.args.column.now) made.cast made.each) in
    rw c.new_unchecked.ensures (record {
      cast = made.cast;
      each = made.each;
      encoded = encoded_of_rows made.cast wanted c.in_ok-ends.ends (leaf_of c.in_ok-ends.values) c.len.result (column_of c.array_of.result) made.encoding long c.array_of.ensures;
    })
