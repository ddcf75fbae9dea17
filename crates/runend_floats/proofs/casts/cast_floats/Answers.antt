use Rattle.std.proofs.Common.{◌∙◌, Some, ap, map, subst, sym}
use Rattle.std.specs.Prelude.{IfErr, IfOk}
use Rattle.column_base.specs.declared.dtype.DType.{DType}
use Rattle.column_base.specs.declared.dtype.DType.TheVariants as types
use Rattle.column_base.specs.Types.{nullability_of}
use Rattle.column_sums.specs.SumAnswer.{number_in}
use Rattle.float_bits.specs.declared.formats.FloatFormat.{FloatFormat}
use Rattle.runend_array.specs.Array.{dtype_of, rows}
use Rattle.column_floats.specs.Casts.{Becomes, IsCastRefusal, IsSameKey}
use Rattle.column_floats.specs.Formats.{IsFormatOf, keys_of_format}
use Rattle.runend_floats.specs.CastRuns.{AreCastRuns}
use Rattle.runend_floats.proofs.CastLists.{floats_number_type}
use Rattle.runend_floats.proofs.casts.cast_floats.Goals as goal

pub cast_column-requires : goal.cast_column-requires
cast_column-requires g c =
    let format = subst (λ (t : DType). IsFormatOf t c.in_ok-from.from) c.dtype.ensures c.in_ok-from.ensures.format in
    floats_number_type (dtype_of c.args.column.now) format.0 ∙ ap (λ (f : FloatFormat). Some (keys_of_format f)) (sym format.1)

pub returns-clause-refused : goal.returns-clause-refused
returns-clause-refused g c =
    let format = subst (λ (t : DType). IsFormatOf t c.in_ok-from.from) c.dtype.ensures c.in_ok-from.ensures.format in
    λ floats. subst (λ (f : FloatFormat). IfErr c.cast_column.result (IsCastRefusal (Becomes (keys_of_format c.args.to) (IsSameKey f c.args.to)) (map number_in (rows c.args.column.now)))) format.1 c.cast_column.ensures.refused

pub returns-clause-cast : goal.returns-clause-cast
returns-clause-cast g c =
    let format = subst (λ (t : DType). IsFormatOf t c.in_ok-from.from) c.dtype.ensures c.in_ok-from.ensures.format in
    subst (λ (f : FloatFormat). IfOk c.cast_column.result (AreCastRuns (Becomes (keys_of_format c.args.to) (IsSameKey f c.args.to)) (rows c.args.column.now) (types.Primitive (keys_of_format c.args.to) (nullability_of (dtype_of c.args.column.now))))) format.1 c.cast_column.ensures.cast
