use Rattle.std.proofs.Common.{◌∙◌, ap}
use Rattle.column_base.specs.declared.dtype.DType.{DType}
use Rattle.column_base.specs.declared.dtype.Nullability.TheVariants.{NonNullable}
use Rattle.column_base.specs.Types.{with_nullability}
use Rattle.runend_array.specs.Array.{dtype_of}
use Rattle.c_columns.proofs.Passed.{refused_scalar}
use Rattle.c_columns.proofs.row_value.scalar_of.Goals as goal

pub returns-clause-refused : goal.returns-clause-refused
returns-clause-refused c =
    let wanted = c.with_nullability-2.ensures ∙ ap (λ (t : DType). with_nullability t NonNullable) c.dtype-2.ensures in
    refused_scalar (dtype_of c.args.array.now) c.with_nullability-2.result c.args.value.now.kind c.args.value.now c.args.text.now c.in_ok-given.given c.try_new-2.result
    c.if-value-eq0.false wanted c.in_ok-given.ensures.of_type c.try_new-2.ensures.accepts c.try_new-2.ensures.mismatch
