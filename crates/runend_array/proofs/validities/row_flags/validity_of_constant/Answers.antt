use Rattle.std.proofs.Common.{◌≡◌, ◌∙◌, ap, sym, true}
use Rattle.std.specs.Option.{is_some}
use Rattle.column_base.specs.declared.dtype.Nullability.TheVariants.{NonNullable, Nullable}
use Rattle.column_base.specs.Types.{nullability_of}
use Rattle.runend_array.proofs.RowFlags.{IsValidityOf-null, IsValidityOf-valid, constant_validity-null, constant_validity-valid, is_some-of_null, is_some-of_view}
use Rattle.runend_array.proofs.validities.row_flags.validity_of_constant.Goals as goal

pub returns-in-Null : goal.returns-in-Null
returns-in-Null g c =
    let constant = c.args.constant.now in
    let null = is_some-of_null c.scalar_view.result constant.value c.in-Null.is c.scalar_view.ensures.value in
    record { rows = IsValidityOf-null constant null c.in-Null.ensures.of_type; form = constant_validity-null constant null; plain = tt }

pub returns-in-NonNullable : goal.returns-in-NonNullable
returns-in-NonNullable g c =
    let constant = c.args.constant.now in
    let valid : is_some constant.value ≡ true = is_some-of_view c.scalar_view.result constant.value c.in_default.not-Null c.scalar_view.ensures.value in
    let same : NonNullable ≡ nullability_of constant.dtype = sym c.in-NonNullable.is ∙ c.nullability.ensures ∙ ap nullability_of c.dtype.ensures in
    record { rows = IsValidityOf-valid constant NonNullable valid same; form = constant_validity-valid constant NonNullable valid same; plain = tt }

pub returns-in-Nullable : goal.returns-in-Nullable
returns-in-Nullable g c =
    let constant = c.args.constant.now in
    let valid : is_some constant.value ≡ true = is_some-of_view c.scalar_view.result constant.value c.in_default.not-Null c.scalar_view.ensures.value in
    let same : Nullable ≡ nullability_of constant.dtype = sym c.in-Nullable.is ∙ c.nullability.ensures ∙ ap nullability_of c.dtype.ensures in
    record { rows = IsValidityOf-valid constant Nullable valid same; form = constant_validity-valid constant Nullable valid same; plain = tt }
