use Rattle.std.proofs.Common.{◌≡◌, ◌∙◌, ℤ, length, refl, sym, ap, subst}
use Rattle.column_core.specs.DecimalForm.{decimal_dtype_of, decimal_rows, decimal_with, optional_decimals}
use Rattle.column_core.specs.Value.{DecimalNumber}
use Rattle.column_ops.proofs.CastRows.{dtype-of_cast, first_fault-kept}
use Rattle.column_ops.proofs.IndexPositions.{refused-passed_on}
use Rattle.column_ops.proofs.Arms.{HasLength-arm}
use Rattle.column_base.specs.declared.dtype.DType.TheVariants as column
use Rattle.column_base.specs.declared.dtype.DType.{DType}
use Rattle.column_base.specs.Types.{nullability_of}
use Rattle.column_base.specs.Validity.{form_of}
use Rattle.column_core.specs.Leaf.{OfDecimals}
use Rattle.column_ops.specs.Computed.{IsMade}
use Rattle.column_ops.proofs.Columns.{IsMade-decimals}
use Rattle.column_ops.proofs.decimals.DecimalArrayColumnOps.cast_to.Goals as goal

pub returns-in_err-numbers-clause-refused : goal.returns-in_err-numbers-clause-refused
returns-in_err-numbers-clause-refused g c =
    let rows = optional_decimals c.args.self.now in
    let refused = rw (c.values.ensures, c.validity-validity.ensures.form, c.nullability.ensures) at c.in_err-numbers.ensures.refused in
    rw (first_fault-kept (λ (n : ℤ). DecimalNumber n) c.args.dtype rows (λ n. refl))
    (refused-passed_on _ c.in_err-numbers.field-0.0 c.from_residual.result c.from_residual.ensures.1 refused)

pub returns-clause-refused : goal.returns-clause-refused
returns-clause-refused g c =
    let rows = optional_decimals c.args.self.now in
    let sound = rw (c.values.ensures, c.validity-validity.ensures.form, c.nullability.ensures) at c.in_ok-numbers.ensures.refused in
    first_fault-kept (λ (n : ℤ). DecimalNumber n) c.args.dtype rows (λ n. refl) ∙ sound

pub keep_items-requires : goal.keep_items-requires
keep_items-requires g c = HasLength-arm _ _ _ _ c.validity-validity.ensures.form (ap length c.values.ensures) c.validity-validity.ensures.counted

pub returns-clause-made : goal.returns-clause-made
returns-clause-made g c =
    let own = c.args.self.now in
    let items = c.in_ok-numbers.numbers.items in
    let form = form_of c.in_ok-numbers.rows in
    let written = rw (c.values.ensures, c.validity-validity.ensures.form, c.nullability.ensures) at c.in_ok-numbers.ensures.kept in
    let typed : c.args.dtype ≡ column.Decimal own.decimal (nullability_of c.args.dtype) = dtype-of_cast (decimal_dtype_of own) c.args.dtype refl c.requires in
    rw (c.new_unchecked.ensures, c.decimal_dtype.ensures)
    (subst (λ (dtype : DType). IsMade (decimal_rows own) dtype (OfDecimals (decimal_with own.decimal items form))) (sym typed)
    (IsMade-decimals own.decimal (optional_decimals own) (nullability_of c.args.dtype) items form written))

pub new_unchecked-requires : goal.new_unchecked-requires
new_unchecked-requires g c = c.in_ok-numbers.ensures.kept.fits
