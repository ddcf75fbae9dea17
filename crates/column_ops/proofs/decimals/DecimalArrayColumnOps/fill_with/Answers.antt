use Rattle.std.proofs.Common.{ℤ, FitsSigned, length, ap, rules}
use Rattle.std.specs.Int.{w128}
use Rattle.std.proofs.lemmas.Int.{to_z-of_z}
use Rattle.column_base.specs.declared.dtype.Nullability.TheVariants.{NonNullable}
use Rattle.column_base.specs.Validity.{form_of}
use Rattle.column_core.specs.Value.{DecimalNumber}
use Rattle.column_core.specs.DecimalForm.{optional_decimals}
use Rattle.column_ops.specs.Fill.{fill_rows}
use Rattle.column_ops.proofs.Made.{fill_rows-map}
use Rattle.column_ops.proofs.Columns.{IsMade-decimals}
use Rattle.column_ops.proofs.Arms.{HasLength-arm}
use Rattle.column_ops.proofs.decimals.DecimalArrayColumnOps.fill_with.Goals as goal

pub returns-clause-made : goal.returns-clause-made
returns-clause-made g c =
    let own = c.args.self.now in
    let number = c.in-Decimal.number in
    let fits : FitsSigned w128 number = search rules in
    let written = rw (to_z-of_z w128 number fits, c.values.ensures, c.validity.ensures.form) at c.in_ok-filled.ensures.filled in
    rw (c.in-Decimal.is, c.new_unchecked.ensures, c.decimal_dtype.ensures, fill_rows-map (λ (n : ℤ). DecimalNumber n) (optional_decimals own) number)
    (IsMade-decimals own.decimal (fill_rows (optional_decimals own) number) NonNullable c.in_ok-filled.filled.items (form_of c.in_ok-filled.rows) written)

pub fill_items-requires : goal.fill_items-requires
fill_items-requires g c = HasLength-arm _ _ _ _ c.validity.ensures.form (ap length c.values.ensures) c.validity.ensures.counted

pub new_unchecked-requires : goal.new_unchecked-requires
new_unchecked-requires g c = c.in_ok-filled.ensures.filled.fits
