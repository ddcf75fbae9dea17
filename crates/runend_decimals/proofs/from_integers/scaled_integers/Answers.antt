use Rattle.std.proofs.Common.{◌≡◌, ◌∙◌, None, map, min, length, ap, subst}
use Rattle.std.specs.Prelude.{IfErr, IfOk, option_map}
use Rattle.column_base.specs.ValidityForm.{nullability_in}
use Rattle.column_base.specs.declared.dtype.DType.TheVariants as types
use Rattle.column_core.specs.DecimalForm.{DecimalForm, decimal_dtype_of, optional_decimals}
use Rattle.column_core.specs.Leaf.{OfDecimals, single_rows}
use Rattle.runend_windows.specs.Ends.{ends_of}
use Rattle.runend_windows.specs.Window.{last_end, run_rows}
use Rattle.runend_decimals.specs.Digits.{HasDigits}
use Rattle.runend_decimals.specs.Scales.{decimal_row, rescaled, EachDecimal, IsHeldAt, IsRescaleRefusal}
use Rattle.runend_decimals.proofs.from_integers.scaled_integers.Goals as goal

pub rescaled_decimals-requires-clause-paired : goal.rescaled_decimals-requires-clause-paired
rescaled_decimals-requires-clause-paired g c =
    ap (λ (form : DecimalForm). length (optional_decimals form)) c.in_ok-widened.ensures.widened ∙ c.requires.paired

pub returns-clause-rows : goal.returns-clause-rows
returns-clause-rows g c =
    subst (λ (form : DecimalForm). IfOk c.rescaled_decimals.result (λ decimals. single_rows (OfDecimals decimals) ≡ map (λ n. decimal_row (option_map (rescaled form.decimal.scale c.args.to.scale) n)) (optional_decimals form)))
    c.in_ok-widened.ensures.widened c.rescaled_decimals.ensures.rows

pub returns-clause-dtype : goal.returns-clause-dtype
returns-clause-dtype g c =
    subst (λ (form : DecimalForm). IfOk c.rescaled_decimals.result (λ decimals. decimal_dtype_of decimals ≡ types.Decimal c.args.to (nullability_in form.validity)))
    c.in_ok-widened.ensures.widened c.rescaled_decimals.ensures.dtype

pub returns-clause-held : goal.returns-clause-held
returns-clause-held g c =
    let ends = ends_of c.args.ends.now in
    let has = HasDigits (min c.args.to.precision 38) in
    subst (λ (form : DecimalForm). IfOk c.rescaled_decimals.result (λ decimals. EachDecimal (IsHeldAt form.decimal.scale c.args.to.scale has) (run_rows ends (optional_decimals form) 0 (last_end ends))))
    c.in_ok-widened.ensures.widened c.rescaled_decimals.ensures.held

pub returns-clause-refused : goal.returns-clause-refused
returns-clause-refused g c =
    let ends = ends_of c.args.ends.now in
    let has = HasDigits (min c.args.to.precision 38) in
    subst (λ (form : DecimalForm). IfErr c.rescaled_decimals.result (IsRescaleRefusal None form.decimal.scale c.args.to.scale has (run_rows ends (optional_decimals form) 0 (last_end ends))))
    c.in_ok-widened.ensures.widened c.rescaled_decimals.ensures.refused
