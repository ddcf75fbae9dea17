use Rattle.std.proofs.Common.{FitsSigned, ◌≡◌, ◌∙◌, None, map, ap, rules}
use Rattle.std.specs.Int.{w8}
use Rattle.std.proofs.lemmas.Int.{to_z-of_z}
use Rattle.std.specs.Prelude.{IfErr, IfOk}
use Rattle.column_base.specs.declared.dtype.DecimalDType.{DecimalDType}
use Rattle.column_core.specs.DecimalForm.{optional_decimals}
use Rattle.runend_windows.specs.Ends.{ends_of}
use Rattle.runend_windows.specs.Window.{last_end, run_rows}
use Rattle.runend_decimals.specs.Rescaling.{stored_by}
use Rattle.runend_decimals.specs.Scales.{EachDecimal, IsHeldBy, IsRescaleRefusalBy}
use Rattle.runend_decimals.proofs.ScaledRows.{by_scales}
use Rattle.runend_decimals.proofs.rescaled.rescaled_items.Goals as goal

pub returns-clause-items : goal.returns-clause-items
returns-clause-items g c =
    let form = c.args.values.now in
    let by = c.between-rescaling.result in
    let fits : FitsSigned w8 c.args.scale = search rules in
    let shown : FitsSigned w8 c.decimal_dtype.result.scale = search rules in
    let read = to_z-of_z w8 c.decimal_dtype.result.scale shown ∙ ap (λ (d : DecimalDType). d.scale) c.decimal_dtype.ensures in
    by_scales (λ dropped added. IfOk c.stored_items.result (λ items. map g.L.Limits.integer items.items ≡ map (stored_by dropped added) (optional_decimals form)))
    by.dropped.places by.added.places _ _ form.decimal.scale c.args.scale read (to_z-of_z w8 c.args.scale fits) c.between-rescaling.ensures.dropped c.between-rescaling.ensures.added c.stored_items.ensures.items

pub returns-clause-held : goal.returns-clause-held
returns-clause-held g c =
    let form = c.args.values.now in
    let ends = ends_of c.args.ends.now in
    let by = c.between-rescaling.result in
    let fits : FitsSigned w8 c.args.scale = search rules in
    let shown : FitsSigned w8 c.decimal_dtype.result.scale = search rules in
    let read = to_z-of_z w8 c.decimal_dtype.result.scale shown ∙ ap (λ (d : DecimalDType). d.scale) c.decimal_dtype.ensures in
    let has = g.L.Limits.has c.args.limits.now in
    by_scales (λ dropped added. IfOk c.stored_items.result (λ items. EachDecimal (IsHeldBy dropped added has) (run_rows ends (optional_decimals form) 0 (last_end ends))))
    by.dropped.places by.added.places _ _ form.decimal.scale c.args.scale read (to_z-of_z w8 c.args.scale fits) c.between-rescaling.ensures.dropped c.between-rescaling.ensures.added c.stored_items.ensures.held

pub returns-clause-refused : goal.returns-clause-refused
returns-clause-refused g c =
    let form = c.args.values.now in
    let ends = ends_of c.args.ends.now in
    let by = c.between-rescaling.result in
    let fits : FitsSigned w8 c.args.scale = search rules in
    let shown : FitsSigned w8 c.decimal_dtype.result.scale = search rules in
    let read = to_z-of_z w8 c.decimal_dtype.result.scale shown ∙ ap (λ (d : DecimalDType). d.scale) c.decimal_dtype.ensures in
    let has = g.L.Limits.has c.args.limits.now in
    by_scales (λ dropped added. IfErr c.stored_items.result (IsRescaleRefusalBy None dropped added has (run_rows ends (optional_decimals form) 0 (last_end ends))))
    by.dropped.places by.added.places _ _ form.decimal.scale c.args.scale read (to_z-of_z w8 c.args.scale fits) c.between-rescaling.ensures.dropped c.between-rescaling.ensures.added c.stored_items.ensures.refused
