use Rattle.std.specs.Int.{w8}
use Rattle.std.proofs.lemmas.Int.{to_z-of_z}
use Rattle.std.proofs.Common.{FitsSigned, ◌≡◌, ◌∙◌, None, map, map-id, min, ap, sym, rules}
use Rattle.column_base.specs.Validity.{form_of}
use Rattle.column_core.specs.DecimalForm.{DecimalForm, optional_decimals}
use Rattle.column_core.specs.Leaf.{OfDecimals, single_rows}
use Rattle.column_core.specs.Value.{DecimalNumber}
use Rattle.runend_windows.specs.Ends.{ends_of}
use Rattle.runend_windows.specs.Window.{last_end, run_rows}
use Rattle.runend_decimals.specs.Digits.{HasDigits}
use Rattle.runend_decimals.specs.Rescaling.{stored_at}
use Rattle.runend_decimals.specs.Scales.{places_more, IsRescaleRefusal}
use Rattle.runend_decimals.proofs.ScaledRows.{held_within, passed_on, refused_within, small_digits, stored_counted, stored_shows}
use Rattle.runend_decimals.proofs.rescaled.rescaled_decimals.Goals as goal

pub rescaled_items-requires-clause-small : goal.rescaled_items-requires-clause-small
rescaled_items-requires-clause-small g c = λ n within. small_digits c.of-limits.result.limit c.args.to.precision n c.of-limits.ensures within

pub new_unchecked-requires : goal.new_unchecked-requires
new_unchecked-requires g c =
    let form = c.args.values.now in
    let from = form.decimal.scale in
    let items = c.in_ok-items.items.items in
    let fits : FitsSigned w8 c.args.to.scale = search rules in
    let is : items ≡ map (stored_at from c.args.to.scale) (optional_decimals form) = sym (map-id items) ∙ (rw (to_z-of_z w8 c.args.to.scale fits) at c.in_ok-items.ensures.items) in
    stored_counted (λ n. DecimalNumber n) (places_more from c.args.to.scale) (places_more c.args.to.scale from) form.validity form.numbers c.validity.ensures.counted items is
    (form_of c.in_ok-validity.validity) (c.in_ok-validity.ensures.same ∙ c.validity.ensures.form)

pub returns-clause-rows : goal.returns-clause-rows
returns-clause-rows g c =
    let form = c.args.values.now in
    let from = form.decimal.scale in
    let items = c.in_ok-items.items.items in
    let fits : FitsSigned w8 c.args.to.scale = search rules in
    let is : items ≡ map (stored_at from c.args.to.scale) (optional_decimals form) = sym (map-id items) ∙ (rw (to_z-of_z w8 c.args.to.scale fits) at c.in_ok-items.ensures.items) in
    ap (λ (f : DecimalForm). single_rows (OfDecimals f)) c.new_unchecked.ensures
    ∙ stored_shows (λ n. DecimalNumber n) (places_more from c.args.to.scale) (places_more c.args.to.scale from) form.validity form.numbers c.validity.ensures.counted items is
    (form_of c.in_ok-validity.validity) (c.in_ok-validity.ensures.same ∙ c.validity.ensures.form)

pub returns-clause-held : goal.returns-clause-held
returns-clause-held g c =
    let fits : FitsSigned w8 c.args.to.scale = search rules in
    let form = c.args.values.now in
    let ends = ends_of c.args.ends.now in
    held_within form.decimal.scale c.args.to.scale c.of-limits.result.limit (min c.args.to.precision 38) c.of-limits.ensures (run_rows ends (optional_decimals form) 0 (last_end ends)) (rw (to_z-of_z w8 c.args.to.scale fits) at c.in_ok-items.ensures.held)

pub returns-in_err-items-clause-refused : goal.returns-in_err-items-clause-refused
returns-in_err-items-clause-refused g c =
    let fits : FitsSigned w8 c.args.to.scale = search rules in
    let form = c.args.values.now in
    let ends = ends_of c.args.ends.now in
    let digits = min c.args.to.precision 38 in
    let shown = run_rows ends (optional_decimals form) 0 (last_end ends) in
    let error = c.in_err-items.field-0.0 in
    passed_on (IsRescaleRefusal None form.decimal.scale c.args.to.scale (HasDigits digits) shown) error c.from_residual-in_err-items.result c.from_residual-in_err-items.ensures.1
    (refused_within form.decimal.scale c.args.to.scale c.of-limits.result.limit digits c.of-limits.ensures shown error (rw (to_z-of_z w8 c.args.to.scale fits) at c.in_err-items.ensures.refused))
