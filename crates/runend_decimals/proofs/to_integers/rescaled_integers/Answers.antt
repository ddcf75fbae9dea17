use Rattle.std.proofs.Common.{◌∙◌, pos, ap}
use Rattle.column_base.specs.Numbers.{numbers}
use Rattle.column_base.specs.Validity.{form_of}
use Rattle.column_core.specs.Leaf.{OfNumbers, single_rows}
use Rattle.column_core.specs.PrimitiveForm.{PrimitiveForm}
use Rattle.column_core.specs.Value.{Number}
use Rattle.runend_decimals.specs.Scales.{places_more}
use Rattle.runend_decimals.proofs.ScaledRows.{stored_counted, stored_shows}
use Rattle.runend_decimals.proofs.to_integers.rescaled_integers.Goals as goal

pub new_unchecked-requires : goal.new_unchecked-requires
new_unchecked-requires g c =
    let form = c.args.values.now in
    let from = form.decimal.scale in
    stored_counted (λ n. Number n) (places_more from (pos 0)) (places_more (pos 0) from) form.validity form.numbers c.validity.ensures.counted (numbers c.in_ok-integers.integers) c.in_ok-integers.ensures.items
    (form_of c.in_ok-validity.validity) (c.in_ok-validity.ensures.same ∙ c.validity.ensures.form)

pub returns-clause-rows : goal.returns-clause-rows
returns-clause-rows g c =
    let form = c.args.values.now in
    let from = form.decimal.scale in
    ap (λ (f : PrimitiveForm). single_rows (OfNumbers f)) c.new_unchecked.ensures
    ∙ stored_shows (λ n. Number n) (places_more from (pos 0)) (places_more (pos 0) from) form.validity form.numbers c.validity.ensures.counted (numbers c.in_ok-integers.integers) c.in_ok-integers.ensures.items
    (form_of c.in_ok-validity.validity) (c.in_ok-validity.ensures.same ∙ c.validity.ensures.form)
