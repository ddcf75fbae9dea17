use Rattle.std.proofs.Common.{◌∙◌, ap, length, subst, sym}
use Rattle.column_base.specs.Validity.{form_of}
use Rattle.column_base.specs.ValidityForm.{HasLength, ValidityForm}
use Rattle.column_core.specs.BoolForm.{BoolForm}
use Rattle.column_core.specs.Leaf.{OfTruths, single_rows}
use Rattle.column_floats.proofs.TestedRows.{length-tested, tested_form}
use Rattle.column_floats.proofs.tested.tested_keys.Goals as goal

pub new_unchecked-requires : goal.new_unchecked-requires
new_unchecked-requires g c =
    let form = c.args.keys.now in
    let test = g.T.KeyTest.passes c.args.test.now in
    let bits = c.in_ok-bits.bits in
    let long = length-tested test form bits c.validity.ensures.counted c.in_ok-bits.ensures.bits in
    subst (λ (v : ValidityForm). HasLength v (length bits)) (sym (c.in_ok-validity.ensures.same ∙ c.validity.ensures.form)) (subst (HasLength form.validity) (sym long) c.validity.ensures.counted)

pub returns-clause-rows : goal.returns-clause-rows
returns-clause-rows g c =
    ap (λ (f : BoolForm). single_rows (OfTruths f)) c.new_unchecked.ensures
    ∙ tested_form (g.T.KeyTest.passes c.args.test.now) c.args.keys.now c.in_ok-bits.bits (form_of c.in_ok-validity.validity) c.validity.ensures.counted c.in_ok-bits.ensures.bits
    (c.in_ok-validity.ensures.same ∙ c.validity.ensures.form)
