use Rattle.std.proofs.Common.{◌≡◌, ◌∙◌, ℤ, List, length, sym, subst}
use Rattle.column_base.specs.Validity.{form_of}
use Rattle.column_base.specs.ValidityForm.{HasLength, ValidityForm}
use Rattle.runend_decimals.proofs.from_integers.widened.Goals as goal

pub new_unchecked-requires : goal.new_unchecked-requires
new_unchecked-requires g c =
    let form = c.args.integers.now in
    let same : form_of c.in_ok-validity.validity ≡ form.validity = c.in_ok-validity.ensures.same ∙ c.validity.ensures.form in
    let items : c.in_ok-items.items.items ≡ form.numbers = c.in_ok-items.ensures.items ∙ c.values.ensures.shows in
    subst (λ (v : ValidityForm). HasLength v (length c.in_ok-items.items.items)) (sym same)
    (subst (λ (ns : List ℤ). HasLength form.validity (length ns)) (sym items) c.validity.ensures.counted)
