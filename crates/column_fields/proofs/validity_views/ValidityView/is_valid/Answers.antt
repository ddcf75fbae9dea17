use Rattle.std.proofs.Common.{sym, ap, subst, ◌∙◌}
use Rattle.column_base.specs.ValidityForm.{flag_at}
use Rattle.column_fields.specs.ValidityViews.{form_in, HoldsRows}
use Rattle.column_fields.specs.declared.validity_views.ValidityView.{ValidityView}
use Rattle.column_fields.proofs.validity_views.ValidityView.is_valid.Goals as goal

pub returns-in-NonNullable : goal.returns-in-NonNullable
returns-in-NonNullable c = λ rows h lt. ap (λ (v : ValidityView). flag_at (form_in rows v) c.args.row) (sym c.in-NonNullable.is)

pub returns-in-AllValid : goal.returns-in-AllValid
returns-in-AllValid c = λ rows h lt. ap (λ (v : ValidityView). flag_at (form_in rows v) c.args.row) (sym c.in-AllValid.is)

pub returns-in-AllInvalid : goal.returns-in-AllInvalid
returns-in-AllInvalid c = λ rows h lt. ap (λ (v : ValidityView). flag_at (form_in rows v) c.args.row) (sym c.in-AllInvalid.is)

pub returns-in-Bits : goal.returns-in-Bits
returns-in-Bits c = λ rows h lt.
    c.is_set.ensures rows (subst (λ (v : ValidityView). HoldsRows rows v) c.in-Bits.is h) lt ∙ ap (λ (v : ValidityView). flag_at (form_in rows v) c.args.row) (sym c.in-Bits.is)
