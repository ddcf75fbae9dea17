use Rattle.std.proofs.Common.{false, sym, ap, subst, ◌∙◌}
use Rattle.std.proofs.lemmas.Option.{get_or_from_slice_get}
use Rattle.column_base.specs.Validity.{form_of}
use Rattle.column_base.specs.ValidityForm.{ValidityForm, HasRow, flag_at}
use Rattle.column_base.proofs.validity.Validity.is_valid.Goals as goal

pub returns-in-NonNullable : goal.returns-in-NonNullable
returns-in-NonNullable g c = sym (ap (λ own. flag_at (form_of own) c.args.index) c.in-NonNullable.is)

pub returns-in-AllValid : goal.returns-in-AllValid
returns-in-AllValid g c = sym (ap (λ own. flag_at (form_of own) c.args.index) c.in-AllValid.is)

pub returns-in-AllInvalid : goal.returns-in-AllInvalid
returns-in-AllInvalid g c = sym (ap (λ own. flag_at (form_of own) c.args.index) c.in-AllInvalid.is)

pub value-requires : goal.value-requires
value-requires g c = subst (λ (form : ValidityForm). HasRow form c.args.index) (ap form_of c.in-Bits.is) c.requires

pub returns-in-Bits : goal.returns-in-Bits
returns-in-Bits g c =
    sym (get_or_from_slice_get c.in-Bits.bits c.args.index c.value.result false c.value.ensures)
    ∙ sym (ap (λ own. flag_at (form_of own) c.args.index) c.in-Bits.is)
