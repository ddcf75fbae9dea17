use Rattle.std.proofs.Common.{◌≡◌, ◌∙◌, length, sym, ap, subst}
use Rattle.std.specs.Prelude.{IfOk}
use Rattle.column_base.specs.Validity.{validity_flags}
use Rattle.column_ops.proofs.Blanked.{items_or, items_or-valid, items_or-null}
use Rattle.column_ops.proofs.items_or.items_or.Goals as goal

pub returns-in_ok-from_slice-in-NonNullable-clause-items : goal.returns-in_ok-from_slice-in-NonNullable-clause-items
returns-in_ok-from_slice-in-NonNullable-clause-items g c =
    let items = c.args.items.now in
    c.in_ok-from_slice-in-NonNullable.ensures.items ∙ sym (items_or-valid items c.args.instead) ∙ sym (ap (λ own. items_or items (validity_flags own (length items)) c.args.instead) c.in-NonNullable.is)

pub returns-in_ok-from_slice-in-AllValid-clause-items : goal.returns-in_ok-from_slice-in-AllValid-clause-items
returns-in_ok-from_slice-in-AllValid-clause-items g c =
    let items = c.args.items.now in
    c.in_ok-from_slice-in-AllValid.ensures.items ∙ sym (items_or-valid items c.args.instead) ∙ sym (ap (λ own. items_or items (validity_flags own (length items)) c.args.instead) c.in-AllValid.is)

pub returns-in-AllInvalid-clause-items : goal.returns-in-AllInvalid-clause-items
returns-in-AllInvalid-clause-items g c =
    let items = c.args.items.now in
    let blank = sym (items_or-null items c.args.instead) ∙ sym (ap (λ own. items_or items (validity_flags own (length items)) c.args.instead) c.in-AllInvalid.is) in
    subst (λ all. IfOk c.filled_vec.result (λ shown. shown.items ≡ all)) blank c.filled_vec.ensures.items
