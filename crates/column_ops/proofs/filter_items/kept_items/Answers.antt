use Rattle.std.proofs.Common.{◌≡◌, ◌∙◌, length, map, sym, ap, subst}
use Rattle.std.specs.Prelude.{IfOk, unwrap_or}
use Rattle.column_base.specs.Mask.{mask_bits}
use Rattle.column_base.specs.ValidityForm.{flags}
use Rattle.column_base.specs.Validity.{form_of, validity_flags}
use Rattle.column_base.proofs.ValidityRows.{length-flags}
use Rattle.column_core.specs.Optionals.{optionals}
use Rattle.column_core.proofs.OptionalRows.{length-optionals}
use Rattle.column_ops.specs.Filter.{filter_rows}
use Rattle.column_ops.proofs.SelectedRows.{items-selected, mask-all, mask-none}
use Rattle.column_ops.proofs.TakenRows.{IfOk-since}
use Rattle.column_ops.proofs.filter_items.kept_items.Goals as goal

pub returns-then-is_all_valid-clause-items : goal.returns-then-is_all_valid-clause-items
returns-then-is_all_valid-clause-items g c =
    let items = c.args.items.now in
    let bits = validity_flags c.args.validity.now (length items) in
    let all = c.is_all_valid.ensures.valid (length items) c.if-is_all_valid.true in
    IfOk-since c.selected_items.result _ (λ kept. kept.items ≡ map (λ row. unwrap_or row c.args.blank) (filter_rows (mask_bits c.args.mask.now) (optionals items bits)))
    (λ kept same. same ∙ items-selected c.args.blank c.in-Values.bits items bits all ∙ sym (ap (λ mask. map (λ row. unwrap_or row c.args.blank) (filter_rows (mask_bits mask) (optionals items bits))) c.in-Values.is)) c.selected_items.ensures.items

pub returns-in-AllTrue-clause-items : goal.returns-in-AllTrue-clause-items
returns-in-AllTrue-clause-items g c =
    let items = c.args.items.now in
    let form = form_of c.args.validity.now in
    let rows = optionals items (flags form (length items)) in
    let long = sym (length-optionals items (flags form (length items)) (length-flags form (length items) c.requires.fits)) in
    let whole = mask-all c.args.mask.now _ rows c.in-AllTrue.is (c.requires.masked ∙ long) in
    subst (λ xs. IfOk c.items_or.result (λ kept. kept.items ≡ map (λ row. unwrap_or row c.args.blank) xs)) (sym whole) c.items_or.ensures.items

pub returns-in-AllFalse-clause-items : goal.returns-in-AllFalse-clause-items
returns-in-AllFalse-clause-items g c =
    let rows = optionals c.args.items.now (validity_flags c.args.validity.now (length c.args.items.now)) in
    c.new.ensures.items ∙ sym (ap (map (λ row. unwrap_or row c.args.blank)) (mask-none c.args.mask.now _ rows c.in-AllFalse.is))
