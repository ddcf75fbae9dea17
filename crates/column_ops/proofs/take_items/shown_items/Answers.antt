use Rattle.std.proofs.Common.{◌≡◌, ◌∙◌, List, get_or, length, map, replicate, sym, ap, subst, true, false}
use Rattle.std.specs.Prelude.{IfOk}
use Rattle.std.proofs.lemmas.List.{length-map}
use Rattle.column_base.specs.Validity.{validity_flags}
use Rattle.column_ops.proofs.Blanked.{items_or, items_or-valid, items_or-null}
use Rattle.column_ops.proofs.TakenRows.{IfOk-since}
use Rattle.column_ops.proofs.take_items.shown_items.Goals as goal

pub returns-in-NonNullable-clause-items : goal.returns-in-NonNullable-clause-items
returns-in-NonNullable-clause-items g c =
    let positions = c.args.positions.now in
    let items = map (λ k. get_or c.args.items.now k c.args.blank) positions in
    let long = length-map positions (λ k. get_or c.args.items.now k c.args.blank) in
    let whole : items ≡ items_or items (validity_flags c.args.rows.now (length positions)) c.args.blank =
    sym (items_or-valid items c.args.blank) ∙ ap (λ n. items_or items (replicate n true) c.args.blank) long ∙ sym (ap (λ own. items_or items (validity_flags own (length positions)) c.args.blank) c.in-NonNullable.is) in
    IfOk-since c.items_or_blank.result _ (λ taken. taken.items ≡ items_or items (validity_flags c.args.rows.now (length positions)) c.args.blank) (λ taken same. same ∙ whole) c.items_or_blank.ensures.items

pub returns-in-AllValid-clause-items : goal.returns-in-AllValid-clause-items
returns-in-AllValid-clause-items g c =
    let positions = c.args.positions.now in
    let items = map (λ k. get_or c.args.items.now k c.args.blank) positions in
    let long = length-map positions (λ k. get_or c.args.items.now k c.args.blank) in
    let whole : items ≡ items_or items (validity_flags c.args.rows.now (length positions)) c.args.blank =
    sym (items_or-valid items c.args.blank) ∙ ap (λ n. items_or items (replicate n true) c.args.blank) long ∙ sym (ap (λ own. items_or items (validity_flags own (length positions)) c.args.blank) c.in-AllValid.is) in
    IfOk-since c.items_or_blank-in-AllValid.result _ (λ taken. taken.items ≡ items_or items (validity_flags c.args.rows.now (length positions)) c.args.blank) (λ taken same. same ∙ whole) c.items_or_blank-in-AllValid.ensures.items

pub returns-in-AllInvalid-clause-items : goal.returns-in-AllInvalid-clause-items
returns-in-AllInvalid-clause-items g c =
    let positions = c.args.positions.now in
    let items = map (λ k. get_or c.args.items.now k c.args.blank) positions in
    let long = length-map positions (λ k. get_or c.args.items.now k c.args.blank) in
    let none : replicate (length positions) c.args.blank ≡ items_or items (validity_flags c.args.rows.now (length positions)) c.args.blank =
    sym (ap (λ n. replicate n c.args.blank) long) ∙ sym (items_or-null items c.args.blank) ∙ ap (λ n. items_or items (replicate n false) c.args.blank) long
    ∙ sym (ap (λ own. items_or items (validity_flags own (length positions)) c.args.blank) c.in-AllInvalid.is) in
    IfOk-since c.filled_vec.result _ (λ taken. taken.items ≡ items_or items (validity_flags c.args.rows.now (length positions)) c.args.blank) (λ taken same. same ∙ none) c.filled_vec.ensures.items
