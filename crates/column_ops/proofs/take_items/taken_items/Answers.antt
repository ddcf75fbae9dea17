use Rattle.std.proofs.Common.{◌≡◌, ◌∙◌, get_or, length, map, sym, ap}
use Rattle.std.specs.Prelude.{unwrap_or}
use Rattle.column_base.specs.Validity.{form_of, validity_flags}
use Rattle.column_base.proofs.ValidityRows.{length-flags}
use Rattle.column_core.specs.Optionals.{optionals}
use Rattle.column_ops.specs.Take.{position_numbers, take_rows}
use Rattle.column_ops.proofs.Blanked.{items_or}
use Rattle.column_ops.proofs.TakenRows.{IfOk-since, items-at, items-shown, positions-valid}
use Rattle.column_ops.proofs.take_items.taken_items.Goals as goal

pub items_at-requires : goal.items_at-requires
items_at-requires g c =
    let positions = c.args.positions.now in
    let marks = validity_flags c.args.places.now (length positions) in
    positions-valid positions marks (length c.args.items.now) (c.is_all_valid-then-is_all_valid.ensures.valid (length positions) c.if-is_all_valid-2.true) c.requires.within

pub returns-then-is_all_valid-2-clause-items : goal.returns-then-is_all_valid-2-clause-items
returns-then-is_all_valid-2-clause-items g c =
    let items = c.args.items.now in
    let positions = c.args.positions.now in
    let bits = validity_flags c.args.validity.now (length items) in
    let marks = validity_flags c.args.places.now (length positions) in
    let all_items = c.is_all_valid.ensures.valid (length items) c.if-is_all_valid.true in
    let all_marks = c.is_all_valid-then-is_all_valid.ensures.valid (length positions) c.if-is_all_valid-2.true in
    IfOk-since c.items_at.result _ (λ taken. taken.items ≡ map (λ row. unwrap_or row c.args.blank) (take_rows (optionals items bits) (position_numbers (optionals positions marks))))
    (λ taken same. items-at c.args.blank items bits positions marks taken.items all_items all_marks same) c.items_at.ensures.items

pub returns-clause-items : goal.returns-clause-items
returns-clause-items g c =
    let items = c.args.items.now in
    let positions = c.args.positions.now in
    let bits = validity_flags c.args.validity.now (length items) in
    let marks = validity_flags c.args.places.now (length positions) in
    let all = map (λ k. get_or items k c.args.blank) positions in
    let told = ap (λ rows. items_or all rows c.args.blank) c.requires.shown ∙ items-shown c.args.blank items bits positions marks (length-flags (form_of c.args.validity.now) (length items) c.requires.fits) in
    IfOk-since c.shown_items.result _ (λ taken. taken.items ≡ map (λ row. unwrap_or row c.args.blank) (take_rows (optionals items bits) (position_numbers (optionals positions marks))))
    (λ taken same. same ∙ told) c.shown_items.ensures.items
