use Rattle.std.proofs.Common.{sym, arith, ℕ, ◌+◌, ◌*◌, ◌++◌, ap, length, List, refl, ◌∙◌}
use Rattle.column_fields.proofs.LengthLaws.{puts_bytes}
use Rattle.column_fields.proofs.ListFieldLaws.{puts_lists, list_fields_long}
use Rattle.column_bytes.specs.Bytes.{leaf_message, index_message}
use Rattle.column_bytes.proofs.ListColumns.{elements_long, elements_written, index_stored, index_field}
use Rattle.column_fields.proofs.RoomLaws.{counted_refused}
use Rattle.column_fields.specs.Varint.{varint}
use Rattle.column_fields.specs.Field.{bytes_field}
use Rattle.column_fields.proofs.SizeLaws.{bytes_long}
use Rattle.column_bytes.proofs.lists.put_parts.Goals as goal

pub returns-clause-ok : goal.returns-clause-ok
returns-clause-ok g c =
    let l = c.args.lists.now in
    let elements = puts_bytes 17 c.in_ok-elements.elements (leaf_message l.elements) _ _ _ (sym (elements_long l.elements _ c.in_ok-elements.elements c.elements.ensures c.in_ok-elements.ensures.size)) c.in_ok-put_bytes_key.ensures.ok (elements_written l.elements _ _ _ c.elements-2.ensures c.in_ok-put_elements.ensures.ok) in
    let offsets = index_field 18 l.offsets _ _ _ c.offsets.ensures.index c.offsets.ensures.form c.in_ok-put_index_field.ensures.stored c.in_ok-put_index_field.ensures.ok in
    let sizes = index_field 19 l.sizes _ _ _ c.sizes.ensures.index c.sizes.ensures.form c.in_ok-put_index_field-2.ensures.stored c.in_ok-put_index_field-2.ensures.ok in
    puts_lists (leaf_message l.elements) (index_message l.offsets) (index_message l.sizes) _ _ _ _ elements offsets sizes

pub returns-clause-offsets : goal.returns-clause-offsets
returns-clause-offsets g c = index_stored c.args.lists.now.offsets _ c.offsets.ensures.index c.offsets.ensures.form c.in_ok-put_index_field.ensures.stored

pub returns-clause-sizes : goal.returns-clause-sizes
returns-clause-sizes g c = index_stored c.args.lists.now.sizes _ c.sizes.ensures.index c.sizes.ensures.form c.in_ok-put_index_field-2.ensures.stored

pub returns-in_err-elements-clause-room : goal.returns-in_err-elements-clause-room
returns-in_err-elements-clause-room g c = counted_refused _ _ _ _ c.from_residual.ensures.0 (omega (arith, list_fields_long (leaf_message c.args.lists.now.elements) (index_message c.args.lists.now.offsets) (index_message c.args.lists.now.sizes), bytes_long 17 (leaf_message c.args.lists.now.elements), elements_long c.args.lists.now.elements _ _ c.elements.ensures refl, c.in_err-elements.ensures.past.past))

pub returns-in_err-put_bytes_key-clause-room : goal.returns-in_err-put_bytes_key-clause-room
returns-in_err-put_bytes_key-clause-room g c = counted_refused _ _ _ _ c.from_residual-in_err-put_bytes_key.ensures.0 (omega (arith, list_fields_long (leaf_message c.args.lists.now.elements) (index_message c.args.lists.now.offsets) (index_message c.args.lists.now.sizes), bytes_long 17 (leaf_message c.args.lists.now.elements), elements_long c.args.lists.now.elements _ _ c.elements.ensures refl, ap (λ (n : ℕ). length (varint (17 * 8 + 2) ++ varint n)) (c.in_ok-elements.ensures.size ∙ sym (elements_long c.args.lists.now.elements _ _ c.elements.ensures refl)), c.in_err-put_bytes_key.ensures.room))

pub returns-in_err-put_elements-clause-room : goal.returns-in_err-put_elements-clause-room
returns-in_err-put_elements-clause-room g c = counted_refused _ _ _ _ c.from_residual-in_err-put_elements.ensures.0 (omega (arith, list_fields_long (leaf_message c.args.lists.now.elements) (index_message c.args.lists.now.offsets) (index_message c.args.lists.now.sizes), bytes_long 17 (leaf_message c.args.lists.now.elements), elements_long c.args.lists.now.elements _ _ c.elements.ensures refl, ap (λ (n : ℕ). length (varint (17 * 8 + 2) ++ varint n)) (c.in_ok-elements.ensures.size ∙ sym (elements_long c.args.lists.now.elements _ _ c.elements.ensures refl)), elements_long c.args.lists.now.elements _ _ c.elements-2.ensures refl, c.in_ok-put_bytes_key.ensures.room, (c.in_err-put_elements.ensures.room c.in_err-put_elements.ensures.only)))

pub returns-in_err-put_index_field-clause-room : goal.returns-in_err-put_index_field-clause-room
returns-in_err-put_index_field-clause-room g c = counted_refused _ _ _ _ c.from_residual-in_err-put_index_field.ensures.0 (omega (arith, list_fields_long (leaf_message c.args.lists.now.elements) (index_message c.args.lists.now.offsets) (index_message c.args.lists.now.sizes), bytes_long 17 (leaf_message c.args.lists.now.elements), elements_long c.args.lists.now.elements _ _ c.elements.ensures refl, ap (λ (n : ℕ). length (varint (17 * 8 + 2) ++ varint n)) (c.in_ok-elements.ensures.size ∙ sym (elements_long c.args.lists.now.elements _ _ c.elements.ensures refl)), elements_long c.args.lists.now.elements _ _ c.elements-2.ensures refl, ap (λ (x : List ℕ). length (bytes_field 18 x)) (c.put_index_field.ensures.same ∙ ap index_message c.offsets.ensures.form), c.in_ok-put_bytes_key.ensures.room, c.in_ok-put_elements.ensures.room, (c.in_err-put_index_field.ensures.room c.in_err-put_index_field.ensures.only)))

pub returns-in_err-put_index_field-2-clause-room : goal.returns-in_err-put_index_field-2-clause-room
returns-in_err-put_index_field-2-clause-room g c = counted_refused _ _ _ _ c.from_residual-in_err-put_index_field-2.ensures.0 (omega (arith, list_fields_long (leaf_message c.args.lists.now.elements) (index_message c.args.lists.now.offsets) (index_message c.args.lists.now.sizes), bytes_long 17 (leaf_message c.args.lists.now.elements), elements_long c.args.lists.now.elements _ _ c.elements.ensures refl, ap (λ (n : ℕ). length (varint (17 * 8 + 2) ++ varint n)) (c.in_ok-elements.ensures.size ∙ sym (elements_long c.args.lists.now.elements _ _ c.elements.ensures refl)), elements_long c.args.lists.now.elements _ _ c.elements-2.ensures refl, ap (λ (x : List ℕ). length (bytes_field 18 x)) (c.put_index_field.ensures.same ∙ ap index_message c.offsets.ensures.form), ap (λ (x : List ℕ). length (bytes_field 19 x)) (c.put_index_field-2.ensures.same ∙ ap index_message c.sizes.ensures.form), c.in_ok-put_bytes_key.ensures.room, c.in_ok-put_elements.ensures.room, c.in_ok-put_index_field.ensures.room, (c.in_err-put_index_field-2.ensures.room c.in_err-put_index_field-2.ensures.only)))

pub returns-clause-room : goal.returns-clause-room
returns-clause-room g c = omega (arith, list_fields_long (leaf_message c.args.lists.now.elements) (index_message c.args.lists.now.offsets) (index_message c.args.lists.now.sizes), bytes_long 17 (leaf_message c.args.lists.now.elements), elements_long c.args.lists.now.elements _ _ c.elements.ensures refl, ap (λ (n : ℕ). length (varint (17 * 8 + 2) ++ varint n)) (c.in_ok-elements.ensures.size ∙ sym (elements_long c.args.lists.now.elements _ _ c.elements.ensures refl)), elements_long c.args.lists.now.elements _ _ c.elements-2.ensures refl, ap (λ (x : List ℕ). length (bytes_field 18 x)) (c.put_index_field.ensures.same ∙ ap index_message c.offsets.ensures.form), ap (λ (x : List ℕ). length (bytes_field 19 x)) (c.put_index_field-2.ensures.same ∙ ap index_message c.sizes.ensures.form), c.in_ok-put_bytes_key.ensures.room, c.in_ok-put_elements.ensures.room, c.in_ok-put_index_field.ensures.room, c.in_ok-put_index_field-2.ensures.room)
