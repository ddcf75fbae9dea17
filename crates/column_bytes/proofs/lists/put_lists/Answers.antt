use Rattle.std.proofs.Common.{arith, subst, ap, length, refl}
use Rattle.column_bytes.specs.Stored.{IsStoredValidity}
use Rattle.column_bytes.proofs.ListColumns.{lists_writable, puts_list_rows, lists_sized}
use Rattle.column_fields.proofs.RoomLaws.{counted_refused}
use Rattle.runend_array.specs.Lists.{RowValidityForm}
use Rattle.column_bytes.specs.Bytes.{row_validity_field}
use Rattle.column_bytes.proofs.lists.put_lists.Goals as goal

pub returns-clause-ok : goal.returns-clause-ok
returns-clause-ok g c =
    puts_list_rows c.args.lists.now _ _ _ _ _ _ c.validity.ensures.form c.len.ensures.offsets c.in_ok-put_header.ensures.ok c.in_ok-put_row_validity.ensures.ok c.in_ok-put_parts.ensures.ok

pub returns-clause-writable : goal.returns-clause-writable
returns-clause-writable g c =
    let p = c.in_ok-put_parts.ensures in
    lists_writable c.args.levels _ c.args.lists.now c.levels_of.ensures (omega arith) p.elements p.offsets p.sizes (subst IsStoredValidity c.validity.ensures.form c.in_ok-put_row_validity.ensures.stored) c.validity.ensures.lists

pub returns-then-levels_of-levels-clause-refused : goal.returns-then-levels_of-levels-clause-refused
returns-then-levels_of-levels-clause-refused g c = λ _ w. omega (arith, c.levels_of.ensures, w.shallow)

pub returns-then-levels_of-levels-clause-deep : goal.returns-then-levels_of-levels-clause-deep
returns-then-levels_of-levels-clause-deep g c = λ _. omega (arith, c.levels_of.ensures)

pub returns-in_err-put_header-clause-room : goal.returns-in_err-put_header-clause-room
returns-in_err-put_header-clause-room g c = counted_refused _ _ _ _ c.from_residual.ensures.0 (omega (arith, lists_sized c.args.lists.now c.args.lists.now.validity _ _ _ _ refl c.len.ensures.offsets refl refl refl, c.in_err-put_header.ensures.room))

pub returns-in_err-put_row_validity-clause-room : goal.returns-in_err-put_row_validity-clause-room
returns-in_err-put_row_validity-clause-room g c = counted_refused _ _ _ _ c.from_residual-in_err-put_row_validity.ensures.0 (omega (arith, lists_sized c.args.lists.now c.args.lists.now.validity _ _ _ _ refl c.len.ensures.offsets refl refl refl, ap (λ (v : RowValidityForm). length (row_validity_field v)) c.validity.ensures.form, c.in_ok-put_header.ensures.room, (c.in_err-put_row_validity.ensures.room c.in_err-put_row_validity.ensures.only)))

pub returns-in_err-put_parts-clause-room : goal.returns-in_err-put_parts-clause-room
returns-in_err-put_parts-clause-room g c = counted_refused _ _ _ _ c.from_residual-in_err-put_parts.ensures.0 (omega (arith, lists_sized c.args.lists.now c.args.lists.now.validity _ _ _ _ refl c.len.ensures.offsets refl refl refl, ap (λ (v : RowValidityForm). length (row_validity_field v)) c.validity.ensures.form, c.in_ok-put_header.ensures.room, c.in_ok-put_row_validity.ensures.room, (c.in_err-put_parts.ensures.room c.in_err-put_parts.ensures.only)))

pub returns-clause-room : goal.returns-clause-room
returns-clause-room g c = omega (arith, lists_sized c.args.lists.now c.args.lists.now.validity _ _ _ _ refl c.len.ensures.offsets refl refl refl, ap (λ (v : RowValidityForm). length (row_validity_field v)) c.validity.ensures.form, c.in_ok-put_header.ensures.room, c.in_ok-put_row_validity.ensures.room, c.in_ok-put_parts.ensures.room)
