use Rattle.std.proofs.Common.{rules, arith, ap, length, refl}
use Rattle.column_bytes.proofs.Writes.{puts_numbers, stored_numbers}
use Rattle.column_fields.proofs.RoomLaws.{counted_refused}
use Rattle.column_bytes.proofs.MessageSizes.{not_below, numbers_counted, numbers_past, numbers_sized}
use Rattle.column_base.specs.ValidityForm.{ValidityForm}
use Rattle.column_fields.specs.Validity.{validity_field}
use Rattle.column_bytes.proofs.flat.put_numbers.Goals as goal

pub returns-clause-ok : goal.returns-clause-ok
returns-clause-ok g c =
    puts_numbers c.args.array.now _ _ _ _ _ _ _ _ _ _ _ _ c.ptype-ptype.ensures c.values.ensures.typed c.validity.ensures.form c.values.ensures.shows c.len-rows.ensures.numbers c.number_of_type-kind.ensures (rw (← c.size_of_type.ensures) (search rules)) c.in_ok-put_header.ensures.ok c.in_ok-put_validity.ensures.ok c.in_ok-put_bytes_key.ensures.ok c.in_ok-put_values.ensures.ok

pub returns-clause-stored : goal.returns-clause-stored
returns-clause-stored g c =
    stored_numbers c.args.array.now _ _ c.len-rows.result c.values.ensures.typed c.values.ensures.shows c.len-rows.ensures.numbers (omega arith) c.in_ok-put_values.ensures.fits c.validity.ensures.counted

pub returns-in_err-put_header-clause-room : goal.returns-in_err-put_header-clause-room
returns-in_err-put_header-clause-room g c = counted_refused _ _ _ _ c.from_residual.ensures.0 (omega (arith, numbers_sized c.args.array.now _ c.args.array.now.validity _ _ c.in-Some.count _ c.ptype-ptype.ensures refl c.len-rows.ensures.numbers c.number_of_type-kind.ensures (rw (← c.size_of_type.ensures) (search rules)) refl, c.in_err-put_header.ensures.room))

pub returns-in_err-put_validity-clause-room : goal.returns-in_err-put_validity-clause-room
returns-in_err-put_validity-clause-room g c = counted_refused _ _ _ _ c.from_residual-in_err-put_validity.ensures.0 (omega (arith, numbers_sized c.args.array.now _ c.args.array.now.validity _ _ c.in-Some.count _ c.ptype-ptype.ensures refl c.len-rows.ensures.numbers c.number_of_type-kind.ensures (rw (← c.size_of_type.ensures) (search rules)) refl, ap (λ (v : ValidityForm). length (validity_field v)) c.validity.ensures.form, c.in_ok-put_header.ensures.room, c.in_err-put_validity.ensures.room))

pub returns-in_err-put_bytes_key-clause-room : goal.returns-in_err-put_bytes_key-clause-room
returns-in_err-put_bytes_key-clause-room g c = counted_refused _ _ _ _ c.from_residual-in_err-put_bytes_key.ensures.0 (omega (arith, numbers_sized c.args.array.now _ c.args.array.now.validity _ _ c.in-Some.count _ c.ptype-ptype.ensures refl c.len-rows.ensures.numbers c.number_of_type-kind.ensures (rw (← c.size_of_type.ensures) (search rules)) refl, ap (λ (v : ValidityForm). length (validity_field v)) c.validity.ensures.form, c.in_ok-put_header.ensures.room, c.in_ok-put_validity.ensures.room, c.in_err-put_bytes_key.ensures.room))

pub returns-in_err-put_values-clause-room : goal.returns-in_err-put_values-clause-room
returns-in_err-put_values-clause-room g c = counted_refused _ _ _ _ c.from_residual-in_err-put_values.ensures.0 (omega (arith, numbers_sized c.args.array.now _ c.args.array.now.validity _ _ c.in-Some.count _ c.ptype-ptype.ensures refl c.len-rows.ensures.numbers c.number_of_type-kind.ensures (rw (← c.size_of_type.ensures) (search rules)) refl, ap (λ (v : ValidityForm). length (validity_field v)) c.validity.ensures.form, numbers_counted c.args.array.now _ _ _ _ c.in-Some.count c.ptype-ptype.ensures c.values.ensures.typed c.values.ensures.shows c.len-rows.ensures.numbers (rw (← c.size_of_type.ensures) (search rules)), c.in_ok-put_header.ensures.room, c.in_ok-put_validity.ensures.room, c.in_ok-put_bytes_key.ensures.room, c.in_err-put_values.ensures.room))

pub returns-clause-room : goal.returns-clause-room
returns-clause-room g c = omega (arith, numbers_sized c.args.array.now _ c.args.array.now.validity _ _ c.in-Some.count _ c.ptype-ptype.ensures refl c.len-rows.ensures.numbers c.number_of_type-kind.ensures (rw (← c.size_of_type.ensures) (search rules)) refl, ap (λ (v : ValidityForm). length (validity_field v)) c.validity.ensures.form, numbers_counted c.args.array.now _ _ _ _ c.in-Some.count c.ptype-ptype.ensures c.values.ensures.typed c.values.ensures.shows c.len-rows.ensures.numbers (rw (← c.size_of_type.ensures) (search rules)), c.in_ok-put_header.ensures.room, c.in_ok-put_validity.ensures.room, c.in_ok-put_bytes_key.ensures.room, c.in_ok-put_values.ensures.room)

pub returns-in_default-clause-room : goal.returns-in_default-clause-room
returns-in_default-clause-room g c = λ _. omega (arith, numbers_past c.args.array.now _ c.len-rows.result c.ptype-ptype.ensures c.len-rows.ensures.numbers (rw (← c.size_of_type.ensures) (not_below _ _ c.in_default.ensures)))
