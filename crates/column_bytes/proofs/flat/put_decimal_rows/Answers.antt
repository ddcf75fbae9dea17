use Rattle.std.proofs.Common.{arith, refl, rules, ap, length}
use Rattle.column_bytes.proofs.Writes.{puts_decimals, stored_decimals}
use Rattle.column_fields.proofs.RoomLaws.{counted_refused}
use Rattle.column_bytes.proofs.MessageSizes.{decimals_past, decimals_sized, not_below}
use Rattle.column_base.specs.declared.dtype.DecimalDType.{DecimalDType}
use Rattle.column_fields.specs.DecimalFields.{decimal_type}
use Rattle.column_fields.proofs.DecimalLaws.{length-decimals_bytes}
use Rattle.column_base.specs.ValidityForm.{ValidityForm}
use Rattle.column_fields.specs.Validity.{validity_field}
use Rattle.column_bytes.proofs.flat.put_decimal_rows.Goals as goal

pub returns-clause-ok : goal.returns-clause-ok
returns-clause-ok g c =
    puts_decimals c.args.array.now _ _ _ 10 _ _ _ _ _ _ _ _ c.validity.ensures.form c.decimal_dtype.ensures c.values.ensures c.len-rows.ensures.numbers refl (search rules) c.in_ok-put_header.ensures.ok c.in_ok-put_validity.ensures.ok c.in_ok-put_bytes_key.ensures.ok c.in_ok-put_decimals.ensures.ok c.in_ok-put_decimal_type.ensures.ok

pub returns-clause-stored : goal.returns-clause-stored
returns-clause-stored g c =
    stored_decimals c.args.array.now _ _ c.len-rows.result c.decimal_dtype.ensures c.values.ensures c.len-rows.ensures.numbers (omega arith) c.in_ok-put_decimals.ensures.fits c.in_ok-put_decimal_type.ensures.typed c.validity.ensures.counted

pub returns-in_err-put_header-clause-room : goal.returns-in_err-put_header-clause-room
returns-in_err-put_header-clause-room g c = counted_refused _ _ _ _ c.from_residual.ensures.0 (omega (arith, decimals_sized c.args.array.now c.args.array.now.validity c.args.array.now.decimal _ c.in-Some.count _ _ refl refl c.len-rows.ensures.numbers (search rules) refl refl, c.in_err-put_header.ensures.room))

pub returns-in_err-put_validity-clause-room : goal.returns-in_err-put_validity-clause-room
returns-in_err-put_validity-clause-room g c = counted_refused _ _ _ _ c.from_residual-in_err-put_validity.ensures.0 (omega (arith, decimals_sized c.args.array.now c.args.array.now.validity c.args.array.now.decimal _ c.in-Some.count _ _ refl refl c.len-rows.ensures.numbers (search rules) refl refl, ap (λ (v : ValidityForm). length (validity_field v)) c.validity.ensures.form, c.in_ok-put_header.ensures.room, c.in_err-put_validity.ensures.room))

pub returns-in_err-put_bytes_key-clause-room : goal.returns-in_err-put_bytes_key-clause-room
returns-in_err-put_bytes_key-clause-room g c = counted_refused _ _ _ _ c.from_residual-in_err-put_bytes_key.ensures.0 (omega (arith, decimals_sized c.args.array.now c.args.array.now.validity c.args.array.now.decimal _ c.in-Some.count _ _ refl refl c.len-rows.ensures.numbers (search rules) refl refl, ap (λ (v : ValidityForm). length (validity_field v)) c.validity.ensures.form, c.in_ok-put_header.ensures.room, c.in_ok-put_validity.ensures.room, c.in_err-put_bytes_key.ensures.room))

pub returns-in_err-put_decimals-clause-room : goal.returns-in_err-put_decimals-clause-room
returns-in_err-put_decimals-clause-room g c = counted_refused _ _ _ _ c.from_residual-in_err-put_decimals.ensures.0 (omega (arith, decimals_sized c.args.array.now c.args.array.now.validity c.args.array.now.decimal _ c.in-Some.count _ _ refl refl c.len-rows.ensures.numbers (search rules) refl refl, ap (λ (v : ValidityForm). length (validity_field v)) c.validity.ensures.form, length-decimals_bytes c.values.result.now, ap length c.values.ensures, c.len-rows.ensures.numbers, c.in-Some.ensures, c.in_ok-put_header.ensures.room, c.in_ok-put_validity.ensures.room, c.in_ok-put_bytes_key.ensures.room, c.in_err-put_decimals.ensures.room))

pub returns-in_err-put_decimal_type-clause-room : goal.returns-in_err-put_decimal_type-clause-room
returns-in_err-put_decimal_type-clause-room g c = counted_refused _ _ _ _ c.from_residual-in_err-put_decimal_type.ensures.0 (omega (arith, decimals_sized c.args.array.now c.args.array.now.validity c.args.array.now.decimal _ c.in-Some.count _ _ refl refl c.len-rows.ensures.numbers (search rules) refl refl, ap (λ (v : ValidityForm). length (validity_field v)) c.validity.ensures.form, length-decimals_bytes c.values.result.now, ap length c.values.ensures, c.len-rows.ensures.numbers, c.in-Some.ensures, ap (λ (d : DecimalDType). length (decimal_type d)) c.decimal_dtype.ensures, c.in_ok-put_header.ensures.room, c.in_ok-put_validity.ensures.room, c.in_ok-put_bytes_key.ensures.room, c.in_ok-put_decimals.ensures.room, c.in_err-put_decimal_type.ensures.room))

pub returns-clause-room : goal.returns-clause-room
returns-clause-room g c = omega (arith, decimals_sized c.args.array.now c.args.array.now.validity c.args.array.now.decimal _ c.in-Some.count _ _ refl refl c.len-rows.ensures.numbers (search rules) refl refl, ap (λ (v : ValidityForm). length (validity_field v)) c.validity.ensures.form, length-decimals_bytes c.values.result.now, ap length c.values.ensures, c.len-rows.ensures.numbers, c.in-Some.ensures, ap (λ (d : DecimalDType). length (decimal_type d)) c.decimal_dtype.ensures, c.in_ok-put_header.ensures.room, c.in_ok-put_validity.ensures.room, c.in_ok-put_bytes_key.ensures.room, c.in_ok-put_decimals.ensures.room, c.in_ok-put_decimal_type.ensures.room)

pub returns-in_default-clause-room : goal.returns-in_default-clause-room
returns-in_default-clause-room g c = λ _. omega (arith, decimals_past c.args.array.now c.len-rows.result c.len-rows.ensures.numbers (not_below _ _ c.in_default.ensures))
