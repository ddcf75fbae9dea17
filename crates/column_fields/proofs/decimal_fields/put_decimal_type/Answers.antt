use Rattle.std.proofs.Common.{rules, ap, ◌∙◌, arith, ℕ, length}
use Rattle.std.specs.Int.{w8}
use Rattle.std.specs.Int.RustNames.{FitsSigned}
use Rattle.std.proofs.lemmas.Int.{to_z-of_z}
use Rattle.column_fields.specs.DecimalFields.{scale_number}
use Rattle.column_fields.proofs.DecimalFieldLaws.{puts_type}
use Rattle.column_fields.proofs.RoomLaws.{refused}
use Rattle.column_fields.proofs.SizeLaws.{decimal_type_long}
use Rattle.column_fields.specs.Field.{number_field}
use Rattle.column_fields.proofs.decimal_fields.put_decimal_type.Goals as goal

pub returns-clause-ok : goal.returns-clause-ok
returns-clause-ok g c =
    let fits : FitsSigned w8 c.args.decimal.scale = search rules in
    puts_type c.args.decimal _ _ _ _ _ c.from.ensures (c.number_of_scale.ensures.number ∙ ap scale_number (to_z-of_z w8 c.args.decimal.scale fits)) c.in_ok-put_number.ensures.ok c.in_ok-put_number-2.ensures.ok

pub returns-in_err-put_number-clause-room : goal.returns-in_err-put_number-clause-room
returns-in_err-put_number-clause-room g c =
    let precision = ap (λ (n : ℕ). length (number_field 14 n)) c.from.ensures in
    refused _ _ _ _ c.from_residual.ensures.0 (omega (arith, decimal_type_long c.args.decimal, precision, c.in_err-put_number.ensures.room))

pub returns-in_err-put_number-2-clause-room : goal.returns-in_err-put_number-2-clause-room
returns-in_err-put_number-2-clause-room g c =
    let fits : FitsSigned w8 c.args.decimal.scale = search rules in
    let scale = ap (λ (n : ℕ). length (number_field 15 n)) (c.number_of_scale.ensures.number ∙ ap scale_number (to_z-of_z w8 c.args.decimal.scale fits)) in
    let precision = ap (λ (n : ℕ). length (number_field 14 n)) c.from.ensures in
    refused _ _ _ _ c.from_residual-in_err-put_number-2.ensures.0 (omega (arith, decimal_type_long c.args.decimal, scale, precision, c.in_err-put_number-2.ensures.room, c.in_ok-put_number.ensures.room))

pub returns-clause-room : goal.returns-clause-room
returns-clause-room g c =
    let fits : FitsSigned w8 c.args.decimal.scale = search rules in
    let scale = ap (λ (n : ℕ). length (number_field 15 n)) (c.number_of_scale.ensures.number ∙ ap scale_number (to_z-of_z w8 c.args.decimal.scale fits)) in
    let precision = ap (λ (n : ℕ). length (number_field 14 n)) c.from.ensures in
    omega (arith, decimal_type_long c.args.decimal, scale, precision, c.in_ok-put_number.ensures.room, c.in_ok-put_number-2.ensures.room)
