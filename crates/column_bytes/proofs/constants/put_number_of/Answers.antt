use Rattle.std.proofs.Common.{◌∙◌, ℤ, ◌++◌, FitsSigned, ap, refl, rules, arith}
use Rattle.std.specs.Int.{w128}
use Rattle.std.proofs.lemmas.Int.{to_z-of_z}
use Rattle.column_fields.specs.DecimalBytes.{decimal_bytes}
use Rattle.column_bytes.proofs.ConstantWrites.{puts_decimal}
use Rattle.column_fields.proofs.RoomLaws.{refused}
use Rattle.column_bytes.proofs.MessageSizes.{flat_long}
use Rattle.column_fields.proofs.DecimalLaws.{length-decimal_bytes}
use Rattle.column_bytes.specs.Values.{some_validity}
use Rattle.column_bytes.proofs.constants.put_number_of.Goals as goal

pub returns-clause-ok : goal.returns-clause-ok
returns-clause-ok g c =
    let fits : FitsSigned w128 c.args.number = search rules in
    let told = c.in_ok-put_decimal.ensures.ok ∙ ap (λ (z : ℤ). g.W.BufMut.written c.put_bytes_key.new.out ++ decimal_bytes z) (to_z-of_z w128 c.args.number fits) in
    puts_decimal c.args.nullability c.args.number 16 _ _ _ _ refl c.in_ok-put_told.ensures.ok c.in_ok-put_bytes_key.ensures.ok told

pub returns-in_err-put_told-clause-room : goal.returns-in_err-put_told-clause-room
returns-in_err-put_told-clause-room g c = refused _ _ _ _ c.from_residual.ensures.0 (omega (arith, flat_long (some_validity c.args.nullability) (decimal_bytes c.args.number) 16 (length-decimal_bytes c.args.number), c.in_err-put_told.ensures.room))

pub returns-in_err-put_bytes_key-clause-room : goal.returns-in_err-put_bytes_key-clause-room
returns-in_err-put_bytes_key-clause-room g c = refused _ _ _ _ c.from_residual-in_err-put_bytes_key.ensures.0 (omega (arith, flat_long (some_validity c.args.nullability) (decimal_bytes c.args.number) 16 (length-decimal_bytes c.args.number), c.in_ok-put_told.ensures.room, c.in_err-put_bytes_key.ensures.room))

pub returns-in_err-put_decimal-clause-room : goal.returns-in_err-put_decimal-clause-room
returns-in_err-put_decimal-clause-room g c = refused _ _ _ _ c.from_residual-in_err-put_decimal.ensures.0 (omega (arith, flat_long (some_validity c.args.nullability) (decimal_bytes c.args.number) 16 (length-decimal_bytes c.args.number), length-decimal_bytes, c.in_ok-put_told.ensures.room, c.in_ok-put_bytes_key.ensures.room, c.in_err-put_decimal.ensures.room))

pub returns-clause-room : goal.returns-clause-room
returns-clause-room g c = omega (arith, flat_long (some_validity c.args.nullability) (decimal_bytes c.args.number) 16 (length-decimal_bytes c.args.number), length-decimal_bytes, c.in_ok-put_told.ensures.room, c.in_ok-put_bytes_key.ensures.room, c.in_ok-put_decimal.ensures.room)
