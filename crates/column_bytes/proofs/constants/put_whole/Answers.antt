use Rattle.std.proofs.Common.{◌∙◌, ℤ, ◌++◌, FitsSigned, ap, rules, ℕ, ◌+◌, ◌*◌, length, arith, refl}
use Rattle.std.specs.Int.{w128}
use Rattle.std.proofs.lemmas.Int.{to_z-of_z}
use Rattle.column_fields.specs.NumberBytes.{number_bytes, size_of}
use Rattle.column_bytes.proofs.ConstantWrites.{puts_whole, number_in, length-number_bytes}
use Rattle.column_fields.specs.Varint.{varint}
use Rattle.column_fields.proofs.RoomLaws.{refused}
use Rattle.column_bytes.proofs.MessageSizes.{whole_sized}
use Rattle.column_bytes.proofs.constants.put_whole.Goals as goal

pub put_value-requires : goal.put_value-requires
put_value-requires g c =
    let fits : FitsSigned w128 c.args.number = search rules in
    rw (to_z-of_z w128 c.args.number fits) (number_in c.args.dtype c.in-Primitive.ptype c.in-Primitive.nullability c.args.number c.in-Primitive.is c.requires)

pub returns-clause-ok : goal.returns-clause-ok
returns-clause-ok g c =
    let fits : FitsSigned w128 c.args.number = search rules in
    let told = c.in_ok-put_value-in-Primitive.ensures.ok ∙ ap (λ (z : ℤ). g.W.BufMut.written c.put_bytes_key.new.out ++ number_bytes c.in-Primitive.ptype z) (to_z-of_z w128 c.args.number fits) in
    puts_whole c.args.dtype c.in-Primitive.ptype c.in-Primitive.nullability c.args.number _ _ _ _ _ c.in-Primitive.is c.size_of_type.ensures c.in_ok-put_told-in-Primitive.ensures.ok c.in_ok-put_bytes_key-in-Primitive.ensures.ok told

pub returns-in_err-put_told-in-Primitive-clause-room : goal.returns-in_err-put_told-in-Primitive-clause-room
returns-in_err-put_told-in-Primitive-clause-room g c =
    let fits : FitsSigned w128 c.args.number = search rules in
    refused _ _ _ _ c.from_residual.ensures.0 (omega (arith, whole_sized c.args.dtype c.in-Primitive.ptype c.in-Primitive.nullability c.args.number (size_of c.in-Primitive.ptype) c.in-Primitive.is refl, c.in_err-put_told-in-Primitive.ensures.room))

pub returns-in_err-put_bytes_key-in-Primitive-clause-room : goal.returns-in_err-put_bytes_key-in-Primitive-clause-room
returns-in_err-put_bytes_key-in-Primitive-clause-room g c =
    let fits : FitsSigned w128 c.args.number = search rules in
    refused _ _ _ _ c.from_residual-in_err-put_bytes_key-in-Primitive.ensures.0 (omega (arith, whole_sized c.args.dtype c.in-Primitive.ptype c.in-Primitive.nullability c.args.number (size_of c.in-Primitive.ptype) c.in-Primitive.is refl, ap (λ (n : ℕ). length (varint (7 * 8 + 2) ++ varint n)) c.size_of_type.ensures, c.in_ok-put_told-in-Primitive.ensures.room, c.in_err-put_bytes_key-in-Primitive.ensures.room))

pub returns-in_err-put_value-in-Primitive-clause-room : goal.returns-in_err-put_value-in-Primitive-clause-room
returns-in_err-put_value-in-Primitive-clause-room g c =
    let fits : FitsSigned w128 c.args.number = search rules in
    refused _ _ _ _ c.from_residual-in_err-put_value-in-Primitive.ensures.0 (omega (arith, whole_sized c.args.dtype c.in-Primitive.ptype c.in-Primitive.nullability c.args.number (size_of c.in-Primitive.ptype) c.in-Primitive.is refl, ap (λ (n : ℕ). length (varint (7 * 8 + 2) ++ varint n)) c.size_of_type.ensures, ap (λ (z : ℤ). length (number_bytes c.in-Primitive.ptype z)) (to_z-of_z w128 c.args.number fits), length-number_bytes c.in-Primitive.ptype c.args.number, c.in_ok-put_told-in-Primitive.ensures.room, c.in_ok-put_bytes_key-in-Primitive.ensures.room, c.in_err-put_value-in-Primitive.ensures.room))

pub returns-clause-room : goal.returns-clause-room
returns-clause-room g c =
    let fits : FitsSigned w128 c.args.number = search rules in
    omega (arith, whole_sized c.args.dtype c.in-Primitive.ptype c.in-Primitive.nullability c.args.number (size_of c.in-Primitive.ptype) c.in-Primitive.is refl, ap (λ (n : ℕ). length (varint (7 * 8 + 2) ++ varint n)) c.size_of_type.ensures, ap (λ (z : ℤ). length (number_bytes c.in-Primitive.ptype z)) (to_z-of_z w128 c.args.number fits), length-number_bytes c.in-Primitive.ptype c.args.number, c.in_ok-put_told-in-Primitive.ensures.room, c.in_ok-put_bytes_key-in-Primitive.ensures.room, c.in_ok-put_value-in-Primitive.ensures.room)
