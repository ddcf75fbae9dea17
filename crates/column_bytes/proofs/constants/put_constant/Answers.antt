use Rattle.std.proofs.Common.{◌∙◌, ap, arith, subst, length, refl}
use Rattle.std.specs.Prelude.{option_map}
use Rattle.column_base.specs.declared.dtype.DType.{DType}
use Rattle.column_core.specs.ScalarForm.{ScalarForm}
use Rattle.column_core.specs.Value.{IsRowOf, Single}
use Rattle.column_bytes.specs.Bytes.{kind_number}
use Rattle.column_bytes.specs.Values.{IsStoredType, type_fields, value_fields}
use Rattle.column_bytes.proofs.ConstantWrites.{puts_constant}
use Rattle.column_fields.proofs.RoomLaws.{counted_refused}
use Rattle.column_bytes.proofs.MessageSizes.{constant_sized}
use Rattle.column_bytes.proofs.constants.put_constant.Goals as goal

pub returns-clause-ok : goal.returns-clause-ok
returns-clause-ok g c =
    puts_constant c.args.array.now c.scalar.result.now _ _ _ _ _ _ _ c.scalar.ensures c.dtype-dtype.ensures (c.number_of_kind.ensures ∙ ap kind_number c.dtype-dtype.ensures) c.len.ensures c.in_ok-put_header.ensures.ok c.in_ok-put_scalar.ensures.ok c.in_ok-put_type.ensures.ok

pub returns-clause-stored : goal.returns-clause-stored
returns-clause-stored g c = record {
  value = record {
    stored = subst (λ (t : DType). IsStoredType t) c.dtype-dtype.ensures c.in_ok-put_type.ensures.stored;
    typed = subst (λ (s : ScalarForm). IsRowOf s.dtype (option_map Single s.value)) c.scalar.ensures c.in_ok-put_scalar.ensures.typed;
  };
  small = omega (arith, c.len.ensures);
}

pub returns-in_err-put_header-clause-room : goal.returns-in_err-put_header-clause-room
returns-in_err-put_header-clause-room g c = counted_refused _ _ _ _ c.from_residual.ensures.0 (omega (arith, constant_sized c.args.array.now _ _ _ _ _ _ _ refl refl (c.number_of_kind.ensures ∙ ap kind_number c.dtype-dtype.ensures) c.len.ensures refl refl refl, c.in_err-put_header.ensures.room))

pub returns-in_err-put_scalar-clause-room : goal.returns-in_err-put_scalar-clause-room
returns-in_err-put_scalar-clause-room g c = counted_refused _ _ _ _ c.from_residual-in_err-put_scalar.ensures.0 (omega (arith, constant_sized c.args.array.now _ _ _ _ _ _ _ refl refl (c.number_of_kind.ensures ∙ ap kind_number c.dtype-dtype.ensures) c.len.ensures refl refl refl, ap (λ (x : ScalarForm). length (value_fields x.dtype x.value)) c.scalar.ensures, c.in_ok-put_header.ensures.room, c.in_err-put_scalar.ensures.room))

pub returns-in_err-put_type-clause-room : goal.returns-in_err-put_type-clause-room
returns-in_err-put_type-clause-room g c = counted_refused _ _ _ _ c.from_residual-in_err-put_type.ensures.0 (omega (arith, constant_sized c.args.array.now _ _ _ _ _ _ _ refl refl (c.number_of_kind.ensures ∙ ap kind_number c.dtype-dtype.ensures) c.len.ensures refl refl refl, ap (λ (x : ScalarForm). length (value_fields x.dtype x.value)) c.scalar.ensures, ap (λ (x : DType). length (type_fields x)) c.dtype-dtype.ensures, c.in_ok-put_header.ensures.room, c.in_ok-put_scalar.ensures.room, c.in_err-put_type.ensures.room))

pub returns-clause-room : goal.returns-clause-room
returns-clause-room g c = omega (arith, constant_sized c.args.array.now _ _ _ _ _ _ _ refl refl (c.number_of_kind.ensures ∙ ap kind_number c.dtype-dtype.ensures) c.len.ensures refl refl refl, ap (λ (x : ScalarForm). length (value_fields x.dtype x.value)) c.scalar.ensures, ap (λ (x : DType). length (type_fields x)) c.dtype-dtype.ensures, c.in_ok-put_header.ensures.room, c.in_ok-put_scalar.ensures.room, c.in_ok-put_type.ensures.room)
