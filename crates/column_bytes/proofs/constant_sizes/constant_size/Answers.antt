use Rattle.std.proofs.Common.{◌∙◌, ap, arith, refl, subst}
use Rattle.std.specs.Prelude.{option_map}
use Rattle.column_base.specs.declared.dtype.DType.{DType}
use Rattle.column_core.specs.ScalarForm.{ScalarForm}
use Rattle.column_core.specs.Value.{IsRowOf, Single}
use Rattle.column_bytes.specs.Bytes.{kind_number}
use Rattle.column_bytes.specs.Values.{IsStoredType}
use Rattle.column_bytes.proofs.MessageSizes.{constant_sized}
use Rattle.column_bytes.proofs.constant_sizes.constant_size.Goals as goal

pub returns-in-Ok-size_of_total-clause-size : goal.returns-in-Ok-size_of_total-clause-size
returns-in-Ok-size_of_total-clause-size g c = c.in-Ok-size_of_total.ensures.size ∙ constant_sized c.args.array.now c.scalar.result.now _ _ _ _ c.in-Ok.value _ c.scalar.ensures c.dtype-dtype.ensures (c.number_of_kind.ensures ∙ ap kind_number c.dtype-dtype.ensures) c.len.ensures c.header_size-header.ensures.size c.in-Ok.ensures.size c.type_size-typed.ensures.size

pub returns-in-Ok-size_of_total-clause-stored : goal.returns-in-Ok-size_of_total-clause-stored
returns-in-Ok-size_of_total-clause-stored g c = record {
  value = record {
    stored = subst (λ (t : DType). IsStoredType t) c.dtype-dtype.ensures c.type_size-typed.ensures.stored;
    typed = subst (λ (s : ScalarForm). IsRowOf s.dtype (option_map Single s.value)) c.scalar.ensures c.in-Ok.ensures.typed;
  };
  small = omega (arith, c.len.ensures);
}

pub returns-in-Err-size_of_total-clause-past : goal.returns-in-Err-size_of_total-clause-past
returns-in-Err-size_of_total-clause-past g c =
    let long = constant_sized c.args.array.now c.scalar.result.now _ _ _ _ c.in-Ok.value _ c.scalar.ensures c.dtype-dtype.ensures (c.number_of_kind.ensures ∙ ap kind_number c.dtype-dtype.ensures) c.len.ensures c.header_size-header.ensures.size c.in-Ok.ensures.size c.type_size-typed.ensures.size in
    record { told = c.in-Err-size_of_total.ensures.past.told; past = omega (arith, c.in-Err-size_of_total.ensures.past.past, long) }

pub returns-in-Err-clause-past : goal.returns-in-Err-clause-past
returns-in-Err-clause-past g c =
    let long = constant_sized c.args.array.now c.scalar.result.now _ _ _ _ _ _ c.scalar.ensures c.dtype-dtype.ensures (c.number_of_kind.ensures ∙ ap kind_number c.dtype-dtype.ensures) c.len.ensures c.header_size-header.ensures.size refl c.type_size-typed.ensures.size in
    record { told = c.in-Err.ensures.past.told; past = omega (arith, c.in-Err.ensures.past.past, long) }
