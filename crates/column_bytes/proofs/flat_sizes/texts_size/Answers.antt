use Rattle.std.proofs.Common.{◌∙◌, ap, arith, refl}
use Rattle.column_bytes.specs.Bytes.{kind_number}
use Rattle.column_bytes.proofs.MessageSizes.{texts_sized}
use Rattle.column_bytes.proofs.flat_sizes.texts_size.Goals as goal

pub returns-in-Ok-size_of_total-clause-size : goal.returns-in-Ok-size_of_total-clause-size
returns-in-Ok-size_of_total-clause-size g c = c.in-Ok-size_of_total.ensures.size ∙ texts_sized c.args.array.now _ _ _ c.in-Ok.fields (c.number_of_kind.ensures ∙ ap kind_number c.dtype.ensures) c.len.ensures.views c.header_size-header.ensures.size c.in-Ok.ensures.size

pub returns-in-Err-size_of_total-clause-past : goal.returns-in-Err-size_of_total-clause-past
returns-in-Err-size_of_total-clause-past g c =
    let long = texts_sized c.args.array.now _ _ _ c.in-Ok.fields (c.number_of_kind.ensures ∙ ap kind_number c.dtype.ensures) c.len.ensures.views c.header_size-header.ensures.size c.in-Ok.ensures.size in
    record { told = c.in-Err-size_of_total.ensures.past.told; past = omega (arith, c.in-Err-size_of_total.ensures.past.past, long) }

pub returns-in-Err-clause-past : goal.returns-in-Err-clause-past
returns-in-Err-clause-past g c =
    let long = texts_sized c.args.array.now _ _ _ _ (c.number_of_kind.ensures ∙ ap kind_number c.dtype.ensures) c.len.ensures.views c.header_size-header.ensures.size refl in
    record { told = c.in-Err.ensures.past.told; past = omega (arith, c.in-Err.ensures.past.past, long) }
