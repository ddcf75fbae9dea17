use Rattle.std.proofs.Common.{◌∙◌, arith, refl, subst}
use Rattle.column_bytes.specs.Stored.{IsStoredValidity}
use Rattle.column_bytes.proofs.ListColumns.{lists_sized}
use Rattle.column_bytes.proofs.list_sizes.message_of_lists.Goals as goal

pub returns-in-Ok-size_of_total-clause-size : goal.returns-in-Ok-size_of_total-clause-size
returns-in-Ok-size_of_total-clause-size g c = c.in-Ok-size_of_total.ensures.size ∙ lists_sized c.args.lists.now _ _ _ c.in-Ok.validity c.in-Ok-parts_size.parts c.validity.ensures.form c.len.ensures.offsets c.header_size-header.ensures.size c.in-Ok.ensures.size c.in-Ok-parts_size.ensures.size

pub returns-in-Ok-size_of_total-clause-stored : goal.returns-in-Ok-size_of_total-clause-stored
returns-in-Ok-size_of_total-clause-stored g c =
    let p = c.in-Ok-parts_size.ensures in
    record { elements = p.elements; offsets = p.offsets; sizes = p.sizes; validity = subst IsStoredValidity c.validity.ensures.form c.in-Ok.ensures.stored; are = c.validity.ensures.lists }

pub returns-in-Err-size_of_total-clause-past : goal.returns-in-Err-size_of_total-clause-past
returns-in-Err-size_of_total-clause-past g c =
    let long = lists_sized c.args.lists.now _ _ _ c.in-Ok.validity c.in-Ok-parts_size.parts c.validity.ensures.form c.len.ensures.offsets c.header_size-header.ensures.size c.in-Ok.ensures.size c.in-Ok-parts_size.ensures.size in
    record { told = c.in-Err-size_of_total.ensures.past.told; past = omega (arith, c.in-Err-size_of_total.ensures.past.past, long) }

pub returns-in-Err-parts_size-clause-past : goal.returns-in-Err-parts_size-clause-past
returns-in-Err-parts_size-clause-past g c =
    let long = lists_sized c.args.lists.now _ _ _ c.in-Ok.validity _ c.validity.ensures.form c.len.ensures.offsets c.header_size-header.ensures.size c.in-Ok.ensures.size refl in
    record { told = c.in-Err-parts_size.ensures.past.told; past = omega (arith, c.in-Err-parts_size.ensures.past.past, long) }

pub returns-in-Err-clause-past : goal.returns-in-Err-clause-past
returns-in-Err-clause-past g c =
    let long = lists_sized c.args.lists.now _ _ _ _ _ c.validity.ensures.form c.len.ensures.offsets c.header_size-header.ensures.size refl refl in
    record { told = c.in-Err.ensures.past.told; past = omega (arith, c.in-Err.ensures.past.past, long) }
