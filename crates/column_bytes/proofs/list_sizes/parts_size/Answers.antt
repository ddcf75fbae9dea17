use Rattle.std.proofs.Common.{arith, refl}
use Rattle.column_bytes.specs.Bytes.{leaf_message, index_message}
use Rattle.column_bytes.proofs.ListColumns.{elements_long, elements_within, index_long, index_stored, offsets_within, sizes_within}
use Rattle.column_bytes.proofs.list_sizes.parts_size.Goals as goal

pub returns-in-Ok-list_fields_size-clause-size : goal.returns-in-Ok-list_fields_size-clause-size
returns-in-Ok-list_fields_size-clause-size g c =
    let l = c.args.lists.now in
    c.in-Ok-list_fields_size.ensures.size (leaf_message l.elements) (index_message l.offsets) (index_message l.sizes) (elements_long l.elements _ c.in-Ok.elements c.elements.ensures c.in-Ok.ensures.size) (index_long l.offsets _ c.in-Ok-index_size.offsets c.offsets.ensures.form c.in-Ok-index_size.ensures.same c.in-Ok-index_size.ensures.size) (index_long l.sizes _ c.in-Ok-index_size-2.sizes c.sizes.ensures.form c.in-Ok-index_size-2.ensures.same c.in-Ok-index_size-2.ensures.size)

pub returns-in-Ok-list_fields_size-clause-offsets : goal.returns-in-Ok-list_fields_size-clause-offsets
returns-in-Ok-list_fields_size-clause-offsets g c = index_stored c.args.lists.now.offsets _ c.offsets.ensures.index c.offsets.ensures.form c.in-Ok-index_size.ensures.stored

pub returns-in-Ok-list_fields_size-clause-sizes : goal.returns-in-Ok-list_fields_size-clause-sizes
returns-in-Ok-list_fields_size-clause-sizes g c = index_stored c.args.lists.now.sizes _ c.sizes.ensures.index c.sizes.ensures.form c.in-Ok-index_size-2.ensures.stored

pub returns-in-Err-list_fields_size-clause-past : goal.returns-in-Err-list_fields_size-clause-past
returns-in-Err-list_fields_size-clause-past g c =
    let l = c.args.lists.now in
    c.in-Err-list_fields_size.ensures.past (leaf_message l.elements) (index_message l.offsets) (index_message l.sizes) (elements_long l.elements _ c.in-Ok.elements c.elements.ensures c.in-Ok.ensures.size) (index_long l.offsets _ c.in-Ok-index_size.offsets c.offsets.ensures.form c.in-Ok-index_size.ensures.same c.in-Ok-index_size.ensures.size) (index_long l.sizes _ c.in-Ok-index_size-2.sizes c.sizes.ensures.form c.in-Ok-index_size-2.ensures.same c.in-Ok-index_size-2.ensures.size)

pub returns-in-Err-index_size-2-clause-past : goal.returns-in-Err-index_size-2-clause-past
returns-in-Err-index_size-2-clause-past g c =
    let l = c.args.lists.now in
    let long = index_long l.sizes _ _ c.sizes.ensures.form c.in-Err-index_size-2.ensures.same refl in
    record { told = c.in-Err-index_size-2.ensures.past.told; past = omega (arith, c.in-Err-index_size-2.ensures.past.past, long, sizes_within l) }

pub returns-in-Err-index_size-clause-past : goal.returns-in-Err-index_size-clause-past
returns-in-Err-index_size-clause-past g c =
    let l = c.args.lists.now in
    let long = index_long l.offsets _ _ c.offsets.ensures.form c.in-Err-index_size.ensures.same refl in
    record { told = c.in-Err-index_size.ensures.past.told; past = omega (arith, c.in-Err-index_size.ensures.past.past, long, offsets_within l) }

pub returns-in-Err-clause-past : goal.returns-in-Err-clause-past
returns-in-Err-clause-past g c =
    let l = c.args.lists.now in
    let long = elements_long l.elements _ _ c.elements.ensures refl in
    record { told = c.in-Err.ensures.past.told; past = omega (arith, c.in-Err.ensures.past.past, long, elements_within l) }
