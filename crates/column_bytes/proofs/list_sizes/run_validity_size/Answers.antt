use Rattle.std.proofs.Common.{◌∙◌, arith, refl}
use Rattle.column_bytes.proofs.ListColumns.{flags_sized, flags_stored}
use Rattle.column_bytes.proofs.list_sizes.run_validity_size.Goals as goal

pub returns-in-Ok-size_of_total-clause-size : goal.returns-in-Ok-size_of_total-clause-size
returns-in-Ok-size_of_total-clause-size g c = c.in-Ok-size_of_total.ensures.size ∙ flags_sized c.args.runs.now c.in-Ok.flags _ _ c.requires c.in-Ok.ensures.size c.number_size.ensures.size c.bytes_key_size.ensures.size

pub returns-in-Ok-size_of_total-clause-stored : goal.returns-in-Ok-size_of_total-clause-stored
returns-in-Ok-size_of_total-clause-stored g c = flags_stored c.args.runs.now c.requires c.in-Ok.ensures.stored

pub returns-in-Err-size_of_total-clause-past : goal.returns-in-Err-size_of_total-clause-past
returns-in-Err-size_of_total-clause-past g c =
    let long = flags_sized c.args.runs.now c.in-Ok.flags _ _ c.requires c.in-Ok.ensures.size c.number_size.ensures.size c.bytes_key_size.ensures.size in
    record { told = c.in-Err-size_of_total.ensures.past.told; past = omega (arith, c.in-Err-size_of_total.ensures.past.past, long) }

pub returns-in-Err-clause-past : goal.returns-in-Err-clause-past
returns-in-Err-clause-past g c =
    let long = flags_sized c.args.runs.now _ _ _ c.requires refl refl refl in
    record { told = c.in-Err.ensures.past.told; past = omega (arith, c.in-Err.ensures.past.past, long) }
