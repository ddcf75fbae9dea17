use Rattle.std.proofs.Common.{false}
use Rattle.column_base.specs.Mask.{mask_bits}
use Rattle.column_base.specs.Validity.{form_of}
use Rattle.runend_windows.specs.RunEnds.{masked_truths}
use Rattle.runend_windows.proofs.TypedRows.{Shows, nullable-of_nulls, run_rows-of_nulls_alone, truth_rows-of_Shows}
use Rattle.runend_column.proofs.decompress_bool.runend_decode_typed_bool.Goals as goal

pub null_constant-requires : goal.null_constant-requires
null_constant-requires g c =
    nullable-of_nulls c.args.values_nullability c.args.values_validity c.args.values.now c.requires.nullable c.requires.masked (c.masks_all.ensures.0 c.if-masks_all.true)

pub returns-then-masks_all-clause-rows : goal.returns-then-masks_all-clause-rows
returns-then-masks_all-clause-rows g c ends given =
    let nulls = c.masks_all.ensures.0 c.if-masks_all.true in
    rw c.null_constant.ensures (run_rows-of_nulls_alone ends (masked_truths c.args.values.now (mask_bits c.args.values_validity)) c.args.length nulls.1)

pub returns-clause-rows : goal.returns-clause-rows
returns-clause-rows g c ends given =
    let found = c.in_ok-bits in
    let shows : Shows false found.bits (form_of found.validity) ends c.args.values.now (mask_bits c.args.values_validity) c.args.length =
    record { counted = found.ensures.counted; rows = found.ensures.rows ends given; blanks = found.ensures.blanks } in
    rw c.new_unchecked.ensures (truth_rows-of_Shows found.bits (form_of found.validity) ends c.args.values.now (mask_bits c.args.values_validity) c.args.length shows)
