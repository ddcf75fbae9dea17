use Rattle.std.proofs.Common.{◌∙◌, arith}
use Rattle.column_bytes.proofs.TextPacking.{summed-own}
use Rattle.column_bytes.proofs.TextLaws.{text_fields_past, text_fields_sum}
use Rattle.column_bytes.proofs.text_writing.text_fields_size.Goals as goal

pub returns-in-Ok-size_of_total-clause-size : goal.returns-in-Ok-size_of_total-clause-size
returns-in-Ok-size_of_total-clause-size g c = c.in-Ok-size_of_total.ensures.size ∙ text_fields_sum c.args.array.now _ c.in-Ok.sizes c.in-Ok.content _ _ _ c.validity.ensures.form c.in-Ok.ensures.sizes c.in-Ok.ensures.content c.validity_size.ensures.size c.bytes_key_size.ensures.size c.bytes_key_size-in-Ok.ensures.size

pub returns-in-Ok-size_of_total-clause-stored : goal.returns-in-Ok-size_of_total-clause-stored
returns-in-Ok-size_of_total-clause-stored g c = record {
  are = c.in-Ok.ensures.are;
  rows_small = c.in-Ok.ensures.rows;
  bytes_small = omega (arith, c.in-Ok.ensures.content, summed-own c.args.array.now);
}

pub returns-in-Err-size_of_total-clause-past : goal.returns-in-Err-size_of_total-clause-past
returns-in-Err-size_of_total-clause-past g c =
    let long = text_fields_sum c.args.array.now _ c.in-Ok.sizes c.in-Ok.content _ _ _ c.validity.ensures.form c.in-Ok.ensures.sizes c.in-Ok.ensures.content c.validity_size.ensures.size c.bytes_key_size.ensures.size c.bytes_key_size-in-Ok.ensures.size in
    record { told = c.in-Err-size_of_total.ensures.past.told; past = omega (arith, c.in-Err-size_of_total.ensures.past.past, long) }

pub returns-in-Err-clause-past : goal.returns-in-Err-clause-past
returns-in-Err-clause-past g c = record { told = c.in-Err.ensures.past.told; past = omega (arith, c.in-Err.ensures.past.past, text_fields_past c.args.array.now) }
