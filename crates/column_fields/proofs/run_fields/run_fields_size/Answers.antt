use Rattle.std.proofs.Common.{arith, map}
use Rattle.std.specs.Prelude.{unsigned_abs}
use Rattle.column_base.specs.Numbers.{numbers}
use Rattle.column_fields.specs.Lengths.{lengths_bytes}
use Rattle.column_fields.proofs.RunFieldLaws.{run_fields_long, run_fields_sum}
use Rattle.column_fields.proofs.SizeLaws.{bytes_long}
use Rattle.column_fields.proofs.run_fields.run_fields_size.Goals as goal

pub returns-in-Ok-size_of_total-clause-size : goal.returns-in-Ok-size_of_total-clause-size
returns-in-Ok-size_of_total-clause-size g c =
    λ message long. omega (arith, c.in-Ok-size_of_total.ensures.size, run_fields_sum c.args.offset c.number_of_type.result _ _ _ _ c.args.ends_type (lengths_bytes 0 (map unsigned_abs (numbers c.args.ends.now))) message c.in-Ok.lengths c.args.values c.number_of_type.ensures c.in-Ok.ensures.size long c.number_size.ensures.size c.number_size-in-Ok.ensures.size c.bytes_key_size.ensures.size c.bytes_key_size-in-Ok.ensures.size)

pub returns-in-Err-size_of_total-clause-past : goal.returns-in-Err-size_of_total-clause-past
returns-in-Err-size_of_total-clause-past g c =
    λ message long. record {
      told = c.in-Err-size_of_total.ensures.past.told;
      past = omega (arith, c.in-Err-size_of_total.ensures.past.past, run_fields_sum c.args.offset c.number_of_type.result _ _ _ _ c.args.ends_type (lengths_bytes 0 (map unsigned_abs (numbers c.args.ends.now))) message c.in-Ok.lengths c.args.values c.number_of_type.ensures c.in-Ok.ensures.size long c.number_size.ensures.size c.number_size-in-Ok.ensures.size c.bytes_key_size.ensures.size c.bytes_key_size-in-Ok.ensures.size);
    }

pub returns-in-Err-clause-past : goal.returns-in-Err-clause-past
returns-in-Err-clause-past g c =
    λ message long. record {
      told = c.in-Err.ensures.past.told;
      past = omega (arith, c.in-Err.ensures.past.past, run_fields_long c.args.offset c.args.ends_type (lengths_bytes 0 (map unsigned_abs (numbers c.args.ends.now))) message, bytes_long 10 (lengths_bytes 0 (map unsigned_abs (numbers c.args.ends.now))));
    }
