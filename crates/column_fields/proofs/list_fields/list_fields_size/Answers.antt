use Rattle.std.proofs.Common.{arith}
use Rattle.column_fields.proofs.ListFieldLaws.{list_fields_sum}
use Rattle.column_fields.proofs.list_fields.list_fields_size.Goals as goal

pub returns-in-Ok-clause-size : goal.returns-in-Ok-clause-size
returns-in-Ok-clause-size c =
    λ e o s l m n. omega (arith, c.in-Ok.ensures.size, list_fields_sum e o s c.args.elements c.args.offsets c.args.sizes _ _ _ l m n c.bytes_key_size.ensures.size c.bytes_key_size-2.ensures.size c.bytes_key_size-3.ensures.size)

pub returns-in-Err-clause-past : goal.returns-in-Err-clause-past
returns-in-Err-clause-past c =
    λ e o s l m n. record {
      told = c.in-Err.ensures.past.told;
      past = omega (arith, c.in-Err.ensures.past.past, list_fields_sum e o s c.args.elements c.args.offsets c.args.sizes _ _ _ l m n c.bytes_key_size.ensures.size c.bytes_key_size-2.ensures.size c.bytes_key_size-3.ensures.size);
    }
