use Rattle.float_bits.proofs.Cuts.{digits_past_53}
use Rattle.float_bits.proofs.rounding.digits_past.Goals as goal

pub overflow_sub-result : goal.overflow_sub-result
overflow_sub-result c = rw c.from.ensures (digits_past_53 c.args.window c.requires.low c.requires.high).within

pub returns : goal.returns
returns c = let d = digits_past_53 c.args.window c.requires.low c.requires.high in rw c.from.ensures (record { some = d.some; few = d.few; low = d.low; high = d.high })
