use Rattle.std.proofs.Common.{◌∙◌, ◌-◌, ◌/◌, ◌^◌, ap}
use Rattle.std.specs.Prelude.{count_ones, bit_and}
use Rattle.std.proofs.lemmas.Nat.{and_mask}
use Rattle.column_base.proofs.bits.counts.ones_between.Goals as goal

pub returns : goal.returns
returns c = ap (λ mask. count_ones (bit_and (c.args.word / 2 ^ c.args.low) mask)) c.low_mask.ensures ∙ ap count_ones (and_mask (c.args.word / 2 ^ c.args.low) (c.args.high - c.args.low))
