use Rattle.std.proofs.Common.{◌∙◌, ◌%◌, ap}
use Rattle.std.specs.Int.{bit_at}
use Rattle.std.proofs.lemmas.Nat.Bits.{shr_and_one}
use Rattle.column_base.specs.Words.{digit_at}
use Rattle.column_ops.proofs.bits_at.bit_or_zero.Goals as goal

pub returns : goal.returns
unfolding digit_at
returns c = shr_and_one c.word_or_zero.result (c.args.position % 64) ∙ ap (λ w. bit_at w (c.args.position % 64)) c.word_or_zero.ensures
