use Rattle.std.proofs.Common.{◌∙◌, sym, ap}
use Rattle.std.proofs.lemmas.Nat.Bits.{bit_at_ones}
use Rattle.column_base.specs.Words.{one_if}
use Rattle.c_columns.proofs.words.splat.Goals as goal

pub returns-then-bit : goal.returns-then-bit
returns-then-bit c = λ j h. bit_at_ones 64 j h ∙ ap one_if (sym c.if-bit.true)
