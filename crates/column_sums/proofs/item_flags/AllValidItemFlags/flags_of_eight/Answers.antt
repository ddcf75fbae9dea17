use Rattle.std.proofs.Common.{◌∙◌, ◌+◌, true, false, sym, ap, arith}
use Rattle.std.proofs.lemmas.List.{get_or-replicate, length-replicate}
use Rattle.std.proofs.lemmas.Nat.Bits.{bit_at_ones}
use Rattle.column_base.specs.Words.{one_if}
use Rattle.column_sums.proofs.item_flags.AllValidItemFlags.flags_of_eight.Goals as goal

pub returns : goal.returns
returns c = λ k h. bit_at_ones 8 k h ∙ ap one_if (sym (get_or-replicate c.args.self.now.count (c.args._index + k) true false (omega (arith, h, c.requires, length-replicate c.args.self.now.count true))))
