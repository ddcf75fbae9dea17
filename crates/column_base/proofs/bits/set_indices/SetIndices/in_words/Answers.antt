use Rattle.std.proofs.Common.{ap, arith}
use Rattle.column_base.specs.Words.{places_left}
use Rattle.column_base.proofs.bits.set_indices.SetIndices.in_words.Goals as goal

pub invariant_of-result : goal.invariant_of-result
invariant_of-result c = (omega arith, c.requires)

pub returns : goal.returns
returns c = ap (λ first. places_left c.args.words.now first 0) c.word_or_zero.ensures
