use Rattle.std.proofs.Common.{◌≡◌, ◌+◌, arith}
use Rattle.column_ops.proofs.item_ends.ends_in_word.Goals as goal

pub ends_in_whole_word-requires-clause-first_of_word : goal.ends_in_whole_word-requires-clause-first_of_word
ends_in_whole_word-requires-clause-first_of_word g c =
    let whole = c.if-count-eq64.true in
    let last = c.requires.one_word (c.args.range.start + 63) (omega arith) (omega arith) in
    omega (arith, last)

pub returns-then-count-eq64 : goal.returns-then-count-eq64
returns-then-count-eq64 g c =
    let at_end : c.args.range.start + 64 ≡ c.args.range.end = omega (arith, c.if-count-eq64.true) in
    λ start low so_far. rw at_end at (c.ends_in_whole_word.ensures start low so_far)
