use Rattle.std.proofs.Common.{◌/◌, ◌+◌, slice_index_or, refl, arith}
use Rattle.column_sums.proofs.EightBits.{eight_in_one, eight_in_two}
use Rattle.column_sums.proofs.item_flags.eight_bits.Goals as goal

pub returns-then-low-le56 : goal.returns-then-low-le56
returns-then-low-le56 c =
    let words = c.args.words.now in
    λ k h. eight_in_one words c.args.index k (slice_index_or words (c.args.index / 64) 0) h c.if-low-le56.true refl

pub returns : goal.returns
returns c =
    let words = c.args.words.now in
    let word = slice_index_or words (c.args.index / 64) 0 in
    let next = slice_index_or words (c.args.index / 64 + 1) 0 in
    λ k h. eight_in_two words c.args.index k word next h (omega (arith, c.type_inv.words (c.args.index / 64))) (omega (arith, c.if-low-le56.false)) refl refl
