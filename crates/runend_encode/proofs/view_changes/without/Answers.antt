use Rattle.std.proofs.Common.{◌-◌, ◌*◌, ◌%◌, ◌^◌, bit_and}
use Rattle.std.specs.Int.{w64}
use Rattle.std.proofs.lemmas.Nat.{and_le_l}
use Rattle.std.proofs.lemmas.Nat.Bits.{bit_at_clear_other, bit_at_clear_same}
use Rattle.runend_encode.proofs.DifferingRows.{less_without}
use Rattle.runend_encode.proofs.view_changes.without.Goals as goal

pub returns-clause-here : goal.returns-clause-here
returns-clause-here c = bit_at_clear_same w64 c.args.word c.args.lane c.requires

pub returns-clause-others : goal.returns-clause-others
returns-clause-others c = bit_at_clear_other w64 c.args.word c.args.lane c.requires

pub returns-clause-less : goal.returns-clause-less
returns-clause-less c = λ one.
    let mask = 2 ^ 64 - 1 - 1 * 2 ^ c.args.lane % 2 ^ 64 in
    less_without c.args.word (bit_and c.args.word mask) c.args.lane (and_le_l c.args.word mask) one (bit_at_clear_same w64 c.args.word c.args.lane c.requires)
