use Rattle.std.proofs.Common.{rules, w64, FitsSigned, to_z-of_z}
use Rattle.float_bits.proofs.KeyRanges.{below_range}
use Rattle.float_bits.proofs.Tests.{refuted}
use Rattle.float_bits.proofs.key_ranges.keys_below.Goals as goal

pub returns : goal.returns
returns c =
    let number = refuted _ c.if-is_nan.false c.is_nan.ensures in
    let low : FitsSigned w64 c.first_number.result = search rules in
    let high : FitsSigned w64 c.first_not_below.result = search rules in
    λ bits pattern. rw (to_z-of_z low, to_z-of_z high, c.first_number.ensures, c.first_not_below.ensures)
    (below_range c.args.format c.args.constant c.requires number bits pattern)
