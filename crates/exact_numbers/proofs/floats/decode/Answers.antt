use Rattle.std.proofs.Common.{sym}
use Rattle.float_bits.proofs.SameValues.{common_of_size}
use Rattle.exact_numbers.proofs.floats.decode.Goals as goal

pub returns-clause-size : goal.returns-clause-size
returns-clause-size c =
    let own = c.decode_own-own in
    sym (common_of_size c.args.format c.args.bits own.result.digits own.result.doublings c.unit_doublings.result own.ensures.size c.unit_doublings.ensures)
