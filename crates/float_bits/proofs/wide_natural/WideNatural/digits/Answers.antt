use Rattle.std.proofs.Common.{◌≡◌, length, arith}
use Rattle.float_bits.proofs.Products.{within_places}
use Rattle.float_bits.proofs.wide_natural.WideNatural.digits.Goals as goal

pub settle-requires-clause-room : goal.settle-requires-clause-room
settle-requires-clause-room c = let l : length c.self.inside.bins ≡ 68 = omega arith in within_places c.self.inside.bins l c.self.invariant.room
