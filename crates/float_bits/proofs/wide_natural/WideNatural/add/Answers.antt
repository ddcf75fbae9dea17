use Rattle.std.proofs.Common.{◌≡◌, ◌<◌, length, arith}
use Rattle.float_bits.specs.Places.{capacity, value}
use Rattle.float_bits.proofs.Products.{within_places}
use Rattle.float_bits.proofs.wide_natural.WideNatural.add.Goals as goal

pub settle-requires-clause-room : goal.settle-requires-clause-room
settle-requires-clause-room c =
    let l : length c.add_bins.new.bins ≡ 68 = omega arith in
    let room : value c.add_bins.new.bins < capacity = omega (arith, c.add_bins.ensures.value, c.requires, c.self.view_is, c.other.view_is) in
    within_places c.add_bins.new.bins l room
