use Rattle.std.proofs.Common.{◌+◌, ◌*◌, ◌^◌, ◌<◌, ◌≤◌, arith, ap, sym, subst}
use Rattle.float_bits.specs.Places.{size_limit}
use Rattle.float_bits.specs.Tally.{Tally}
use Rattle.float_bits.proofs.Products.{has_room, more_rows, other_rows, size_within}
use Rattle.float_bits.proofs.float_sum.FloatSum.add_plus.Goals as goal

pub add_size-requires-clause-room : goal.add_size-requires-clause-room
add_size-requires-clause-room c =
    let view = ap (λ (t : Tally). t.rows) c.self.view_is in
    let rows : c.self.inside.rows + c.args.rows < 2 ^ 64 = omega (arith, view, c.requires.rows) in
    has_room _ (c.self.inside.rows + c.args.rows) (more_rows c.self.inside.plus c.self.inside.rows c.args.rows _ c.self.invariant.plus_few (size_within c.args.bits c.requires.finite)) rows

pub invariant_of-self : goal.invariant_of-self
invariant_of-self c = record {
  plus_few = subst (λ v. v ≤ (c.self.inside.rows + c.args.rows) * size_limit) (sym c.add_size.ensures)
      (more_rows c.self.inside.plus c.self.inside.rows c.args.rows _ c.self.invariant.plus_few (size_within c.args.bits c.requires.finite));
  minus_few = other_rows c.self.inside.minus c.self.inside.rows c.args.rows c.self.invariant.minus_few;
  nans_few = omega (arith, c.self.invariant.nans_few);
  infinities_few = omega (arith, c.self.invariant.infinities_few);
  minus_infinities_few = omega (arith, c.self.invariant.minus_infinities_few);
  minus_zeros_few = omega (arith, c.self.invariant.minus_zeros_few);
}
