use Rattle.std.proofs.Common.{◌+◌, ◌^◌, ◌<◌, arith, ap}
use Rattle.float_bits.specs.Tally.{Tally}
use Rattle.float_bits.proofs.Products.{has_room, joined_rows}
use Rattle.float_bits.proofs.float_sum.FloatSum.join.Goals as goal

pub add-requires : goal.add-requires
add-requires c =
    let mine = ap (λ (t : Tally). t.rows) c.self.view_is in
    let theirs = ap (λ (t : Tally). t.rows) c.other.view_is in
    let rows : c.self.inside.rows + c.other.inside.rows < 2 ^ 64 = omega (arith, mine, theirs, c.requires) in
    has_room _ (c.self.inside.rows + c.other.inside.rows) (joined_rows _ _ c.self.inside.rows c.other.inside.rows c.self.invariant.plus_few c.other.invariant.plus_few) rows

pub add-requires-2 : goal.add-requires-2
add-requires-2 c =
    let mine = ap (λ (t : Tally). t.rows) c.self.view_is in
    let theirs = ap (λ (t : Tally). t.rows) c.other.view_is in
    let rows : c.self.inside.rows + c.other.inside.rows < 2 ^ 64 = omega (arith, mine, theirs, c.requires) in
    has_room _ (c.self.inside.rows + c.other.inside.rows) (joined_rows _ _ c.self.inside.rows c.other.inside.rows c.self.invariant.minus_few c.other.invariant.minus_few) rows
