use Rattle.std.proofs.Common.{◌≡◌, ◌-◌, ◌^◌, pos, ◌+ℤ◌, ◌-ℤ◌, ◌<ℤ◌, ◌≤ℤ◌, arith}
use Rattle.std.specs.Int.{w128}
use Rattle.std.specs.Prelude.{unsigned_abs}
use Rattle.std.proofs.lemmas.Int.{to_z-of_z}
use Rattle.runend_decimals.proofs.Held.{held_is}
use Rattle.runend_decimals.proofs.totals.held_rows.Goals as goal

pub overflow_cast-result : goal.overflow_cast-result
overflow_cast-result c =
    let sum_is = to_z-of_z w128 c.args.sum c.ranges.sum in
    let number_is = to_z-of_z w128 c.args.number c.ranges.number in
    let down : c.args.number <ℤ pos 0 → pos c.room_toward.result ≡ c.args.sum +ℤ pos (10 ^ 38 - 1) = rw (sum_is, number_is) at c.room_toward.ensures.down in
    let up : pos 0 ≤ℤ c.args.number → pos c.room_toward.result ≡ pos (10 ^ 38 - 1) -ℤ c.args.sum = rw (sum_is, number_is) at c.room_toward.ensures.up in
    let size : c.unsigned_abs.result ≡ unsigned_abs c.args.number = rw number_is at c.unsigned_abs.ensures.value in
    let held = held_is c.args.sum c.args.number c.args.rows c.room_toward.result c.unsigned_abs.result c.requires.held c.requires.leaves down up size in
    omega (arith, held.within, c.ranges.rows.fits)

pub returns : goal.returns
returns c =
    let sum_is = to_z-of_z w128 c.args.sum c.ranges.sum in
    let number_is = to_z-of_z w128 c.args.number c.ranges.number in
    let down : c.args.number <ℤ pos 0 → pos c.room_toward.result ≡ c.args.sum +ℤ pos (10 ^ 38 - 1) = rw (sum_is, number_is) at c.room_toward.ensures.down in
    let up : pos 0 ≤ℤ c.args.number → pos c.room_toward.result ≡ pos (10 ^ 38 - 1) -ℤ c.args.sum = rw (sum_is, number_is) at c.room_toward.ensures.up in
    let size : c.unsigned_abs.result ≡ unsigned_abs c.args.number = grind (arith, to_z-of_z, c.unsigned_abs.ensures.value, c.ranges.number) in
    held_is c.args.sum c.args.number c.args.rows c.room_toward.result c.unsigned_abs.result c.requires.held c.requires.leaves down up size
