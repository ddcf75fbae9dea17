use Rattle.std.proofs.Common.{◌≡◌, true, false, pos, ◌<ℤ◌, arith}
use Rattle.std.specs.Int.{w128}
use Rattle.std.specs.Int.Signed.{lt_z}
use Rattle.std.proofs.lemmas.Float.{T_from_true}
use Rattle.std.proofs.lemmas.Int.{ints, to_z-of_z}
use Rattle.runend_decimals.proofs.totals.moved.Goals as goal

pub returns-then-number-lt0-clause-down : goal.returns-then-number-lt0-clause-down
returns-then-number-lt0-clause-down c = λ below. rw (to_z-of_z w128 c.args.sum c.ranges.sum) at c.checked_sub_unsigned.ensures

pub returns-then-number-lt0-clause-up : goal.returns-then-number-lt0-clause-up
returns-then-number-lt0-clause-up c = λ above.
    let less : lt_z c.args.number (pos 0) ≡ true = rw (to_z-of_z w128 c.args.number c.ranges.number) at c.if-number-lt0.true in
    let below : c.args.number <ℤ pos 0 = record { lt = T_from_true (lt_z c.args.number (pos 0)) less } in
    absurd (omega (arith, ints, above, below))

pub returns-else-number-lt0-clause-down : goal.returns-else-number-lt0-clause-down
returns-else-number-lt0-clause-down c = λ below.
    let more : lt_z c.args.number (pos 0) ≡ false = rw (to_z-of_z w128 c.args.number c.ranges.number) at c.if-number-lt0.false in
    absurd (rw more at below.lt)

pub returns-else-number-lt0-clause-up : goal.returns-else-number-lt0-clause-up
returns-else-number-lt0-clause-up c = λ above. rw (to_z-of_z w128 c.args.sum c.ranges.sum) at c.checked_add_unsigned.ensures
