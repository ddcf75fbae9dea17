use Rattle.std.proofs.Common.{◌≢◌, pos, int_rem, refl}
use Rattle.std.specs.Int.{w128}
use Rattle.std.proofs.lemmas.Int.{to_z-of_z}
use Rattle.runend_decimals.proofs.TenPowers.{rest_left}
use Rattle.runend_decimals.proofs.powers.divided.Goals as goal

pub returns-else-number-power-eq0-clause-rest : goal.returns-else-number-power-eq0-clause-rest
returns-else-number-power-eq0-clause-rest c =
    let n = c.args.number in
    let power = c.args.power in
    let rest : int_rem n power ≢ pos 0 = λ none. c.if-number-power-eq0.false (rw (to_z-of_z w128 n c.ranges.number, to_z-of_z w128 power c.ranges.power, none) refl) in
    λ quotient is. rest_left n quotient power c.requires rest is
