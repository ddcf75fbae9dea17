use Rattle.std.proofs.Common.{◌^◌, ◌≤◌, Some, FitsSigned, arith}
use Rattle.std.specs.Int.{w128}
use Rattle.std.proofs.lemmas.Int.{ints, to_z-of_z}
use Rattle.runend_decimals.specs.Rescaling.{IsPowerValue}
use Rattle.runend_decimals.proofs.TenPowers.{no_multiple, power_some}
use Rattle.runend_decimals.proofs.powers.PowerOfTen.divide.Goals as goal

pub divided-requires : goal.divided-requires
divided-requires c =
    let places = c.args.self.places in
    let has : IsPowerValue places (Some c.in-Some.power) = rw c.in-Some.is at c.requires in
    let is = has.0 in
    let small = has.1 in
    let some = power_some places in
    let fits : FitsSigned w128 c.in-Some.power = rw is (omega (arith, ints, small)) in
    rw (to_z-of_z w128 c.in-Some.power fits) (omega (arith, ints, is, some))

pub returns-in-None-2-clause-rest : goal.returns-in-None-2-clause-rest
returns-in-None-2-clause-rest c =
    let places = c.args.self.places in
    let large : 10 ^ 39 ≤ 10 ^ places = rw c.in-None.is at c.requires in
    let fits = c.ranges.number.sfits in
    λ quotient is. no_multiple c.args.number quotient (10 ^ places) (omega (arith, ints, c.if-number-eq0.false)) (omega (arith, ints, large, fits)) is
