use Rattle.std.proofs.Common.{◌-◌, map, arith}
use Rattle.std.specs.Prelude.{option_map}
use Rattle.runend_aggregate.proofs.RunRows.{value-runs_from, within-runs_from}
use Rattle.runend_aggregate.proofs.visible_sums.VisibleRuns.value.Goals as goal

pub prove-unreachable-requires : goal.prove-unreachable-requires
prove-unreachable-requires g c =
    let own = c.args.self.now in
    let ends = map g.E.UnsignedPType.natural own.ends.now in
    omega (arith, c.if-prove.true, within-runs_from ends (g.N.Numbers.numbers own.numbers.now) own.offset own.count own.first (own.stop - own.first) c.args.run c.requires)

pub returns : goal.returns
returns g c =
    let own = c.args.self.now in
    let ends = map g.E.UnsignedPType.natural own.ends.now in
    value-runs_from ends (g.N.Numbers.numbers own.numbers.now) own.offset own.count own.first (own.stop - own.first) c.args.run (option_map g.V.NativePType.number c.number.result) c.requires c.number.ensures
