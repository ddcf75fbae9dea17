use Rattle.std.proofs.Common.{◌∙◌, ◌-◌, map, sym, arith}
use Rattle.runend_aggregate.proofs.RunRows.{shown-number, within-runs_from}
use Rattle.runend_aggregate.proofs.visible_sums.VisibleRuns.stored.Goals as goal

pub prove-unreachable-requires : goal.prove-unreachable-requires
prove-unreachable-requires g c =
    let own = c.args.self.now in
    let ends = map g.E.UnsignedPType.natural own.ends.now in
    omega (arith, c.if-prove.true, within-runs_from ends (g.N.Numbers.numbers own.numbers.now) own.offset own.count own.first (own.stop - own.first) c.args.run c.requires)

pub returns : goal.returns
returns g c =
    let own = c.args.self.now in
    let ends = map g.E.UnsignedPType.natural own.ends.now in
    let numbers = g.N.Numbers.numbers own.numbers.now in
    let within = within-runs_from ends numbers own.offset own.count own.first (own.stop - own.first) c.args.run c.requires in
    λ n is. c.stored.ensures n (sym (shown-number ends numbers own.offset own.count own.first (own.stop - own.first) c.args.run within (omega (arith, within, own.inside, own.paired))) ∙ is)
