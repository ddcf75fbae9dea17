use Rattle.std.proofs.Common.{◌∙◌, ◌+◌, ◌-◌, ◌≤◌, map, sym, arith}
use Rattle.column_sums.proofs.Reaches.{if_some}
use Rattle.runend_aggregate.proofs.RunRows.{length-runs_from, shown-number}
use Rattle.runend_aggregate.proofs.visible_sums.VisibleRuns.size_between.Goals as goal

pub prove-unreachable-requires : goal.prove-unreachable-requires
prove-unreachable-requires g c =
    let own = c.args.self.now in
    let ends = map g.E.UnsignedPType.natural own.ends.now in
    omega (arith, c.if-prove.true, c.requires.within, length-runs_from ends (g.N.Numbers.numbers own.numbers.now) own.offset own.count own.first (own.stop - own.first))

pub returns : goal.returns
returns g c =
    let own = c.args.self.now in
    let ends = map g.E.UnsignedPType.natural own.ends.now in
    let numbers = g.N.Numbers.numbers own.numbers.now in
    let shown = own.stop - own.first in
    let within : c.args.to ≤ shown = omega (arith, c.requires.within, length-runs_from ends numbers own.offset own.count own.first shown) in
    if_some _ _ c.size_between.result
    (λ size are k n low high is. are (own.first + k) n (omega (arith, low)) (omega (arith, high))
    (sym (shown-number ends numbers own.offset own.count own.first shown k (omega (arith, within, high)) (omega (arith, within, high, own.inside, own.paired))) ∙ is))
    c.size_between.ensures
