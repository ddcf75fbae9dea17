use Rattle.std.proofs.Common.{◌∙◌, ◌-◌, map, sym}
use Rattle.runend_aggregate.proofs.RunRows.{length-runs_from}
use Rattle.runend_aggregate.proofs.visible_sums.VisibleRuns.run_count.Goals as goal

pub returns : goal.returns
returns g c =
    let own = c.args.self.now in
    let ends = map g.E.UnsignedPType.natural own.ends.now in
    c.saturating_sub.ensures ∙ sym (length-runs_from ends (g.N.Numbers.numbers own.numbers.now) own.offset own.count own.first (own.stop - own.first))
