use Rattle.std.proofs.Common.{◌+◌, ◌-◌, map, arith}
use Rattle.runend_aggregate.proofs.RunRows.{count-runs_from, showing_some, within-runs_from}
use Rattle.runend_aggregate.proofs.visible_sums.VisibleRuns.row_count.Goals as goal

pub prove-unreachable-requires : goal.prove-unreachable-requires
prove-unreachable-requires g c =
    let own = c.args.self.now in
    let ends = map g.E.UnsignedPType.natural own.ends.now in
    omega (arith, c.if-prove.true, within-runs_from ends (g.N.Numbers.numbers own.numbers.now) own.offset own.count own.first (own.stop - own.first) c.args.run c.requires)

pub returns-clause-counted : goal.returns-clause-counted
returns-clause-counted g c =
    let own = c.args.self.now in
    let ends = map g.E.UnsignedPType.natural own.ends.now in
    count-runs_from ends (g.N.Numbers.numbers own.numbers.now) own.offset own.count own.first (own.stop - own.first) c.args.run c.rows_of_run.result c.requires c.rows_of_run.ensures

pub returns-clause-shown : goal.returns-clause-shown
returns-clause-shown g c =
    let own = c.args.self.now in
    let ends = map g.E.UnsignedPType.natural own.ends.now in
    let within = within-runs_from ends (g.N.Numbers.numbers own.numbers.now) own.offset own.count own.first (own.stop - own.first) c.args.run c.requires in
    let some = showing_some ends own.offset own.count (own.first + c.args.run) own.window (omega (arith, own.begun)) (omega (arith, own.ended, within)) in
    omega (arith, some, c.rows_of_run.ensures)
