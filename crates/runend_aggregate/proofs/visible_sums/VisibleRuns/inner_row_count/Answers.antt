use Rattle.std.proofs.Common.{◌∙◌, ◌+◌, ◌-◌, map, arith}
use Rattle.runend_aggregate.proofs.InnerRuns.{inner_rises, inner_showing}
use Rattle.runend_aggregate.proofs.RunRows.{count-runs_from, showing_some, within-runs_from}
use Rattle.runend_aggregate.proofs.visible_sums.VisibleRuns.inner_row_count.Goals as goal

pub prove-unreachable-requires : goal.prove-unreachable-requires
prove-unreachable-requires g c =
    let own = c.args.self.now in
    let ends = map g.E.UnsignedPType.natural own.ends.now in
    omega (arith, c.if-prove.true, within-runs_from ends (g.N.Numbers.numbers own.numbers.now) own.offset own.count own.first (own.stop - own.first) (c.args.run + 1) c.requires.inner.1)

pub rows_between-requires-clause-increasing : goal.rows_between-requires-clause-increasing
rows_between-requires-clause-increasing g c =
    let own = c.args.self.now in
    let ends = map g.E.UnsignedPType.natural own.ends.now in
    let within = within-runs_from ends (g.N.Numbers.numbers own.numbers.now) own.offset own.count own.first (own.stop - own.first) (c.args.run + 1) c.requires.inner.1 in
    inner_rises ends own.offset own.count (own.first + c.args.run) own.window (omega (arith, own.begun, c.requires.inner.0)) (omega (arith, own.ended, within))

pub returns-clause-counted : goal.returns-clause-counted
returns-clause-counted g c =
    let own = c.args.self.now in
    let ends = map g.E.UnsignedPType.natural own.ends.now in
    let numbers = g.N.Numbers.numbers own.numbers.now in
    let within = within-runs_from ends numbers own.offset own.count own.first (own.stop - own.first) (c.args.run + 1) c.requires.inner.1 in
    count-runs_from ends numbers own.offset own.count own.first (own.stop - own.first) c.args.run c.rows_between.result (omega (arith, c.requires.inner.1))
    (c.rows_between.ensures ∙ inner_showing ends own.offset own.count (own.first + c.args.run) own.window (omega (arith, own.begun, c.requires.inner.0)) (omega (arith, own.ended, within)))

pub returns-clause-shown : goal.returns-clause-shown
returns-clause-shown g c =
    let own = c.args.self.now in
    let ends = map g.E.UnsignedPType.natural own.ends.now in
    let within = within-runs_from ends (g.N.Numbers.numbers own.numbers.now) own.offset own.count own.first (own.stop - own.first) (c.args.run + 1) c.requires.inner.1 in
    let some = showing_some ends own.offset own.count (own.first + c.args.run) own.window (omega (arith, own.begun)) (omega (arith, own.ended, within)) in
    omega (arith, some, c.rows_between.ensures, inner_showing ends own.offset own.count (own.first + c.args.run) own.window (omega (arith, own.begun, c.requires.inner.0)) (omega (arith, own.ended, within)))
