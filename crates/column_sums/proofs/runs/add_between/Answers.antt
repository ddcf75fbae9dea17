use Rattle.std.proofs.Common.{◌≡◌, ◌∙◌, Some, ap, arith}
use Rattle.column_sums.specs.SumRange.{sum_range}
use Rattle.column_sums.proofs.RunSums.{counted_run, left, null_run-read, run-at, valid_run}
use Rattle.column_sums.proofs.runs.add_between.Goals as goal
use Rattle.column_sums.proofs.runs.add_between.Goals.{in-Some+else-not-add, in_default}

pub loop-run-init : goal.loop-run-init
loop-run-init g c = record { from = omega arith; to = c.requires.ordered; summed = λ before h. h; counted = omega arith }

pub rows_of-requires-clause-inner : goal.rows_of-requires-clause-inner
rows_of-requires-clause-inner g c = λ inner. let parts = c.requires.inner inner (omega (arith, c.loop-run.invariant.from)) in (omega (arith, parts.0, c.loop-run.invariant.from), omega (arith, parts.1))

pub returns-then-not-add : goal.returns-then-not-add
returns-then-not-add g c =
    let range = sum_range g.V.NativePType.PTYPE in
    let runs = g.R.Runs.runs c.args.runs.now in
    let state = g.S.RunSum.state in
    let count = c.rows_of.result in
    let n = g.V.NativePType.number c.in-Some.value in
    let at = run-at runs c.loop-run.run (Some n) count c.in-Some.ensures c.rows_of.ensures.counted in
    record {
      summed = tt;
      left = λ none before summed. left range before runs c.loop-run.run n count (state c.loop-run.sum) (state c.add.new.self).calls c.loop-run.empty at c.rows_of.ensures.shown c.if-not-add.ensures.fits c.add.ensures.calls (c.loop-run.invariant.summed before summed);
      counted = counted_run (state c.args.sum.now) (state c.loop-run.sum) (state c.add.new.self) n count c.add.ensures.calls c.add.ensures.additions c.loop-run.invariant.counted;
    }

pub loop-run-preserved : goal.loop-run-preserved
loop-run-preserved g c =
    let range = sum_range g.V.NativePType.PTYPE in
    let runs = g.R.Runs.runs c.args.runs.now in
    let state = g.S.RunSum.state in
    let sum = c.loop-run.sum in
    let next = c.match-value.sum in
    elim c.match-value.branch [
      | in-Some+else-not-add w ↦
          let count = w.rows_of.result in
          let n = g.V.NativePType.number w.in-Some.value in
          let added = w.add.ensures.added w.if-not-add.false in
          let at = run-at runs c.loop-run.run (Some n) count w.in-Some.ensures w.rows_of.ensures.counted in
          record {
            from = omega (arith, c.loop-run.invariant.from);
            to = omega (arith, c.loop-run-test.true);
            summed = λ before h. rw w.empty-is
                (valid_run range before runs c.loop-run.run n count (state sum) (state next) c.loop-run.empty at w.rows_of.ensures.shown w.if-not-add.ensures.fits
                (ap (λ s. (state s).value) w.sum-is ∙ added) (ap (λ s. (state s).calls) w.sum-is ∙ w.add.ensures.calls) (c.loop-run.invariant.summed before h));
            counted = counted_run (state c.args.sum.now) (state sum) (state next) n count (ap (λ s. (state s).calls) w.sum-is ∙ w.add.ensures.calls) (ap (λ s. (state s).additions) w.sum-is ∙ w.add.ensures.additions) c.loop-run.invariant.counted;
          }
      | in_default w ↦ record {
        from = omega (arith, c.loop-run.invariant.from);
        to = omega (arith, c.loop-run-test.true);
        summed = λ before h. rw (w.sum-is, w.empty-is) (null_run-read range before runs c.loop-run.run (state sum) c.loop-run.empty w.in_default.ensures (c.loop-run.invariant.summed before h));
        counted = rw w.sum-is c.loop-run.invariant.counted;
      }
    ]

pub returns : goal.returns
returns g c =
    let here : c.loop-run.run ≡ c.args.to = omega (arith, c.loop-run.invariant.to, c.loop-run-test.false) in
    record { summed = λ before h. rw here at (c.loop-run.invariant.summed before h); left = λ none. cc; counted = c.loop-run.invariant.counted }
