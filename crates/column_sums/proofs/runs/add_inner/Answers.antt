use Rattle.std.proofs.Common.{◌≡◌, arith}
use Rattle.column_sums.proofs.runs.add_inner.Goals as goal

pub loop-run-init : goal.loop-run-init
loop-run-init g c = record { from = omega arith; to = c.requires.ordered; summed = λ before h. h; counted = omega arith }

pub loop-run-preserved : goal.loop-run-preserved
loop-run-preserved g c =
    let old = c.loop-run.invariant in
    record {
      from = omega (arith, old.from, c.block_end-stop.ensures.low);
      to = c.block_end-stop.ensures.high;
      summed = λ before h. c.in_ok-empty.ensures.summed before (c.add_known_runs-known.ensures.summed before (old.summed before h));
      counted = omega (arith, old.counted, c.add_known_runs-known.ensures.counted, c.in_ok-empty.ensures.counted);
    }

pub returns : goal.returns
returns g c =
    let here : c.loop-run.run ≡ c.args.to = omega (arith, c.loop-run.invariant.to, c.loop-run-test.false) in
    record { summed = λ before h. rw here at (c.loop-run.invariant.summed before h); left = λ none. cc; counted = c.loop-run.invariant.counted }

pub returns-in_err-empty-clause-counted : goal.returns-in_err-empty-clause-counted
returns-in_err-empty-clause-counted g c = omega (arith, c.loop-run.invariant.counted, c.add_known_runs-known.ensures.counted, c.in_err-empty.ensures.counted)
