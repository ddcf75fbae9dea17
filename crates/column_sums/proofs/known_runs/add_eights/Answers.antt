use Rattle.std.proofs.Common.{arith}
use Rattle.column_sums.proofs.known_runs.add_eights.Goals as goal

pub add_eight-all_null-requires-clause-sized : goal.add_eight-all_null-requires-clause-sized
add_eight-all_null-requires-clause-sized g c =
    let old = c.loop-run.invariant in
    λ k n from to. c.requires.sized k n (omega (arith, from, old.from)) (omega (arith, to, old.last, old.whole, c.loop-run-test.true))

pub loop-run-preserved : goal.loop-run-preserved
loop-run-preserved g c =
    let old = c.loop-run.invariant in
    record {
      from = omega (arith, old.from);
      to = omega (arith, old.whole, c.loop-run-test.true);
      last = old.last;
      whole = omega (arith, old.whole, c.loop-run-test.true);
      stays = c.add_eight-all_null.ensures.stays;
      summed = λ before h. c.add_eight-all_null.ensures.summed before (old.summed before h);
      counted = omega (arith, old.counted, c.add_eight-all_null.ensures.counted);
    }
