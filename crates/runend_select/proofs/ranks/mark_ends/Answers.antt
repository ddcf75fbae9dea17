use Rattle.std.proofs.Common.{◌+◌, ◌/◌, ◌<◌, ◌∙◌, get_or, length, refl, sym, arith}
use Rattle.runend_select.proofs.TableRuns.{AreReached-more, AreReached-none, reach-more}
use Rattle.runend_select.proofs.RunBits.{AreMarked-all, AreMarkedBefore-more, AreMarkedBefore-none, stops}
use Rattle.runend_select.proofs.ranks.mark_ends.Goals as goal

pub loop-run-init : goal.loop-run-init
loop-run-init g c = record {
  marked = AreMarkedBefore-none c.args.ends.now.ends c.args.offset c.args.length c.args.words.now c.requires.zeros;
  reached = AreReached-none c.args.ends.now.ends c.args.offset c.args.length;
  below = c.requires.some;
  same = refl;
  cost = omega arith;
}

pub loop-run-preserved : goal.loop-run-preserved
loop-run-preserved g c =
    let ends = c.args.ends.now.ends in
    let offset = c.args.offset in
    let count = c.args.length in
    let run = c.loop-run.run in
    let rows = c.loop-run.reach in
    let more = c.rows_to_end-reach.result in
    let inv = c.loop-run.invariant in
    let within : run < length ends = omega (arith, c.len-run-end.ensures, c.loop-run-test.true) in
    let reach = reach-more ends offset count run rows more c.requires.window within (rw inv.same at c.rows_to_end-reach.ensures.rows) inv.reached in
    let below : rows + more < count = omega (arith, reach, c.if-reach-length.false) in
    record {
      marked = AreMarkedBefore-more ends offset count run (rows + more) (get_or c.loop-run.words ((rows + more) / 64) 0) c.loop-run.words c.requires.window c.requires.some within reach below refl inv.marked;
      reached = AreReached-more ends offset count run rows (rows + more) c.requires.window within reach inv.reached;
      below = below;
      same = c.rows_to_end-reach.ensures.same ∙ inv.same;
      cost = omega (arith, c.rows_to_end-reach.ensures.counted, inv.cost);
    }

-- the walk stopped at the first run that ends after the window
pub returns-then-reach-length-clause-marked : goal.returns-then-reach-length-clause-marked
returns-then-reach-length-clause-marked g c =
    let ends = c.args.ends.now.ends in
    let offset = c.args.offset in
    let count = c.args.length in
    let run = c.loop-run.run in
    let inv = c.loop-run.invariant in
    let within : run < length ends = omega (arith, c.len-run-end.ensures, c.loop-run-test.true) in
    let reach = reach-more ends offset count run c.loop-run.reach c.rows_to_end-reach.result c.requires.window within (rw inv.same at c.rows_to_end-reach.ensures.rows) inv.reached in
    AreMarked-all ends offset count run c.loop-run.words (omega arith) (stops ends offset count run c.requires.window within (sym reach ∙ c.if-reach-length.true) c.requires.some) inv.marked
