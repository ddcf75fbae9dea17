use Rattle.std.proofs.Common.{arith}
use Rattle.column_bytes.proofs.ListWalks.{all_later, walked}
use Rattle.column_bytes.proofs.list_walks.rows_fit.Goals as goal

pub loop-row-preserved : goal.loop-row-preserved
loop-row-preserved c = λ lists shows counted sized.
    let before = c.loop-row.invariant lists shows counted sized in
    let s = c.in-Some.ensures.found lists shows counted sized before.1 in
    (walked lists c.args.rows c.loop-row.row c.in-Some.step before.0 (omega (arith, c.loop-row-test.true)) s c.if-not-step.false, all_later lists c.loop-row.row c.in-Some.step.stop c.in-Some.step.cursors (omega (arith, c.in-Some.ensures.past)) s.read)
