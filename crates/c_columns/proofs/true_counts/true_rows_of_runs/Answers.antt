use Rattle.std.proofs.Common.{◌≡◌, ◌+◌, ◌<◌, ◌^◌, arith}
use Rattle.runend_array.specs.RowRuns.{stop_visible}
use Rattle.c_columns.proofs.TrueCounts.{counted_all, counted_next, counted_small}
use Rattle.c_columns.proofs.true_counts.true_rows_of_runs.Goals as goal

pub overflow_add-count : goal.overflow_add-count
overflow_add-count c =
    let runs = c.args.runs.now in
    let run = c.loop-run.run in
    let more = c.true_rows_of_run-count.result in
    let valid = c.visible_runs-visible.ensures.valid in
    let next = counted_next runs run c.loop-run.count more valid (omega (arith, c.loop-run-test.true, c.visible_runs-visible.ensures.in_bounds)) c.true_rows_of_run-count.ensures c.loop-run.invariant in
    let small : c.loop-run.count + more < 2 ^ 64 = counted_small runs (run + 1) (c.loop-run.count + more) valid next in
    omega (arith, small)

pub returns : goal.returns
returns c =
    let runs = c.args.runs.now in
    let last : c.loop-run.run ≡ stop_visible runs.ends runs.offset runs.count = omega (arith, c.loop-run-test.false, c.visible_runs-visible.ensures.stop, c.visible_runs-visible.ensures.ordered) in
    counted_all runs c.loop-run.run c.loop-run.count c.visible_runs-visible.ensures.valid last c.loop-run.invariant
