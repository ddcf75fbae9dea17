use Rattle.std.proofs.Common.{◌≡◌, ◌+◌, ◌<◌, arith, length}
use Rattle.runend_array.specs.RowRuns.{stop_visible}
use Rattle.runend_pairs.proofs.NullCounted.{nulls_after, nulls_all, nulls_none, nulls_small}
use Rattle.runend_pairs.proofs.null_counts.nulls_in_runs.Goals as goal

pub nulls_of-count-requires : goal.nulls_of-count-requires
nulls_of-count-requires g c = omega (arith, c.requires, c.loop-run-test.true, c.visible_runs-visible.ensures.in_bounds)

pub overflow_add-count : goal.overflow_add-count
overflow_add-count g c =
    let runs = c.args.runs.now in
    let values = g.N.NullRuns.shown c.args.shows.now in
    let window = c.visible_runs-visible.ensures.valid.window in
    let within : c.loop-run.run < length runs.ends = omega (arith, c.loop-run-test.true, c.visible_runs-visible.ensures.in_bounds) in
    let next = nulls_after runs.ends values runs.offset runs.count c.loop-run.run c.loop-run.row c.loop-run.count c.stop_of_run-stop.result c.saturating_sub.result c.nulls_of-count.result window c.requires within
    c.stop_of_run-stop.ensures c.nulls_of-count.ensures c.saturating_sub.ensures c.loop-run.invariant in
    let small = nulls_small runs.ends values runs.offset runs.count (c.loop-run.run + 1) c.stop_of_run-stop.result (c.loop-run.count + c.nulls_of-count.result) window next in
    omega (arith, small)

pub loop-run-init : goal.loop-run-init
loop-run-init g c = nulls_none c.args.runs.now.ends (g.N.NullRuns.shown c.args.shows.now) c.args.runs.now.offset c.args.runs.now.count c.visible_runs-visible.result.start c.visible_runs-visible.ensures.first

pub loop-run-preserved : goal.loop-run-preserved
loop-run-preserved g c =
    let runs = c.args.runs.now in
    let window = c.visible_runs-visible.ensures.valid.window in
    let within : c.loop-run.run < length runs.ends = omega (arith, c.loop-run-test.true, c.visible_runs-visible.ensures.in_bounds) in
    nulls_after runs.ends (g.N.NullRuns.shown c.args.shows.now) runs.offset runs.count c.loop-run.run c.loop-run.row c.loop-run.count c.stop_of_run-stop.result c.saturating_sub.result c.nulls_of-count.result window c.requires within
    c.stop_of_run-stop.ensures c.nulls_of-count.ensures c.saturating_sub.ensures c.loop-run.invariant

pub returns : goal.returns
returns g c =
    let runs = c.args.runs.now in
    let last : c.loop-run.run ≡ stop_visible runs.ends runs.offset runs.count = omega (arith, c.loop-run-test.false, c.visible_runs-visible.ensures.stop, c.visible_runs-visible.ensures.ordered) in
    nulls_all runs.ends (g.N.NullRuns.shown c.args.shows.now) runs.offset runs.count c.loop-run.run c.loop-run.row c.loop-run.count c.visible_runs-visible.ensures.valid.window c.requires last c.loop-run.invariant
