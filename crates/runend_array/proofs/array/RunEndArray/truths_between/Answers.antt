use Rattle.std.proofs.Common.{◌≡◌, ◌-◌, ap, subst, ◌∙◌, false, arith}
use Rattle.std.specs.List.Sorted.{IsStrictlyIncreasing}
use Rattle.std.specs.Prelude.{slice_index_or}
use Rattle.runend_array.specs.Array.{column_of}
use Rattle.runend_array.specs.Column.{IsPlainTruths, Runs, truths_of}
use Rattle.runend_array.proofs.ListItems.{rows_within_truths}
use Rattle.runend_array.proofs.ListWalks.{Walked-all, Walked-next, Walked-none}
use Rattle.runend_array.proofs.array.RunEndArray.truths_between.Goals as goal

pub loop-run-init : goal.loop-run-init
loop-run-init g c =
    let runs = c.args.self.now in
    Walked-none (λ run. slice_index_or (truths_of runs.values) run false) runs.ends runs.offset c.args.start (c.args.stop - c.args.start) c.runs_of_rows-runs.result.start c.in_ok-rows.rows
    c.in_ok-rows.ensures.empty c.runs_of_rows-runs.ensures.first

pub plain_truth_at-requires-clause-within : goal.plain_truth_at-requires-clause-within
plain_truth_at-requires-clause-within g c =
    let plain : IsPlainTruths (column_of c.self.inside.values) = rw (← c.self.view_is) at c.requires.plain in
    let in_bounds = rw (← c.self.view_is) at c.runs_of_rows-runs.ensures.in_bounds in
    omega (arith, c.loop-run-test.true, in_bounds, c.self.invariant.runs.paired, rows_within_truths (column_of c.self.inside.values) plain)

pub loop-run-preserved : goal.loop-run-preserved
loop-run-preserved g c =
    let runs = c.args.self.now in
    let increasing = subst IsStrictlyIncreasing (ap (λ (r : Runs). r.ends) c.self.view_is) c.self.invariant.runs.window.increasing in
    let value : c.plain_truth_at.result ≡ slice_index_or (truths_of runs.values) c.loop-run.run false = c.plain_truth_at.ensures ∙ ap (λ (r : Runs). slice_index_or (truths_of r.values) c.loop-run.run false) c.self.view_is in
    Walked-next (λ run. slice_index_or (truths_of runs.values) run false) runs.ends runs.offset c.args.start (c.args.stop - c.args.start) c.loop-run.run c.loop-run.rows _
    c.plain_truth_at.result c.saturating_sub-missing.result increasing (omega (arith, c.loop-run-test.true, c.runs_of_rows-runs.ensures.in_bounds))
    value (omega (arith, c.reach_of.ensures)) c.in_ok-append_n.ensures.ok c.loop-run.invariant

pub returns-clause-truths : goal.returns-clause-truths
returns-clause-truths g c =
    let runs = c.args.self.now in
    c.freeze-2.ensures ∙ Walked-all (λ run. slice_index_or (truths_of runs.values) run false) runs.ends runs.offset c.args.start c.args.stop c.loop-run.run c.loop-run.rows c.requires.ordered
    (λ some. omega (arith, c.loop-run-test.false, c.runs_of_rows-runs.ensures.last)) c.loop-run.invariant
