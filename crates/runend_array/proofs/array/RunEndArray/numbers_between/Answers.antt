use Rattle.std.proofs.Common.{◌≡◌, ◌-◌, length, ap, subst, ◌∙◌, refl, arith}
use Rattle.std.specs.List.Sorted.{IsStrictlyIncreasing}
use Rattle.std.specs.Prelude.{slice_index}
use Rattle.runend_array.specs.Array.{column_of}
use Rattle.runend_array.specs.Column.{IsPlainIndex, Runs, end_numbers}
use Rattle.runend_array.proofs.ListItems.{rows_within_index}
use Rattle.runend_array.proofs.ListWalks.{Walked-all, Walked-next, Walked-none}
use Rattle.runend_array.proofs.array.RunEndArray.numbers_between.Goals as goal

pub loop-run-init : goal.loop-run-init
loop-run-init g c =
    let runs = c.args.self.now in
    record {
      rows = Walked-none (slice_index (end_numbers runs.values)) runs.ends runs.offset c.args.start (c.args.stop - c.args.start) c.runs_of_rows-runs.result.start c.in_ok-rows.rows.rows
          (rw c.in_ok-rows.ensures.empty refl) c.runs_of_rows-runs.ensures.first;
      limit = rw c.in_ok-rows.ensures.empty refl;
    }

pub plain_number_at-number-requires-clause-within : goal.plain_number_at-number-requires-clause-within
plain_number_at-number-requires-clause-within g c =
    let plain : IsPlainIndex (column_of c.self.inside.values) = rw (← c.self.view_is) at c.requires.plain in
    let in_bounds = rw (← c.self.view_is) at c.runs_of_rows-runs.ensures.in_bounds in
    omega (arith, c.loop-run-test.true, in_bounds, c.self.invariant.runs.paired, rows_within_index (column_of c.self.inside.values) plain)

pub repeat_to-requires : goal.repeat_to-requires
repeat_to-requires g c = record { room = omega (arith, c.loop-run.invariant.limit, c.reach_of.ensures) }

pub loop-run-preserved : goal.loop-run-preserved
loop-run-preserved g c =
    let runs = c.args.self.now in
    let increasing = subst IsStrictlyIncreasing (ap (λ (r : Runs). r.ends) c.self.view_is) c.self.invariant.runs.window.increasing in
    let value : c.plain_number_at-number.result ≡ slice_index (end_numbers runs.values) c.loop-run.run = c.plain_number_at-number.ensures ∙ ap (λ (r : Runs). slice_index (end_numbers r.values) c.loop-run.run) c.self.view_is in
    let copies = ap (λ n. n - length c.loop-run.rows.rows) c.reach_of.ensures in
    record {
      rows = Walked-next (slice_index (end_numbers runs.values)) runs.ends runs.offset c.args.start (c.args.stop - c.args.start) c.loop-run.run c.loop-run.rows.rows c.repeat_to.new.self.rows
          c.plain_number_at-number.result (c.reach_of.result - length c.loop-run.rows.rows) increasing (omega (arith, c.loop-run-test.true, c.runs_of_rows-runs.ensures.in_bounds))
          value copies c.repeat_to.ensures.rows c.loop-run.invariant.rows;
      limit = c.repeat_to.ensures.limit ∙ c.loop-run.invariant.limit;
    }

pub returns-clause-numbers : goal.returns-clause-numbers
returns-clause-numbers g c =
    let runs = c.args.self.now in
    c.finish.ensures
    ∙ Walked-all (slice_index (end_numbers runs.values)) runs.ends runs.offset c.args.start c.args.stop c.loop-run.run c.loop-run.rows.rows c.requires.ordered
    (λ some. omega (arith, c.loop-run-test.false, c.runs_of_rows-runs.ensures.last)) c.loop-run.invariant.rows
