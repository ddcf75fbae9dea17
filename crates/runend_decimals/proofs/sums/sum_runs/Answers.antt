use Rattle.std.proofs.Common.{◌≡◌, ◌∙◌, ℕ, ◌-◌, ◌<◌, length, ap, refl, subst, sym, arith}
use Rattle.column_core.specs.DecimalForm.{optional_decimals}
use Rattle.runend_floats.specs.Runs.{first_row}
use Rattle.runend_windows.specs.Ends.{ends_of}
use Rattle.runend_windows.specs.Window.{last_end, run_rows}
use Rattle.runend_windows.proofs.RunRows.{length-run_rows}
use Rattle.runend_decimals.proofs.DecimalRuns.{decimals_long}
use Rattle.runend_decimals.proofs.RunsAt.{first_next, run_end, run_has_row, run_short, run_small, run_shows}
use Rattle.runend_decimals.proofs.TotalRows.{IsSummedTo, first_after, held_fewer, leaving_step, summed_all, summed_none, summed_step}
use Rattle.runend_decimals.proofs.sums.sum_runs.Goals as goal

pub loop-run-init : goal.loop-run-init
loop-run-init g c = record { at = refl; summed = summed_none _ }

pub end_of-end-requires-clause-there : goal.end_of-end-requires-clause-there
end_of-end-requires-clause-there g c = omega (arith, c.loop-run-test.true, c.len-run-end.ensures.rows, decimals_long c.args.values.now, c.requires.paired)

pub decimal_at-requires : goal.decimal_at-requires
decimal_at-requires g c = omega (arith, c.loop-run-test.true, c.len-run-end.ensures.numbers)

pub overflow_sub-end : goal.overflow_sub-end
overflow_sub-end g c =
    let ends = ends_of c.args.ends.now in
    let within : c.loop-run.run < length ends = omega (arith, c.loop-run-test.true, c.len-run-end.ensures.rows, decimals_long c.args.values.now, c.requires.paired) in
    let some = run_has_row ends c.requires.runs.window c.requires.runs.filled c.loop-run.run c.loop-run.row c.end_of-end.result within c.loop-run.invariant.at c.end_of-end.ensures.end in
    omega (arith, some)

pub with_rows-requires : goal.with_rows-requires
with_rows-requires g c = rw c.loop-run.invariant.summed.sum_is (c.loop-run.invariant.summed.within c.loop-run.row (omega arith))

pub overflow_add-result : goal.overflow_add-result
overflow_add-result g c =
    let ends = ends_of c.args.ends.now in
    let end = c.end_of-end.result in
    let row = c.loop-run.row in
    let within : c.loop-run.run < length ends = omega (arith, c.loop-run-test.true, c.len-run-end.ensures.rows, decimals_long c.args.values.now, c.requires.paired) in
    let some = run_has_row ends c.requires.runs.window c.requires.runs.filled c.loop-run.run row end within c.loop-run.invariant.at c.end_of-end.ensures.end in
    let small = run_small ends c.requires.runs.window c.requires.runs.filled c.loop-run.run row end within c.loop-run.invariant.at c.end_of-end.ensures.end in
    let fewer = held_fewer c.loop-run.total.sum c.decimal_at.result (end - row) c.in-Err.held c.in-Err.ensures.left in
    omega (arith, some, small, fewer)

pub returns-in-Err-clause-refused : goal.returns-in-Err-clause-refused
returns-in-Err-clause-refused g c =
    let ends = ends_of c.args.ends.now in
    let values = optional_decimals c.args.values.now in
    let rows = run_rows ends values 0 (last_end ends) in
    let window = c.requires.runs.window in
    let filled = c.requires.runs.filled in
    let run = c.loop-run.run in
    let row = c.loop-run.row in
    let end = c.end_of-end.result in
    let at = c.loop-run.invariant.at in
    let end_is = c.end_of-end.ensures.end in
    let within : run < length ends = omega (arith, c.loop-run-test.true, c.len-run-end.ensures.rows, decimals_long c.args.values.now, c.requires.paired) in
    let copies = run_shows ends window filled run row end within at end_is values c.decimal_at.result c.requires.paired c.decimal_at.ensures in
    leaving_step rows row (end - row) c.in-Err.held c.loop-run.total c.decimal_at.result (run_short ends window filled run row end within at end_is values) c.loop-run.invariant.summed copies c.in-Err.ensures.left

pub loop-run-preserved : goal.loop-run-preserved
loop-run-preserved g c =
    let ends = ends_of c.args.ends.now in
    let values = optional_decimals c.args.values.now in
    let rows = run_rows ends values 0 (last_end ends) in
    let window = c.requires.runs.window in
    let filled = c.requires.runs.filled in
    let run = c.loop-run.run in
    let row = c.loop-run.row in
    let end = c.end_of-end.result in
    let at = c.loop-run.invariant.at in
    let end_is = c.end_of-end.ensures.end in
    let within : run < length ends = omega (arith, c.loop-run-test.true, c.len-run-end.ensures.rows, decimals_long c.args.values.now, c.requires.paired) in
    let copies = run_shows ends window filled run row end within at end_is values c.decimal_at.result c.requires.paired c.decimal_at.ensures in
    let some = run_has_row ends window filled run row end within at end_is in
    let filled_run : 0 < end - row = omega (arith, some) in
    record {
      at = end_is ∙ first_next ends run;
      summed = subst (λ (k : ℕ). IsSummedTo rows k c.in-Ok.next.sum c.in-Ok.next.is_empty) (run_end ends window filled run row end within at end_is)
          (summed_step rows row (end - row) c.loop-run.total c.in-Ok.next c.decimal_at.result filled_run c.loop-run.invariant.summed copies c.in-Ok.ensures.sum c.in-Ok.ensures.within);
    }

pub returns-clause-sum : goal.returns-clause-sum
returns-clause-sum g c =
    let ends = ends_of c.args.ends.now in
    let values = optional_decimals c.args.values.now in
    let rows = run_rows ends values 0 (last_end ends) in
    let done : c.loop-run.run ≡ length ends = omega (arith, c.loop-run-test.false, c.loop-run.auto.run-end, c.len-run-end.ensures.rows, decimals_long c.args.values.now, c.requires.paired) in
    let past : c.loop-run.row ≡ length rows = c.loop-run.invariant.at ∙ ap (first_row ends) done ∙ first_after ends ∙ sym (length-run_rows ends values 0 (last_end ends)) in
    (summed_all rows c.loop-run.row c.loop-run.total past c.loop-run.invariant.summed).0

pub returns-clause-within : goal.returns-clause-within
returns-clause-within g c =
    let ends = ends_of c.args.ends.now in
    let values = optional_decimals c.args.values.now in
    let rows = run_rows ends values 0 (last_end ends) in
    let done : c.loop-run.run ≡ length ends = omega (arith, c.loop-run-test.false, c.loop-run.auto.run-end, c.len-run-end.ensures.rows, decimals_long c.args.values.now, c.requires.paired) in
    let past : c.loop-run.row ≡ length rows = c.loop-run.invariant.at ∙ ap (first_row ends) done ∙ first_after ends ∙ sym (length-run_rows ends values 0 (last_end ends)) in
    (summed_all rows c.loop-run.row c.loop-run.total past c.loop-run.invariant.summed).1
