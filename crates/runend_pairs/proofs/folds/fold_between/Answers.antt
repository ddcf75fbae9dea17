use Rattle.std.proofs.Common.{◌∙◌, ◌<◌, ◌≤◌, ℤ, List, Option, arith, length, map, subst, sym}
use Rattle.std.specs.Prelude.{option_map, slice_index, slice_range}
use Rattle.column_base.specs.Validity.{form_of, validity_flags}
use Rattle.column_base.proofs.Ranges.{length-slice_range}
use Rattle.column_core.specs.Optionals.{optionals}
use Rattle.runend_windows.specs.Ends.{ends_of}
use Rattle.runend_windows.specs.Window.{last_end}
use Rattle.runend_windows.proofs.RunRows.{length-run_rows}
use Rattle.runend_pairs.specs.Groups.{shown_numbers}
use Rattle.runend_pairs.proofs.WalkedGroups.{paired_values, range_grown, run_next, run_past, run_there}
use Rattle.runend_pairs.proofs.folds.fold_between.Goals as goal

pub end-end-requires-clause-there : goal.end-end-requires-clause-there
end-end-requires-clause-there g c =
    run_there (ends_of c.args.values.now.ends.now) c.loop-row.row c.loop-row.run c.requires.runs.whole.window (omega (arith, c.loop-row-test.true, c.requires.within)) c.loop-row.invariant.here

pub value-requires-clause-there : goal.value-requires-clause-there
value-requires-clause-there g c =
    run_there (ends_of c.args.values.now.ends.now) c.loop-row.row c.loop-row.run c.requires.runs.whole.window (omega (arith, c.loop-row-test.true, c.requires.within)) c.loop-row.invariant.here

pub overflow_sub-reached : goal.overflow_sub-reached
overflow_sub-reached g c =
    let past = run_past (ends_of c.args.values.now.ends.now) c.loop-row.row c.loop-row.run c.requires.runs.whole.window (omega (arith, c.loop-row-test.true, c.requires.within)) c.loop-row.invariant.here in
    omega (arith, past, c.min-reached.ensures, c.end-end.ensures.end, c.loop-row-test.true)

pub loop-row-smaller : goal.loop-row-smaller
loop-row-smaller g c =
    let past = run_past (ends_of c.args.values.now.ends.now) c.loop-row.row c.loop-row.run c.requires.runs.whole.window (omega (arith, c.loop-row-test.true, c.requires.within)) c.loop-row.invariant.here in
    omega (arith, past, c.min-reached.ensures, c.end-end.ensures.end, c.loop-row-test.true)

pub loop-row-preserved : goal.loop-row-preserved
loop-row-preserved g c =
    let own = c.args.values.now in
    let ends = ends_of own.ends.now in
    let marks = validity_flags own.validity.now (length own.items.now) in
    let values = optionals (map g.T.NativePType.number own.items.now) marks in
    let rows = shown_numbers ends (map g.T.NativePType.number own.items.now) marks in
    let window = c.requires.runs.whole.window in
    let here = c.loop-row.invariant.here in
    let from = c.loop-row.invariant.from in
    let row = c.loop-row.row in
    let run = c.loop-row.run in
    let reached = c.min-reached.result in
    let value = option_map g.T.NativePType.number c.value.result in
    let more : row < last_end ends = omega (arith, c.loop-row-test.true, c.requires.within) in
    let past = run_past ends row run window more here in
    let later : row < reached = omega (arith, past, c.min-reached.ensures, c.end-end.ensures.end, c.loop-row-test.true) in
    let inside : reached ≤ slice_index ends run = omega (arith, c.min-reached.ensures, c.end-end.ensures.end) in
    let before_stop : reached ≤ c.args.stop = omega (arith, c.min-reached.ensures) in
    let short : reached ≤ last_end ends = omega (arith, before_stop, c.requires.within) in
    let paired = paired_values g.T.NativePType.number own.items.now (form_of own.validity.now) ends c.requires.runs.paired c.requires.runs.flagged in
    let grown = range_grown ends values c.args.start row run reached value window paired from later short here inside c.value.ensures in
    let shown = length-run_rows ends values 0 (last_end ends) in
    let long = length-slice_range rows c.args.start row from (omega (arith, shown, more)) in
    record {
      from = omega (arith, from, later);
      within = before_stop;
      here = run_next ends row run window more here c.run_after-run.result reached later inside
          (λ e. c.run_after-run.ensures.ended (c.end-end.ensures.end ∙ e))
          (λ n. c.run_after-run.ensures.going (λ e. n (sym c.end-end.ensures.end ∙ e)));
      kept = subst (λ (xs : List (Option ℤ)). g.S.Fold.keeps xs c.add.new.self) (sym grown)
          (c.add.ensures (slice_range rows c.args.start row) (omega (arith, later)) (omega (arith, long, from, later, before_stop, c.ranges.stop.fits)) c.loop-row.invariant.kept);
    }
