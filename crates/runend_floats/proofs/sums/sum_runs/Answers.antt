use Rattle.std.proofs.Common.{◌≡◌, ◌∙◌, ◌-◌, ◌<◌, ℕ, ap, arith, length, replicate, subst, sym}
use Rattle.std.specs.Prelude.{IfSome, slice_range}
use Rattle.column_core.specs.PrimitiveForm.{optional_numbers, row_flags}
use Rattle.column_core.proofs.OptionalRows.{length-optionals-le}
use Rattle.float_bits.specs.declared.formats.FloatFormat.{FloatFormat}
use Rattle.float_bits.specs.Tally.{Tally, joined}
use Rattle.runend_windows.specs.Ends.{ends_of}
use Rattle.runend_windows.proofs.Ends.{length_ends_of}
use Rattle.column_floats.specs.Formats.{IsKey}
use Rattle.runend_floats.specs.Runs.{first_row}
use Rattle.runend_floats.specs.Sums.{tally_of_keys}
use Rattle.runend_floats.proofs.CoveredRows.{run_is_filled}
use Rattle.runend_floats.proofs.RunSums.{few_rows, first_row-next, shown, tally_of_all, tally_of_next}
use Rattle.runend_floats.proofs.sums.sum_runs.Goals as goal

pub key_at-requires-clause-there : goal.key_at-requires-clause-there
key_at-requires-clause-there g c =
    let keys = c.args.keys.now in
    omega (arith, c.loop-run-test.true, c.len-run-end.ensures.numbers, length_ends_of c.args.ends.now, c.requires.paired, length-optionals-le keys.numbers (row_flags keys))

pub overflow_sub-end : goal.overflow_sub-end
overflow_sub-end g c =
    let ends = ends_of c.args.ends.now in
    let run = c.loop-run.run in
    let within : run < length ends = omega (arith, c.loop-run-test.true, c.len-run-end.ensures.numbers, length_ends_of c.args.ends.now) in
    let filled = run_is_filled ends run c.requires.runs.window.increasing c.requires.runs.filled within in
    omega (arith, filled, c.end_of-end.ensures.end, c.loop-run.invariant.begun)

pub add_rows-requires-clause-fits : goal.add_rows-requires-clause-fits
add_rows-requires-clause-fits g c = subst (λ (f : FloatFormat). IfSome c.key_at.result (IsKey f)) (sym c.requires.format) c.key_at.ensures.fits

pub add_rows-requires-clause-few : goal.add_rows-requires-clause-few
add_rows-requires-clause-few g c =
    let ends = ends_of c.args.ends.now in
    let keys = optional_numbers c.args.keys.now in
    let run = c.loop-run.run in
    let row = c.loop-run.row in
    let end = c.end_of-end.result in
    let within : run < length ends = omega (arith, c.loop-run-test.true, c.len-run-end.ensures.numbers, length_ends_of c.args.ends.now) in
    let filled = run_is_filled ends run c.requires.runs.window.increasing c.requires.runs.filled within in
    let few = few_rows c.args.format ends keys c.requires.runs.window c.requires.paired run row end within c.loop-run.invariant.begun c.end_of-end.ensures.end (omega (arith, filled, c.end_of-end.ensures.end, c.loop-run.invariant.begun)) in
    let same = ap (λ (t : Tally). t.rows) c.loop-run.invariant.added in
    omega (arith, few, same)

pub loop-run-preserved : goal.loop-run-preserved
loop-run-preserved g c =
    let ends = ends_of c.args.ends.now in
    let keys = optional_numbers c.args.keys.now in
    let run = c.loop-run.run in
    let key = c.key_at.result in
    let end = c.end_of-end.result in
    let rows = shown ends keys in
    let within : run < length ends = omega (arith, c.loop-run-test.true, c.len-run-end.ensures.numbers, length_ends_of c.args.ends.now) in
    let filled = run_is_filled ends run c.requires.runs.window.increasing c.requires.runs.filled within in
    let next = tally_of_next c.args.format ends keys c.requires.runs.window c.requires.paired run end key within c.end_of-end.ensures.end c.key_at.ensures.key (omega (arith, filled, c.end_of-end.ensures.end)) in
    record {
      begun = c.end_of-end.ensures.end ∙ sym (first_row-next ends run);
      added = c.add_rows.ensures ∙ ap (λ (t : Tally). joined t (tally_of_keys c.args.format (replicate (end - c.loop-run.row) key))) c.loop-run.invariant.added
          ∙ subst (λ (n : ℕ). joined (tally_of_keys c.args.format (slice_range rows 0 n)) (tally_of_keys c.args.format (replicate (end - n) key)) ≡ tally_of_keys c.args.format (slice_range rows 0 end)) (sym c.loop-run.invariant.begun) next;
    }

pub returns : goal.returns
returns g c =
    let ends = ends_of c.args.ends.now in
    let keys = optional_numbers c.args.keys.now in
    let done : c.loop-run.run ≡ length ends = omega (arith, c.loop-run-test.false, c.loop-run.auto.run-end, c.len-run-end.ensures.numbers, length_ends_of c.args.ends.now) in
    c.loop-run.invariant.added ∙ tally_of_all c.args.format ends keys c.requires.runs.window c.requires.paired c.loop-run.row (c.loop-run.invariant.begun ∙ ap (first_row ends) done)
