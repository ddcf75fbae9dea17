use Rattle.std.proofs.Common.{◌≡◌, ◌∙◌, ◌<◌, ℕ, List, Option, ap, arith, length, take}
use Rattle.std.specs.Prelude.{fold, slice_index}
use Rattle.std.proofs.lemmas.List.{take_all}
use Rattle.column_core.specs.FlatColumn.{leaf_of}
use Rattle.column_core.specs.Leaf.{single_rows}
use Rattle.column_core.specs.ScalarView.{sees}
use Rattle.column_core.specs.Value.{Value}
use Rattle.column_ops.proofs.RowRanges.{length-single_rows}
use Rattle.runend_windows.specs.Ends.{ends_of}
use Rattle.runend_pairs.specs.Hashes.{run_writes}
use Rattle.runend_pairs.proofs.Hashed.{state_next}
use Rattle.runend_pairs.proofs.hashes.write_runs.Goals as goal

pub stop_in-end-requires : goal.stop_in-end-requires
stop_in-end-requires g c = record {
  plain = c.requires.plain;
  there = omega (arith, c.loop-run-test.true, c.len-count.ensures, c.requires.paired);
}

pub loop-run-preserved : goal.loop-run-preserved
loop-run-preserved g c =
    let within : c.loop-run.run < length (ends_of c.args.ends.now) = omega (arith, c.loop-run-test.true, c.len-count.ensures, c.requires.paired) in
    let stop : c.stop_in-end.result ≡ slice_index (ends_of c.args.ends.now) c.loop-run.run = omega (arith, c.stop_in-end.ensures.stop) in
    state_next g.H.Hasher.write c.args.state.now c.loop-run.state _ _ (ends_of c.args.ends.now) (single_rows (leaf_of c.args.values.now)) c.loop-run.run c.stop_in-end.result (sees c.get.result)
    within c.get.ensures.row stop c.loop-run.invariant c.write_u64.ensures c.write_row.ensures

pub returns : goal.returns
returns g c =
    let ends = ends_of c.args.ends.now in
    let values = single_rows (leaf_of c.args.values.now) in
    let run = c.loop-run.run in
    let long = length-single_rows (leaf_of c.args.values.now) in
    let all_ends : take run ends ≡ ends = take_all run ends (omega (arith, c.loop-run-test.false, c.len-count.ensures, c.requires.paired)) in
    let all_values : take run values ≡ values = take_all run values (omega (arith, c.loop-run-test.false, c.len-count.ensures, long)) in
    c.loop-run.invariant ∙ ap (λ (es : List ℕ). fold g.H.Hasher.write c.args.state.now (run_writes es (take run values))) all_ends
    ∙ ap (λ (vs : List (Option Value)). fold g.H.Hasher.write c.args.state.now (run_writes ends vs)) all_values
