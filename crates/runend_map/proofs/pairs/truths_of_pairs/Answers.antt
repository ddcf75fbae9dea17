use Rattle.std.proofs.Common.{◌≡◌, ℕ, length, subst, rules, arith}
use Rattle.column_base.specs.Types.{nullability_of}
use Rattle.column_core.specs.BoolForm.{optional_truths}
use Rattle.column_core.specs.FlatColumn.{leaf_of}
use Rattle.column_core.specs.Leaf.{leaf_dtype, single_rows}
use Rattle.column_core.specs.ScalarView.{sees}
use Rattle.column_ops.specs.Comparing.{compare_rows, either_nullability}
use Rattle.column_ops.proofs.WrittenTruths.{AreWritten-all, AreWritten-none, compared-typed, length-compare_rows}
use Rattle.runend_windows.specs.Ends.{ends_of}
use Rattle.runend_windows.proofs.RunRows.{length-run_rows}
use Rattle.runend_map.specs.ShownRuns.{rows_shown}
use Rattle.runend_map.proofs.ComparedRows.{stored_computed}
use Rattle.runend_map.proofs.PairedRuns.{IsPaired-next, IsPaired-none, IsRunAfter, run_past, run_there}
use Rattle.runend_map.proofs.pairs.truths_of_pairs.Goals as goal

pub loop-row-init : goal.loop-row-init
loop-row-init g c =
    rw (c.in_ok-bits.ensures.empty, c.in_ok-flags.ensures.empty) (IsPaired-none _ _ _ _ _ _ c.args.count c.requires.left.first c.requires.right.first)

pub stop-left_stop-requires : goal.stop-left_stop-requires
stop-left_stop-requires g c = record {
  plain = c.requires.left.plain;
  there = run_there _ _ c.args.count c.loop-row.row c.loop-row.left_run 0 c.requires.left.window c.loop-row-test.true c.loop-row.invariant.at_left;
}

pub stop-right_stop-requires : goal.stop-right_stop-requires
stop-right_stop-requires g c = record {
  plain = c.requires.right.plain;
  there = run_there _ _ c.args.count c.loop-row.row c.loop-row.right_run 0 c.requires.right.window c.loop-row-test.true c.loop-row.invariant.at_right;
}

pub get-requires : goal.get-requires
get-requires g c =
    let there = run_there _ _ c.args.count c.loop-row.row c.loop-row.left_run 0 c.requires.left.window c.loop-row-test.true c.loop-row.invariant.at_left in
    let paired = c.requires.left.paired in omega arith

pub get-requires-in-loop-row : goal.get-requires-in-loop-row
get-requires-in-loop-row g c =
    let there = run_there _ _ c.args.count c.loop-row.row c.loop-row.right_run 0 c.requires.right.window c.loop-row-test.true c.loop-row.invariant.at_right in
    let paired = c.requires.right.paired in omega arith

pub overflow_sub-stop : goal.overflow_sub-stop
overflow_sub-stop g c =
    let left = run_past _ _ c.args.count c.loop-row.row c.loop-row.left_run 0 c.requires.left.window c.loop-row-test.true c.loop-row.invariant.at_left in
    let right = run_past _ _ c.args.count c.loop-row.row c.loop-row.right_run 0 c.requires.right.window c.loop-row-test.true c.loop-row.invariant.at_right in
    omega (arith, left, right, c.min.ensures, c.min-stop.ensures, c.stop-left_stop.ensures.stop, c.stop-right_stop.ensures.stop)

pub loop-row-smaller : goal.loop-row-smaller
loop-row-smaller g c =
    let left = run_past _ _ c.args.count c.loop-row.row c.loop-row.left_run 0 c.requires.left.window c.loop-row-test.true c.loop-row.invariant.at_left in
    let right = run_past _ _ c.args.count c.loop-row.row c.loop-row.right_run 0 c.requires.right.window c.loop-row-test.true c.loop-row.invariant.at_right in
    omega (arith, left, right, c.min.ensures, c.min-stop.ensures, c.stop-left_stop.ensures.stop, c.stop-right_stop.ensures.stop)

pub loop-row-preserved : goal.loop-row-preserved
loop-row-preserved g c =
    let left = leaf_of c.args.left.now.values in
    let right = leaf_of c.args.right.now.values in
    let one = sees c.get.result in
    let other = sees c.get-in-loop-row.result in
    rw (c.in_ok-append_truths.ensures.bits, c.in_ok-append_truths.ensures.flags)
    (IsPaired-next (either_nullability (nullability_of (leaf_dtype left)) (nullability_of (leaf_dtype right))) c.args.operator (ends_of c.args.left.now.ends) (single_rows left) c.args.left.now.offset
    (ends_of c.args.right.now.ends) (single_rows right) c.args.right.now.offset c.args.count c.loop-row.row c.loop-row.left_run c.loop-row.right_run c.min-stop.result
    c.run_after-left_run.result c.run_after-right_run.result c.loop-row.bits c.loop-row.flags c.truth_of-truth.result one other
    c.requires.left.window c.requires.right.window c.loop-row-test.true (omega (arith, c.min.ensures, c.min-stop.ensures, c.stop-left_stop.ensures.stop, c.stop-right_stop.ensures.stop)) c.get.ensures.row c.get-in-loop-row.ensures.row c.truth_of-truth.ensures
    (compared-typed c.args.operator (leaf_dtype left) (leaf_dtype right) c.get.result c.get-in-loop-row.result c.get.ensures.of_type c.get-in-loop-row.ensures.of_type)
    (subst (λ (s : ℕ). IsRunAfter c.loop-row.left_run s c.min-stop.result c.run_after-left_run.result) c.stop-left_stop.ensures.stop (c.run_after-left_run.ensures.ended, c.run_after-left_run.ensures.going))
    (subst (λ (s : ℕ). IsRunAfter c.loop-row.right_run s c.min-stop.result c.run_after-right_run.result) c.stop-right_stop.ensures.stop (c.run_after-right_run.ensures.ended, c.run_after-right_run.ensures.going))
    c.loop-row.invariant)

pub column_of_truths-requires-clause-paired : goal.column_of_truths-requires-clause-paired
column_of_truths-requires-clause-paired g c = c.loop-row.invariant.written.paired

pub column_of_truths-requires-clause-blank : goal.column_of_truths-requires-clause-blank
column_of_truths-requires-clause-blank g c = c.loop-row.invariant.written.blank

pub column_of_truths-requires-clause-typed : goal.column_of_truths-requires-clause-typed
column_of_truths-requires-clause-typed g c = let typed = c.loop-row.invariant.written.typed in search rules

pub returns-clause-rows : goal.returns-clause-rows
returns-clause-rows g c =
    let left = leaf_of c.args.left.now.values in
    let right = leaf_of c.args.right.now.values in
    let lefts = rows_shown c.args.left.now.ends c.args.left.now.offset left c.args.count in
    let rights = rows_shown c.args.right.now.ends c.args.right.now.offset right c.args.count in
    let long : length lefts ≡ c.args.count = length-run_rows (ends_of c.args.left.now.ends) (single_rows left) c.args.left.now.offset c.args.count in
    let same = length-compare_rows c.args.operator lefts rights in
    AreWritten-all (either_nullability (nullability_of (leaf_dtype left)) (nullability_of (leaf_dtype right))) (compare_rows c.args.operator lefts rights) c.loop-row.row c.loop-row.bits c.loop-row.flags
    (optional_truths c.column_of_truths.result) (omega arith) c.column_of_truths.ensures.truths c.loop-row.invariant.written

pub returns-clause-computed : goal.returns-clause-computed
returns-clause-computed g c = stored_computed c.column_of_truths.result c.column_of_truths.ensures.stored
