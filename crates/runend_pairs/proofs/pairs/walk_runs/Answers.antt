use Rattle.std.proofs.Common.{◌≡◌, ◌∙◌, ℕ, Bool, true, false, min, refl, sym, ap, subst, arith}
use Rattle.std.specs.Prelude.{◌⊎◌, is_some, IsTrue}
use Rattle.std.proofs.lemmas.Bool.{false≢true}
use Rattle.std.proofs.lemmas.List.Elements.{All-push}
use Rattle.column_base.specs.Types.{nullability_of}
use Rattle.column_core.specs.FlatColumn.{leaf_of}
use Rattle.column_core.specs.Leaf.{leaf_dtype, single_rows}
use Rattle.column_core.specs.ScalarView.{sees}
use Rattle.column_ops.proofs.RowRanges.{length-single_rows}
use Rattle.runend_windows.specs.Ends.{ends_of}
use Rattle.runend_pairs.specs.Answers.{row_of, IsFound}
use Rattle.runend_pairs.specs.Operations.{IsNeverNull}
use Rattle.runend_pairs.proofs.Grown.{all_had, cover_of_grown, cover_of_none, IsGrown-none, IsGrown-on, IsGrown-turned}
use Rattle.runend_pairs.proofs.Placed.{few_asked, length-zip_runs, never_null, step_counted, step_few, step_found, step_later, step_placed, step_without, IsCounted-none, IsPlaced-none}
use Rattle.runend_pairs.proofs.Walked.{run_there}
use Rattle.runend_pairs.proofs.pairs.walk_runs.Goals as goal

pub loop-row-init : goal.loop-row-init
loop-row-init g c = record {
  placed = IsPlaced-none _ _ _ _ c.args.count c.requires.left.first c.requires.right.first;
  counted = rw c.requires.unasked (IsCounted-none _ _ c.args.count);
  same = refl;
  reached = c.in_ok-runs.ensures.reached;
  grown = rw (c.in_ok-runs.ensures.ends, c.in_ok-runs.ensures.items, c.in_ok-runs.ensures.flags) (IsGrown-none _ _ _ _ _ _);
}

pub stop-left_stop-requires : goal.stop-left_stop-requires
stop-left_stop-requires g c = record {
  plain = c.requires.left.plain;
  there = run_there _ _ c.args.count c.loop-row.row c.loop-row.left_run c.requires.left.window c.loop-row-test.true c.loop-row.invariant.placed.at_left;
}

pub stop-right_stop-requires : goal.stop-right_stop-requires
stop-right_stop-requires g c = record {
  plain = c.requires.right.plain;
  there = run_there _ _ c.args.count c.loop-row.row c.loop-row.right_run c.requires.right.window c.loop-row-test.true c.loop-row.invariant.placed.at_right;
}

pub get-requires : goal.get-requires
get-requires g c =
    let there = run_there _ _ c.args.count c.loop-row.row c.loop-row.left_run c.requires.left.window c.loop-row-test.true c.loop-row.invariant.placed.at_left in
    let paired = c.requires.left.paired in omega arith

pub get-requires-in-loop-row : goal.get-requires-in-loop-row
get-requires-in-loop-row g c =
    let there = run_there _ _ c.args.count c.loop-row.row c.loop-row.right_run c.requires.right.window c.loop-row-test.true c.loop-row.invariant.placed.at_right in
    let paired = c.requires.right.paired in omega arith

pub ask-requires-clause-taken : goal.ask-requires-clause-taken
ask-requires-clause-taken g c = record {
  left_type = leaf_dtype (leaf_of c.args.left.now.values);
  right_type = leaf_dtype (leaf_of c.args.right.now.values);
  taken = subst (λ op. g.O.Pairwise.takes op (leaf_dtype (leaf_of c.args.left.now.values)) (leaf_dtype (leaf_of c.args.right.now.values))) (sym c.loop-row.invariant.same) c.requires.taken;
  left_is = c.get.ensures.of_type;
  right_is = c.get-in-loop-row.ensures.of_type;
}

pub loop-row-smaller : goal.loop-row-smaller
loop-row-smaller g c =
    let later = step_later g.K.Stored.shown (IsNeverNull (nullability_of (leaf_dtype (leaf_of c.args.left.now.values))) (nullability_of (leaf_dtype (leaf_of c.args.right.now.values))) (g.O.Pairwise.answer_of c.args.asked.now.operation))
    (g.O.Pairwise.has c.args.asked.now.operation) (g.O.Pairwise.answer_of c.args.asked.now.operation) (ends_of c.args.left.now.ends) (single_rows (leaf_of c.args.left.now.values)) c.args.left.now.offset
    (ends_of c.args.right.now.ends) (single_rows (leaf_of c.args.right.now.values)) c.args.right.now.offset c.args.count c.loop-row.row c.loop-row.left_run c.loop-row.right_run c.stop-left_stop.result
    c.stop-right_stop.result c.min-stop.result (sees c.get.result) (sees c.get-in-loop-row.result) c.ask.result c.requires.left.window c.requires.right.window
    (length-single_rows (leaf_of c.args.left.now.values) ∙ c.requires.left.paired) (length-single_rows (leaf_of c.args.right.now.values) ∙ c.requires.right.paired) c.loop-row-test.true c.loop-row.invariant.placed
    c.stop-left_stop.ensures.stop c.stop-right_stop.ensures.stop (c.min-stop.ensures ∙ ap (λ (n : ℕ). min n c.args.count) c.min.ensures) c.get.ensures.row c.get-in-loop-row.ensures.row (subst (λ op. IsFound g.K.Stored.shown (g.O.Pairwise.has op) (g.O.Pairwise.answer_of op (sees c.get.result) (sees c.get-in-loop-row.result)) c.ask.result) c.loop-row.invariant.same c.ask.ensures.found) in
    omega (arith, later, c.loop-row-test.true)

pub loop-row-smaller-then-goes_on : goal.loop-row-smaller-then-goes_on
loop-row-smaller-then-goes_on g c =
    let later = step_later g.K.Stored.shown (IsNeverNull (nullability_of (leaf_dtype (leaf_of c.args.left.now.values))) (nullability_of (leaf_dtype (leaf_of c.args.right.now.values))) (g.O.Pairwise.answer_of c.args.asked.now.operation))
    (g.O.Pairwise.has c.args.asked.now.operation) (g.O.Pairwise.answer_of c.args.asked.now.operation) (ends_of c.args.left.now.ends) (single_rows (leaf_of c.args.left.now.values)) c.args.left.now.offset
    (ends_of c.args.right.now.ends) (single_rows (leaf_of c.args.right.now.values)) c.args.right.now.offset c.args.count c.loop-row.row c.loop-row.left_run c.loop-row.right_run c.stop-left_stop.result
    c.stop-right_stop.result c.min-stop.result (sees c.get.result) (sees c.get-in-loop-row.result) c.ask.result c.requires.left.window c.requires.right.window
    (length-single_rows (leaf_of c.args.left.now.values) ∙ c.requires.left.paired) (length-single_rows (leaf_of c.args.right.now.values) ∙ c.requires.right.paired) c.loop-row-test.true c.loop-row.invariant.placed
    c.stop-left_stop.ensures.stop c.stop-right_stop.ensures.stop (c.min-stop.ensures ∙ ap (λ (n : ℕ). min n c.args.count) c.min.ensures) c.get.ensures.row c.get-in-loop-row.ensures.row (subst (λ op. IsFound g.K.Stored.shown (g.O.Pairwise.has op) (g.O.Pairwise.answer_of op (sees c.get.result) (sees c.get-in-loop-row.result)) c.ask.result) c.loop-row.invariant.same c.ask.ensures.found) in
    omega (arith, later, c.loop-row-test.true)

pub turn_to-requires : goal.turn_to-requires
turn_to-requires g c = c.loop-row.invariant.grown.paired

pub ask-requires-clause-room : goal.ask-requires-clause-room
ask-requires-clause-room g c = let walked = c.loop-row.invariant.counted.walked in omega (arith, walked, c.loop-row-test.true)

pub close-requires : goal.close-requires
close-requires g c = c.loop-row.invariant.grown.paired

-- what was tested and is not so
not_goes : {P : Type 0} (tested : Bool) → (P → IsTrue tested) → tested ≡ false → P → ⊥
not_goes tested says is holds = absurd (false≢true (sym is ∙ says holds))

pub loop-row-preserved-then-goes_on : goal.loop-row-preserved-then-goes_on
loop-row-preserved-then-goes_on g c = record {
  placed = step_placed g.K.Stored.shown (IsNeverNull (nullability_of (leaf_dtype (leaf_of c.args.left.now.values))) (nullability_of (leaf_dtype (leaf_of c.args.right.now.values))) (g.O.Pairwise.answer_of c.args.asked.now.operation))
      (g.O.Pairwise.has c.args.asked.now.operation) (g.O.Pairwise.answer_of c.args.asked.now.operation) (ends_of c.args.left.now.ends) (single_rows (leaf_of c.args.left.now.values)) c.args.left.now.offset
      (ends_of c.args.right.now.ends) (single_rows (leaf_of c.args.right.now.values)) c.args.right.now.offset c.args.count c.loop-row.row c.loop-row.left_run c.loop-row.right_run c.stop-left_stop.result
      c.stop-right_stop.result c.min-stop.result (sees c.get.result) (sees c.get-in-loop-row.result) c.ask.result c.requires.left.window c.requires.right.window
      (length-single_rows (leaf_of c.args.left.now.values) ∙ c.requires.left.paired) (length-single_rows (leaf_of c.args.right.now.values) ∙ c.requires.right.paired) c.loop-row-test.true c.loop-row.invariant.placed
      c.stop-left_stop.ensures.stop c.stop-right_stop.ensures.stop (c.min-stop.ensures ∙ ap (λ (n : ℕ). min n c.args.count) c.min.ensures) c.get.ensures.row c.get-in-loop-row.ensures.row (subst (λ op. IsFound g.K.Stored.shown (g.O.Pairwise.has op) (g.O.Pairwise.answer_of op (sees c.get.result) (sees c.get-in-loop-row.result)) c.ask.result) c.loop-row.invariant.same c.ask.ensures.found)
      c.run_after-left_run.result c.run_after-right_run.result (c.run_after-left_run.ensures.ended, c.run_after-left_run.ensures.going) (c.run_after-right_run.ensures.ended, c.run_after-right_run.ensures.going);
  counted = rw c.ask.ensures.counted (step_counted g.K.Stored.shown (IsNeverNull (nullability_of (leaf_dtype (leaf_of c.args.left.now.values))) (nullability_of (leaf_dtype (leaf_of c.args.right.now.values))) (g.O.Pairwise.answer_of c.args.asked.now.operation))
      (g.O.Pairwise.has c.args.asked.now.operation) (g.O.Pairwise.answer_of c.args.asked.now.operation) (ends_of c.args.left.now.ends) (single_rows (leaf_of c.args.left.now.values)) c.args.left.now.offset
      (ends_of c.args.right.now.ends) (single_rows (leaf_of c.args.right.now.values)) c.args.right.now.offset c.args.count c.loop-row.row c.loop-row.left_run c.loop-row.right_run c.stop-left_stop.result
      c.stop-right_stop.result c.min-stop.result (sees c.get.result) (sees c.get-in-loop-row.result) c.ask.result c.requires.left.window c.requires.right.window
      (length-single_rows (leaf_of c.args.left.now.values) ∙ c.requires.left.paired) (length-single_rows (leaf_of c.args.right.now.values) ∙ c.requires.right.paired) c.loop-row-test.true c.loop-row.invariant.placed
      c.stop-left_stop.ensures.stop c.stop-right_stop.ensures.stop (c.min-stop.ensures ∙ ap (λ (n : ℕ). min n c.args.count) c.min.ensures) c.get.ensures.row c.get-in-loop-row.ensures.row (subst (λ op. IsFound g.K.Stored.shown (g.O.Pairwise.has op) (g.O.Pairwise.answer_of op (sees c.get.result) (sees c.get-in-loop-row.result)) c.ask.result) c.loop-row.invariant.same c.ask.ensures.found)
      c.loop-row.asked.asks c.run_after-left_run.result c.run_after-right_run.result (c.run_after-left_run.ensures.ended, c.run_after-left_run.ensures.going) (c.run_after-right_run.ensures.ended, c.run_after-right_run.ensures.going)
      c.loop-row.invariant.counted);
  same = c.ask.ensures.same ∙ c.loop-row.invariant.same;
  reached = c.go_on.ensures.reached;
  grown = rw (c.go_on.ensures.ends, c.go_on.ensures.items, c.go_on.ensures.flags, c.go_on.ensures.last)
      (IsGrown-on _ _ _ _ _ _ _ _ _ _ _ _ (step_found g.K.Stored.shown (IsNeverNull (nullability_of (leaf_dtype (leaf_of c.args.left.now.values))) (nullability_of (leaf_dtype (leaf_of c.args.right.now.values))) (g.O.Pairwise.answer_of c.args.asked.now.operation))
      (g.O.Pairwise.has c.args.asked.now.operation) (g.O.Pairwise.answer_of c.args.asked.now.operation) (ends_of c.args.left.now.ends) (single_rows (leaf_of c.args.left.now.values)) c.args.left.now.offset
      (ends_of c.args.right.now.ends) (single_rows (leaf_of c.args.right.now.values)) c.args.right.now.offset c.args.count c.loop-row.row c.loop-row.left_run c.loop-row.right_run c.stop-left_stop.result
      c.stop-right_stop.result c.min-stop.result (sees c.get.result) (sees c.get-in-loop-row.result) c.ask.result c.requires.left.window c.requires.right.window
      (length-single_rows (leaf_of c.args.left.now.values) ∙ c.requires.left.paired) (length-single_rows (leaf_of c.args.right.now.values) ∙ c.requires.right.paired) c.loop-row-test.true c.loop-row.invariant.placed
      c.stop-left_stop.ensures.stop c.stop-right_stop.ensures.stop (c.min-stop.ensures ∙ ap (λ (n : ℕ). min n c.args.count) c.min.ensures) c.get.ensures.row c.get-in-loop-row.ensures.row (subst (λ op. IsFound g.K.Stored.shown (g.O.Pairwise.has op) (g.O.Pairwise.answer_of op (sees c.get.result) (sees c.get-in-loop-row.result)) c.ask.result) c.loop-row.invariant.same c.ask.ensures.found)
      c.in-Some.answer c.in-Some.is (never_null (leaf_dtype (leaf_of c.args.left.now.values)) (leaf_dtype (leaf_of c.args.right.now.values)) (g.O.Pairwise.answer_of c.args.asked.now.operation) c.get.result c.get-in-loop-row.result c.get.ensures.of_type
      c.get-in-loop-row.ensures.of_type))
      c.loop-row.invariant.grown
      (subst (λ (n : ℕ). (n ≡ 0) ⊎ (row_of g.K.Stored.shown c.loop-row.runs.last ≡ row_of g.K.Stored.shown c.in-Some.answer)) c.loop-row.invariant.reached (c.goes_on.ensures.0 c.if-goes_on.true)));
}

pub loop-row-preserved : goal.loop-row-preserved
loop-row-preserved g c = record {
  placed = step_placed g.K.Stored.shown (IsNeverNull (nullability_of (leaf_dtype (leaf_of c.args.left.now.values))) (nullability_of (leaf_dtype (leaf_of c.args.right.now.values))) (g.O.Pairwise.answer_of c.args.asked.now.operation))
      (g.O.Pairwise.has c.args.asked.now.operation) (g.O.Pairwise.answer_of c.args.asked.now.operation) (ends_of c.args.left.now.ends) (single_rows (leaf_of c.args.left.now.values)) c.args.left.now.offset
      (ends_of c.args.right.now.ends) (single_rows (leaf_of c.args.right.now.values)) c.args.right.now.offset c.args.count c.loop-row.row c.loop-row.left_run c.loop-row.right_run c.stop-left_stop.result
      c.stop-right_stop.result c.min-stop.result (sees c.get.result) (sees c.get-in-loop-row.result) c.ask.result c.requires.left.window c.requires.right.window
      (length-single_rows (leaf_of c.args.left.now.values) ∙ c.requires.left.paired) (length-single_rows (leaf_of c.args.right.now.values) ∙ c.requires.right.paired) c.loop-row-test.true c.loop-row.invariant.placed
      c.stop-left_stop.ensures.stop c.stop-right_stop.ensures.stop (c.min-stop.ensures ∙ ap (λ (n : ℕ). min n c.args.count) c.min.ensures) c.get.ensures.row c.get-in-loop-row.ensures.row (subst (λ op. IsFound g.K.Stored.shown (g.O.Pairwise.has op) (g.O.Pairwise.answer_of op (sees c.get.result) (sees c.get-in-loop-row.result)) c.ask.result) c.loop-row.invariant.same c.ask.ensures.found)
      c.run_after-left_run.result c.run_after-right_run.result (c.run_after-left_run.ensures.ended, c.run_after-left_run.ensures.going) (c.run_after-right_run.ensures.ended, c.run_after-right_run.ensures.going);
  counted = rw c.ask.ensures.counted (step_counted g.K.Stored.shown (IsNeverNull (nullability_of (leaf_dtype (leaf_of c.args.left.now.values))) (nullability_of (leaf_dtype (leaf_of c.args.right.now.values))) (g.O.Pairwise.answer_of c.args.asked.now.operation))
      (g.O.Pairwise.has c.args.asked.now.operation) (g.O.Pairwise.answer_of c.args.asked.now.operation) (ends_of c.args.left.now.ends) (single_rows (leaf_of c.args.left.now.values)) c.args.left.now.offset
      (ends_of c.args.right.now.ends) (single_rows (leaf_of c.args.right.now.values)) c.args.right.now.offset c.args.count c.loop-row.row c.loop-row.left_run c.loop-row.right_run c.stop-left_stop.result
      c.stop-right_stop.result c.min-stop.result (sees c.get.result) (sees c.get-in-loop-row.result) c.ask.result c.requires.left.window c.requires.right.window
      (length-single_rows (leaf_of c.args.left.now.values) ∙ c.requires.left.paired) (length-single_rows (leaf_of c.args.right.now.values) ∙ c.requires.right.paired) c.loop-row-test.true c.loop-row.invariant.placed
      c.stop-left_stop.ensures.stop c.stop-right_stop.ensures.stop (c.min-stop.ensures ∙ ap (λ (n : ℕ). min n c.args.count) c.min.ensures) c.get.ensures.row c.get-in-loop-row.ensures.row (subst (λ op. IsFound g.K.Stored.shown (g.O.Pairwise.has op) (g.O.Pairwise.answer_of op (sees c.get.result) (sees c.get-in-loop-row.result)) c.ask.result) c.loop-row.invariant.same c.ask.ensures.found)
      c.loop-row.asked.asks c.run_after-left_run.result c.run_after-right_run.result (c.run_after-left_run.ensures.ended, c.run_after-left_run.ensures.going) (c.run_after-right_run.ensures.ended, c.run_after-right_run.ensures.going)
      c.loop-row.invariant.counted);
  same = c.ask.ensures.same ∙ c.loop-row.invariant.same;
  reached = c.in_ok-turn_to.ensures.reached;
  grown = rw (c.in_ok-turn_to.ensures.ends, c.in_ok-turn_to.ensures.last, c.loop-row.invariant.reached)
      (IsGrown-turned _ _ _ _ _ _ _ _ _ _ _ _ (step_found g.K.Stored.shown (IsNeverNull (nullability_of (leaf_dtype (leaf_of c.args.left.now.values))) (nullability_of (leaf_dtype (leaf_of c.args.right.now.values))) (g.O.Pairwise.answer_of c.args.asked.now.operation))
      (g.O.Pairwise.has c.args.asked.now.operation) (g.O.Pairwise.answer_of c.args.asked.now.operation) (ends_of c.args.left.now.ends) (single_rows (leaf_of c.args.left.now.values)) c.args.left.now.offset
      (ends_of c.args.right.now.ends) (single_rows (leaf_of c.args.right.now.values)) c.args.right.now.offset c.args.count c.loop-row.row c.loop-row.left_run c.loop-row.right_run c.stop-left_stop.result
      c.stop-right_stop.result c.min-stop.result (sees c.get.result) (sees c.get-in-loop-row.result) c.ask.result c.requires.left.window c.requires.right.window
      (length-single_rows (leaf_of c.args.left.now.values) ∙ c.requires.left.paired) (length-single_rows (leaf_of c.args.right.now.values) ∙ c.requires.right.paired) c.loop-row-test.true c.loop-row.invariant.placed
      c.stop-left_stop.ensures.stop c.stop-right_stop.ensures.stop (c.min-stop.ensures ∙ ap (λ (n : ℕ). min n c.args.count) c.min.ensures) c.get.ensures.row c.get-in-loop-row.ensures.row (subst (λ op. IsFound g.K.Stored.shown (g.O.Pairwise.has op) (g.O.Pairwise.answer_of op (sees c.get.result) (sees c.get-in-loop-row.result)) c.ask.result) c.loop-row.invariant.same c.ask.ensures.found)
      c.in-Some.answer c.in-Some.is (never_null (leaf_dtype (leaf_of c.args.left.now.values)) (leaf_dtype (leaf_of c.args.right.now.values)) (g.O.Pairwise.answer_of c.args.asked.now.operation) c.get.result c.get-in-loop-row.result c.get.ensures.of_type
      c.get-in-loop-row.ensures.of_type))
      c.loop-row.invariant.grown _ _
      (λ goes. not_goes c.goes_on.result c.goes_on.ensures.1 c.if-goes_on.false
      (subst (λ (n : ℕ). (n ≡ 0) ⊎ (row_of g.K.Stored.shown c.loop-row.runs.last ≡ row_of g.K.Stored.shown c.in-Some.answer)) (sym c.loop-row.invariant.reached) goes))
      c.in_ok-turn_to.ensures.flags c.in_ok-turn_to.ensures.paired (c.in_ok-turn_to.ensures.blank c.loop-row.invariant.grown.blanked) c.in_ok-turn_to.ensures.items);
}

pub returns-in_default-clause-refused : goal.returns-in_default-clause-refused
returns-in_default-clause-refused g c = step_without g.K.Stored.shown (IsNeverNull (nullability_of (leaf_dtype (leaf_of c.args.left.now.values))) (nullability_of (leaf_dtype (leaf_of c.args.right.now.values))) (g.O.Pairwise.answer_of c.args.asked.now.operation))
    (g.O.Pairwise.has c.args.asked.now.operation) (g.O.Pairwise.answer_of c.args.asked.now.operation) (ends_of c.args.left.now.ends) (single_rows (leaf_of c.args.left.now.values)) c.args.left.now.offset
    (ends_of c.args.right.now.ends) (single_rows (leaf_of c.args.right.now.values)) c.args.right.now.offset c.args.count c.loop-row.row c.loop-row.left_run c.loop-row.right_run c.stop-left_stop.result
    c.stop-right_stop.result c.min-stop.result (sees c.get.result) (sees c.get-in-loop-row.result) c.ask.result c.requires.left.window c.requires.right.window
    (length-single_rows (leaf_of c.args.left.now.values) ∙ c.requires.left.paired) (length-single_rows (leaf_of c.args.right.now.values) ∙ c.requires.right.paired) c.loop-row-test.true c.loop-row.invariant.placed
    c.stop-left_stop.ensures.stop c.stop-right_stop.ensures.stop (c.min-stop.ensures ∙ ap (λ (n : ℕ). min n c.args.count) c.min.ensures) c.get.ensures.row c.get-in-loop-row.ensures.row (subst (λ op. IsFound g.K.Stored.shown (g.O.Pairwise.has op) (g.O.Pairwise.answer_of op (sees c.get.result) (sees c.get-in-loop-row.result)) c.ask.result) c.loop-row.invariant.same c.ask.ensures.found)
    g.K.Stored.blank_value c.loop-row.runs.ends.items c.loop-row.runs.items.items c.loop-row.runs.flags c.loop-row.runs.last c.in_default.is c.loop-row.invariant.grown

pub returns-then-row-eq0-clause-cover : goal.returns-then-row-eq0-clause-cover
returns-then-row-eq0-clause-cover g c =
    let f = g.O.Pairwise.answer_of c.args.asked.now.operation in
    let left = c.args.left.now in
    let right = c.args.right.now in
    let long = length-zip_runs f (ends_of left.ends) (single_rows (leaf_of left.values)) left.offset (ends_of right.ends) (single_rows (leaf_of right.values)) right.offset c.args.count in
    cover_of_none _ _ _ _ _ _ _ _ _ _ c.loop-row.invariant.grown c.if-row-eq0.true (omega (arith, long, c.loop-row-test.false, c.if-row-eq0.true))

pub returns-then-row-eq0-clause-had : goal.returns-then-row-eq0-clause-had
returns-then-row-eq0-clause-had g c =
    let f = g.O.Pairwise.answer_of c.args.asked.now.operation in
    let left = c.args.left.now in
    let right = c.args.right.now in
    let long = length-zip_runs f (ends_of left.ends) (single_rows (leaf_of left.values)) left.offset (ends_of right.ends) (single_rows (leaf_of right.values)) right.offset c.args.count in
    all_had _ _ _ _ _ _ _ _ _ _ c.loop-row.invariant.grown (omega (arith, long, c.loop-row-test.false))

pub returns-then-row-eq0-clause-filled : goal.returns-then-row-eq0-clause-filled
returns-then-row-eq0-clause-filled g c = c.loop-row.invariant.grown.filled

pub returns-then-row-eq0-clause-blank : goal.returns-then-row-eq0-clause-blank
returns-then-row-eq0-clause-blank g c = c.loop-row.invariant.grown.blanked

pub returns-then-row-eq0-clause-paired : goal.returns-then-row-eq0-clause-paired
returns-then-row-eq0-clause-paired g c = c.loop-row.invariant.grown.paired

pub returns-clause-cover : goal.returns-clause-cover
returns-clause-cover g c =
    let f = g.O.Pairwise.answer_of c.args.asked.now.operation in
    let left = c.args.left.now in
    let right = c.args.right.now in
    let grown = c.loop-row.invariant.grown in
    let within = c.loop-row.invariant.placed.within in
    let long = length-zip_runs f (ends_of left.ends) (single_rows (leaf_of left.values)) left.offset (ends_of right.ends) (single_rows (leaf_of right.values)) right.offset c.args.count in
    rw (c.in_ok-close.ensures.ends, c.loop-row.invariant.reached)
    (cover_of_grown _ _ _ _ _ _ _ _ _ _ _ grown (omega (arith, c.if-row-eq0.false)) (omega (arith, long, c.loop-row-test.false, within)) (omega (arith, long)) c.in_ok-close.ensures.items)

pub returns-clause-had : goal.returns-clause-had
returns-clause-had g c =
    let f = g.O.Pairwise.answer_of c.args.asked.now.operation in
    let left = c.args.left.now in
    let right = c.args.right.now in
    let long = length-zip_runs f (ends_of left.ends) (single_rows (leaf_of left.values)) left.offset (ends_of right.ends) (single_rows (leaf_of right.values)) right.offset c.args.count in
    all_had _ _ _ _ _ _ _ _ _ _ c.loop-row.invariant.grown (omega (arith, long, c.loop-row-test.false))

pub returns-in_err-runs-clause-few : goal.returns-in_err-runs-clause-few
returns-in_err-runs-clause-few g c = omega (arith, c.requires.unasked)

pub returns-in_default-clause-few : goal.returns-in_default-clause-few
returns-in_default-clause-few g c =
    let more = step_few _ _ c.args.count c.loop-row.row c.loop-row.left_run c.loop-row.right_run c.loop-row.asked.asks _ _ c.requires.left.window c.requires.right.window c.loop-row-test.true c.loop-row.invariant.placed c.loop-row.invariant.counted in
    omega (arith, more, c.ask.ensures.counted)

pub returns-in_err-turn_to-clause-few : goal.returns-in_err-turn_to-clause-few
returns-in_err-turn_to-clause-few g c =
    let more = step_few _ _ c.args.count c.loop-row.row c.loop-row.left_run c.loop-row.right_run c.loop-row.asked.asks _ _ c.requires.left.window c.requires.right.window c.loop-row-test.true c.loop-row.invariant.placed c.loop-row.invariant.counted in
    omega (arith, more, c.ask.ensures.counted)

pub returns-in_err-close-clause-few : goal.returns-in_err-close-clause-few
returns-in_err-close-clause-few g c = few_asked _ _ c.args.count c.loop-row.row _ _ c.loop-row.asked.asks c.loop-row.invariant.counted (let within = c.loop-row.invariant.placed.within in omega (arith, within, c.loop-row-test.false))

pub returns-then-row-eq0-clause-few : goal.returns-then-row-eq0-clause-few
returns-then-row-eq0-clause-few g c = few_asked _ _ c.args.count c.loop-row.row _ _ c.loop-row.asked.asks c.loop-row.invariant.counted (let within = c.loop-row.invariant.placed.within in omega (arith, within, c.loop-row-test.false))

pub returns-clause-few : goal.returns-clause-few
returns-clause-few g c = few_asked _ _ c.args.count c.loop-row.row _ _ c.loop-row.asked.asks c.loop-row.invariant.counted (let within = c.loop-row.invariant.placed.within in omega (arith, within, c.loop-row-test.false))

pub returns-clause-filled : goal.returns-clause-filled
returns-clause-filled g c = λ never.
    let grown = c.loop-row.invariant.grown in
    rw c.in_ok-close.ensures.flags (All-push (λ bit. bit ≡ true) c.loop-row.runs.flags (is_some c.loop-row.runs.last) (grown.filled never) (grown.some never (omega (arith, c.if-row-eq0.false))))

pub returns-clause-blank : goal.returns-clause-blank
returns-clause-blank g c = c.in_ok-close.ensures.blank c.loop-row.invariant.grown.blanked
