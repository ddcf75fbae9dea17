use Rattle.std.proofs.Common.{◌≡◌, ◌∙◌, ◌+◌, ◌<◌, None, List, ap, arith, length, map, slice_index, subst, sym}
use Rattle.std.specs.Prelude.{slice_index_or}
use Rattle.std.proofs.lemmas.List.{length-map}
use Rattle.std.proofs.lemmas.Option.{get_or_from_slice_get}
use Rattle.column_core.specs.FlatColumn.{leaf_of}
use Rattle.column_core.specs.Leaf.{single_rows}
use Rattle.column_core.specs.ScalarView.{sees}
use Rattle.runend_builder.specs.Builder.{shown_rows}
use Rattle.row_stretches.specs.declared.stretches.Stretch.{Stretch}
use Rattle.row_stretches.specs.Masks.{is_true}
use Rattle.row_stretches.proofs.TrueRows.{TrueSoFar, run_skipped, run_taken, stored_at}
use Rattle.row_stretches.proofs.masks.stretches_in.Goals as goal
use Rattle.row_stretches.proofs.masks.stretches_in.Goals.{then-is_true_view+in_ok-push, else-is_true_view}

pub loop-run-preserved : goal.loop-run-preserved
loop-run-preserved g c =
    let natural = g.E.UnsignedPType.natural in
    let ends = map natural c.args.ends.now in
    let values = single_rows (leaf_of c.args.values.now) in
    let rows = shown_rows ends values in
    let run = c.loop-run.run in
    let start = c.loop-run.start in
    let stop = c.to_u64-stop.result in
    let order = c.loop-run.order.items in
    let there : run < length ends = omega (arith, length-map c.args.ends.now natural, c.loop-run-test.true) in
    let stop_is : stop ≡ slice_index ends run = sym (stored_at natural c.args.ends.now run c.index-ends-run.result c.loop-run-test.true c.index-ends-run.is ∙ sym c.to_u64-stop.ensures) in
    let seen = get_or_from_slice_get values run (sees c.get.result) None c.get.ensures.row in
    let told : is_true (slice_index_or values run None) ≡ c.is_true_view.result = ap is_true seen ∙ sym c.is_true_view.ensures in
    elim c.if-is_true_view.branch [
      | then-is_true_view+in_ok-push w ↦
          run_taken rows ends values c.requires.cover run start stop order there stop_is c.loop-run.invariant c.if-is_true_view.order.items
          (ap (λ v. v.items) w.order-is ∙ w.in_ok-push.ensures.items) (told ∙ w.if-is_true_view.true)
      | else-is_true_view w ↦
          subst (λ (more : List Stretch). TrueSoFar rows ends values (run + 1) stop more) (sym (ap (λ v. v.items) w.order-is))
          (run_skipped rows ends values c.requires.cover run start stop order there stop_is c.loop-run.invariant (told ∙ w.if-is_true_view.false))
    ]
