use Rattle.std.proofs.Common.{◌≡◌, ◌∙◌, ◌<◌, arith, length, map, refl, slice_index, subst, sym}
use Rattle.std.proofs.lemmas.List.{length-map}
use Rattle.row_stretches.proofs.TrueRows.{stored_at}
use Rattle.row_groups.proofs.Merged.{AreMergedTo, all_merged, left_there, merged_step, none_merged, right_there}
use Rattle.runend_pairs.proofs.WalkedGroups.{begins}
use Rattle.row_groups.proofs.common_ends.merged_ends.Goals as goal

pub loop-row-init : goal.loop-row-init
loop-row-init g c =
    let others = map g.E.UnsignedPType.natural c.args.others.now in
    record {
      within = omega arith;
      here = sym (begins c.args.ends.now c.requires.ends.filled);
      there = sym (begins others c.requires.others.filled);
      merged = subst (AreMergedTo c.args.ends.now others 0) (sym c.new-made.ensures.items) (none_merged c.args.count c.args.ends.now others c.requires.ends c.requires.others);
    }

pub offset_bounds-ends-left : goal.offset_bounds-ends-left
offset_bounds-ends-left g c =
    let natural = g.E.UnsignedPType.natural in
    let l = c.loop-row in
    let there : l.left < length c.args.ends.now = left_there c.args.count c.args.ends.now (map natural c.args.others.now) c.requires.ends c.requires.others l.row l.left l.right c.loop-row-test.true l.invariant.here l.invariant.there in
    omega (arith, there)

pub bounds-ends-left : goal.bounds-ends-left
bounds-ends-left g c =
    let natural = g.E.UnsignedPType.natural in
    let l = c.loop-row in
    let there : l.left < length c.args.ends.now = left_there c.args.count c.args.ends.now (map natural c.args.others.now) c.requires.ends c.requires.others l.row l.left l.right c.loop-row-test.true l.invariant.here l.invariant.there in
    there

pub offset_bounds-others-right : goal.offset_bounds-others-right
offset_bounds-others-right g c =
    let natural = g.E.UnsignedPType.natural in
    let l = c.loop-row in
    let there = right_there c.args.count c.args.ends.now (map natural c.args.others.now) c.requires.ends c.requires.others l.row l.left l.right c.loop-row-test.true l.invariant.here l.invariant.there in
    omega (arith, there, length-map c.args.others.now natural)

pub bounds-others-right : goal.bounds-others-right
bounds-others-right g c =
    let natural = g.E.UnsignedPType.natural in
    let l = c.loop-row in
    let there = right_there c.args.count c.args.ends.now (map natural c.args.others.now) c.requires.ends c.requires.others l.row l.left l.right c.loop-row-test.true l.invariant.here l.invariant.there in
    omega (arith, there, length-map c.args.others.now natural)

pub run_after-left-requires : goal.run_after-left-requires
run_after-left-requires g c =
    let natural = g.E.UnsignedPType.natural in
    let l = c.loop-row in
    let there : l.left < length c.args.ends.now = left_there c.args.count c.args.ends.now (map natural c.args.others.now) c.requires.ends c.requires.others l.row l.left l.right c.loop-row-test.true l.invariant.here l.invariant.there in
    omega (arith, there)

pub run_after-right-requires : goal.run_after-right-requires
run_after-right-requires g c =
    let natural = g.E.UnsignedPType.natural in
    let l = c.loop-row in
    let there = right_there c.args.count c.args.ends.now (map natural c.args.others.now) c.requires.ends c.requires.others l.row l.left l.right c.loop-row-test.true l.invariant.here l.invariant.there in
    omega (arith, there, length-map c.args.others.now natural)

pub loop-row-preserved : goal.loop-row-preserved
loop-row-preserved g c =
    let natural = g.E.UnsignedPType.natural in
    let ends = c.args.ends.now in
    let others = map natural c.args.others.now in
    let l = c.loop-row in
    let high = right_there c.args.count ends others c.requires.ends c.requires.others l.row l.left l.right c.loop-row-test.true l.invariant.here l.invariant.there in
    let inside : l.right < length c.args.others.now = omega (arith, high, length-map c.args.others.now natural) in
    let right_at : slice_index others l.right ≡ c.to_u64-right_stop.result =
    stored_at natural c.args.others.now l.right c.index-others-right.result inside c.index-others-right.is ∙ sym c.to_u64-right_stop.ensures in
    let step = merged_step c.args.count ends others c.requires.ends c.requires.others l.row l.left l.right c.loop-row-test.true l.invariant.here l.invariant.there l.made.items c.push.new.self.items
    c.min-stop.result (slice_index ends l.left) c.to_u64-right_stop.result c.run_after-left.result c.run_after-right.result refl right_at c.min-stop.ensures
    c.run_after-left.ensures.ended c.run_after-left.ensures.going c.run_after-right.ensures.ended c.run_after-right.ensures.going l.invariant.merged c.in_ok-push.ensures.items in
    record { within = step.within; here = step.here; there = step.there; merged = step.merged }

pub loop-row-smaller : goal.loop-row-smaller
loop-row-smaller g c =
    let natural = g.E.UnsignedPType.natural in
    let ends = c.args.ends.now in
    let others = map natural c.args.others.now in
    let l = c.loop-row in
    let high = right_there c.args.count ends others c.requires.ends c.requires.others l.row l.left l.right c.loop-row-test.true l.invariant.here l.invariant.there in
    let inside : l.right < length c.args.others.now = omega (arith, high, length-map c.args.others.now natural) in
    let right_at : slice_index others l.right ≡ c.to_u64-right_stop.result =
    stored_at natural c.args.others.now l.right c.index-others-right.result inside c.index-others-right.is ∙ sym c.to_u64-right_stop.ensures in
    let step = merged_step c.args.count ends others c.requires.ends c.requires.others l.row l.left l.right c.loop-row-test.true l.invariant.here l.invariant.there l.made.items c.push.new.self.items
    c.min-stop.result (slice_index ends l.left) c.to_u64-right_stop.result c.run_after-left.result c.run_after-right.result refl right_at c.min-stop.ensures
    c.run_after-left.ensures.ended c.run_after-left.ensures.going c.run_after-right.ensures.ended c.run_after-right.ensures.going l.invariant.merged c.in_ok-push.ensures.items in
    omega (arith, step.later, step.within)

pub returns-clause-common : goal.returns-clause-common
returns-clause-common g c =
    all_merged c.args.count c.loop-row.row c.args.ends.now (map g.E.UnsignedPType.natural c.args.others.now) c.loop-row.made.items c.requires.ends c.requires.others (omega (arith, c.loop-row-test.false, c.loop-row.invariant.within)) c.loop-row.invariant.merged
