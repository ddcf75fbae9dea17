use Rattle.std.proofs.Common.{◌∙◌, ℕ, ◌-◌, ◌/◌, ◌<◌, refl, arith}
use Rattle.column_core.proofs.Digits.{digits-half}
use Rattle.runend_windows.proofs.Steps.{IsNear-all, IsNear-step}
use Rattle.runend_windows.proofs.searches.search_by_mask.Goals as goal

pub loop-left-init : goal.loop-left-init
loop-left-init g c =
    let all = c.len-left.ensures in
    record { near = rw all (IsNear-all c.args.ends.now.ends c.args.row); same = refl; cost = rw all (omega arith) }

pub loop-left-preserved : goal.loop-left-preserved
loop-left-preserved g c =
    let inv = c.loop-left.invariant in
    let ends = c.args.ends.now.ends in
    let left : ℕ = c.loop-left.left in
    let some : 0 < left = omega (arith, c.loop-left-test.true) in
    let step = c.number_if_ended-run in
    let cost = digits-half (left - (left - left / 2)) left some (omega arith) in
    record {
      near = IsNear-step ends c.args.row c.loop-left.run left step.result c.requires some inv.near (rw inv.same at step.ensures.ended) (rw inv.same at step.ensures.past);
      same = step.ensures.same ∙ inv.same;
      cost = omega (arith, cost, inv.cost, step.ensures.counted);
    }
