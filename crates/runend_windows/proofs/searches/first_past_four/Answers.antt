use Rattle.std.proofs.Common.{◌∙◌, ℕ, ◌-◌, ◌/◌, ◌<◌, refl, arith}
use Rattle.column_core.proofs.Digits.{digits-half}
use Rattle.runend_windows.proofs.Steps.{IsNear-all, IsNear-step}
use Rattle.runend_windows.proofs.searches.first_past_four.Goals as goal

pub loop-left-init : goal.loop-left-init
loop-left-init g c =
    let ends = c.args.ends.now.ends in
    let all = c.len-left.ensures in
    record {
      first = rw all (IsNear-all ends c.args.rows.0);
      second = rw all (IsNear-all ends c.args.rows.1);
      third = rw all (IsNear-all ends c.args.rows.2);
      fourth = rw all (IsNear-all ends c.args.rows.3);
      same = refl;
      cost = rw all (omega arith);
    }

pub loop-left-preserved : goal.loop-left-preserved
loop-left-preserved g c =
    let inv = c.loop-left.invariant in
    let ends = c.args.ends.now.ends in
    let left : ℕ = c.loop-left.left in
    let some : 0 < left = omega (arith, c.loop-left-test.true) in
    let one = c.number_if_ended-first_step in
    let two = c.number_if_ended-second_step in
    let three = c.number_if_ended-third_step in
    let four = c.number_if_ended-fourth_step in
    let after_one = one.ensures.same ∙ inv.same in
    let after_two = two.ensures.same ∙ after_one in
    let after_three = three.ensures.same ∙ after_two in
    let cost = digits-half (left - (left - left / 2)) left some (omega arith) in
    record {
      first = IsNear-step ends c.args.rows.0 c.loop-left.first left one.result c.requires some inv.first (rw inv.same at one.ensures.ended) (rw inv.same at one.ensures.past);
      second = IsNear-step ends c.args.rows.1 c.loop-left.second left two.result c.requires some inv.second (rw after_one at two.ensures.ended) (rw after_one at two.ensures.past);
      third = IsNear-step ends c.args.rows.2 c.loop-left.third left three.result c.requires some inv.third (rw after_two at three.ensures.ended) (rw after_two at three.ensures.past);
      fourth = IsNear-step ends c.args.rows.3 c.loop-left.fourth left four.result c.requires some inv.fourth (rw after_three at four.ensures.ended) (rw after_three at four.ensures.past);
      same = four.ensures.same ∙ after_three;
      cost = omega (arith, cost, inv.cost, one.ensures.counted, two.ensures.counted, three.ensures.counted, four.ensures.counted);
    }
