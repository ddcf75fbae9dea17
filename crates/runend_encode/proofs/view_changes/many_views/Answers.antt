use Rattle.std.proofs.Common.{◌≡◌, ◌+◌, ◌*◌, ℕ, refl, arith}
use Rattle.runend_windows.proofs.ChangedItems.{AreChangeBits-joined}
use Rattle.runend_encode.proofs.view_changes.many_views.Goals as goal

pub loop-eight-preserved : goal.loop-eight-preserved
loop-eight-preserved c =
    let views = c.args.views.now in
    let start : ℕ = c.args.start in
    let done : ℕ = c.loop-eight.eight * 8 in
    let middle : ℕ = start + done in
    let next : start + (c.loop-eight.eight + 1) * 8 ≡ middle + 8 = omega arith in
    record {
      bits = AreChangeBits-joined views start done middle (start + (c.loop-eight.eight + 1) * 8) (middle + 8) c.loop-eight.word c.few_views.result refl next (omega arith) (omega (arith, c.loop-eight-test.true)) c.loop-eight.invariant.bits c.few_views.ensures;
    }
