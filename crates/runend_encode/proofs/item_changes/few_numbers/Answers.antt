use Rattle.std.proofs.Common.{◌≡◌, ◌∙◌, ◌+◌, ℕ, Bool, ap, subst, arith}
use Rattle.std.specs.Prelude.{◌↔◌, IsTrue, slice_get}
use mathlib.Core.Bool.{not}
use Rattle.column_base.proofs.WordGrowth.{one_if-byte}
use Rattle.runend_windows.specs.Starts.{GoesOn}
use Rattle.runend_windows.proofs.ChangedItems.{AreChangeBits-lane}
use Rattle.runend_encode.proofs.item_changes.few_numbers.Goals as goal

pub loop-lane-preserved : goal.loop-lane-preserved
loop-lane-preserved c =
    let numbers = c.args.numbers.now in
    let lane : ℕ = c.loop-lane.lane in
    let start : ℕ = c.args.start in
    let here : ℕ = start + lane in
    let same : Bool = c.are_same_numbers.result in
    let from_is = c.from.ensures ∙ one_if-byte (not same) in
    let tells : IsTrue same ↔ GoesOn numbers here =
    subst (λ (k : ℕ). IsTrue same ↔ (slice_get numbers k ≡ slice_get numbers here)) c.loop-lane.invariant.before c.are_same_numbers.ensures in
    record {
      before = omega arith;
      bits = AreChangeBits-lane numbers start lane c.loop-lane.word c.from.result same (not same) (omega (arith, c.requires.few, c.loop-lane-test.true)) from_is tells (λ e. ap not e) (λ e. ap not e) c.loop-lane.invariant.bits;
    }
