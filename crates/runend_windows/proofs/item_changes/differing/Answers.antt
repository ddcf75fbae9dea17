use Rattle.std.proofs.Common.{◌≡◌, ◌≢◌, ◌∙◌, ◌+◌, ◌-◌, ℕ, length, map, refl, arith, ⊎_elim}
use Rattle.std.proofs.lemmas.Bool.{cases_eq}
use Rattle.std.proofs.lemmas.List.{get_or-set_other, get_or-set_same, length-replicate, length-set}
use Rattle.std.proofs.lemmas.Option.{slice_get_read}
use Rattle.std.proofs.lemmas.Simd.{get_or-replicate}
use Rattle.column_base.proofs.WordGrowth.{one_if-byte}
use Rattle.runend_windows.proofs.ChangedNumbers.{first-goes_on, number-goes_on}
use Rattle.runend_windows.proofs.item_changes.differing.Goals as goal

pub loop-lane-init : goal.loop-lane-init
loop-lane-init g c = record {
  long = length-replicate {A = ℕ} 64 0;
  told = λ k h.
      let first : c.args.start + k ≡ 0 = omega (arith, c.requires.first) in (
        (λ none. first-goes_on (map g.T.NativePType.number c.args.items.now) (c.args.start + k) first),
        (λ goes. get_or-replicate 64 k 0 0 (omega (arith, c.requires.first))),
      );
}

pub loop-lane-preserved : goal.loop-lane-preserved
loop-lane-preserved g c =
    let number = g.T.NativePType.number in
    let items = c.args.items.now in
    let lane : ℕ = c.loop-lane.lane in
    let here : ℕ = c.args.start + lane in
    let last = slice_get_read items (length items) (here - 1) c.index-items-here-in-loop-lane.result refl (omega arith) c.index-items-here-in-loop-lane.is in
    let own = slice_get_read items (length items) here c.index-items-here.result refl (omega arith) c.index-items-here.is in
    let tells = number-goes_on g.T.PartialEq.eq g.T.Ord.cmp g.T.Default.is_default number g.met.T.NativePType.law items here c.index-items-here-in-loop-lane.result c.index-items-here.result c.ne.result last own c.ne.ensures in
    let byte = c.from.ensures ∙ one_if-byte c.ne.result in
    let long : length c.loop-lane.differs ≡ 64 = c.loop-lane.invariant.long in
    record {
      long = length-set c.loop-lane.differs lane c.from.result ∙ long;
      told = λ k h. ⊎_elim
          (λ (is : k ≡ lane). rw (is, get_or-set_same c.loop-lane.differs lane c.from.result 0 (omega arith), byte) tells)
          (λ (other : k ≢ lane). rw (get_or-set_other c.loop-lane.differs lane k c.from.result 0 other) (c.loop-lane.invariant.told k (omega arith)))
          (cases_eq k lane);
    }
