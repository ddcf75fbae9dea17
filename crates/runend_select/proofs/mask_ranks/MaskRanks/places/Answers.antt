use Rattle.std.proofs.Common.{◌≡◌, ◌<◌, ◌∙◌, ℕ, List, ap, arith, length, sym, slice_index}
use Rattle.runend_select.specs.MaskRuns.{truths_of}
use Rattle.runend_select.proofs.MaskRuns.{before_at-next}
use Rattle.runend_select.proofs.MaskPlaces.{run_skipped, run_taken}
use Rattle.runend_select.proofs.mask_ranks.MaskRanks.places.Goals as goal
use Rattle.runend_select.proofs.mask_ranks.MaskRanks.places.Goals.{then-ranks-run+in_ok-push_rows, else-ranks-run}

pub loop-run-preserved : goal.loop-run-preserved
loop-run-preserved g c =
    let bits = truths_of c.args.self.now.mask.now in
    let stops = c.args.self.now.runs.stops.items in
    let ranks = c.args.self.now.runs.ranks.items in
    let run = c.loop-run.run in
    let inv = c.loop-run.invariant in
    let stop_is : slice_index c.as_slice-stops.result.now run ≡ slice_index stops run = ap (λ (xs : List ℕ). slice_index xs run) c.as_slice-stops.ensures.value in
    let rank_is : slice_index c.as_slice-ranks.result.now run ≡ slice_index ranks run = ap (λ (xs : List ℕ). slice_index xs run) c.as_slice-ranks.ensures.value in
    let there : run < length stops = omega (arith, c.loop-run-test.true, ap length c.as_slice-stops.ensures.value) in
    record {
      start_is = stop_is ∙ sym (before_at-next stops run);
      before_is = rank_is ∙ sym (before_at-next ranks run);
      places_are = elim c.if-ranks-run.branch [
        | then-ranks-run+in_ok-push_rows w ↦ run_taken bits stops ranks c.requires.runs run there c.loop-run.start _ c.loop-run.before _ c.loop-run.places.items c.if-ranks-run.places.items
            inv.start_is stop_is inv.before_is rank_is w.if-ranks-run.true inv.places_are (ap (λ v. v.items) w.places-is ∙ w.in_ok-push_rows.ensures.pushed)
        | else-ranks-run w ↦ ap (λ v. v.items) w.places-is ∙ run_skipped bits stops ranks c.requires.runs run there c.loop-run.start _ c.loop-run.before _ c.loop-run.places.items
            inv.start_is stop_is inv.before_is rank_is w.if-ranks-run.false inv.places_are
      ];
    }
