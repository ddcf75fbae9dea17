use Rattle.std.proofs.Common.{◌≤◌, IsTrue, arith, min}
use Rattle.runend_array.specs.Array.{lists_of}
use Rattle.runend_array.specs.Lists.{IsWithinElements, flag_stop, index_stop, row_flag_at}
use Rattle.runend_array.proofs.ListWalks.{run-up_to_later, run-up_to_later_flag, within-stretch}
use Rattle.runend_array.proofs.lists.within.first_outside_in_stretches.Goals as goal
use Rattle.runend_array.proofs.lists.within.first_outside_in_stretches.Goals.{else-flag-via-then-flag+else-not-is_within, else-flag-via-else-flag}

pub loop-row-preserved : goal.loop-row-preserved
loop-row-preserved g c =
    let row = c.loop-row.row in
    let next = c.min-row.result in
    let lists = lists_of c.args.elements.now c.args.offsets.now c.args.sizes.now c.args.validity.now in
    let rows = c.index_len-rows.result in
    let flag = c.valid_from-flag.ensures in
    let offset = c.index_from-offset.ensures in
    let size = c.index_from-size.ensures in
    let later : row ≤ next = omega (arith, c.min-row.ensures, c.min.ensures, flag.within, offset.within, size.within) in
    let nearest : next ≤ min (min (flag_stop lists.validity rows row) (index_stop lists.offsets row)) (index_stop lists.sizes row) =
    omega (arith, c.min-row.ensures, c.min.ensures, flag.stop, offset.stop, size.stop) in
    let here : IsTrue (row_flag_at lists.validity row) → IsWithinElements lists row = λ valid. elim c.else-flag.branch [
      | else-flag-via-then-flag+else-not-is_within w ↦ omega (arith, w.is_within.ensures.0 cc, offset.number, size.number, c.len-count.ensures)
      | else-flag-via-else-flag w ↦ absurd cc
    ] in
    record {
      within = λ k below. within-stretch lists rows row c.loop-row.invariant.within here k (omega (arith, nearest));
      flag_run = run-up_to_later_flag lists.validity c.valid_from-flag.new.run row next later flag.before;
      offset_run = run-up_to_later lists.offsets c.index_from-offset.new.run row next later offset.before;
      size_run = run-up_to_later lists.sizes c.index_from-size.new.run row next later size.before;
    }
