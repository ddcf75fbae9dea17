use Rattle.std.proofs.Common.{◌+◌, ℤ, Option, Some, pos, length, take, ap, ◌∙◌, arith}
use Rattle.std.specs.Prelude.{option_map}
use Rattle.std.proofs.lemmas.Option.{slice_get_within}
use Rattle.column_base.specs.Mask.{mask_bits}
use Rattle.column_core.specs.Digits.{digits}
use Rattle.runend_windows.specs.Window.{run_at}
use Rattle.runend_select.specs.Indices.{optional_indices, run_of, valid_count}
use Rattle.runend_select.proofs.Bounds.{in_bounds_of_window, position_if}
use Rattle.runend_select.proofs.Places.{AreFour, answered-all, answered-four, answered-more, counted-all, counted-four, four_searches_more, length-optional_indices, one_index_more}
use Rattle.runend_select.proofs.binary_search.searched_runs.Goals as goal

pub four_rows-requires-clause-in_bounds : goal.four_rows-requires-clause-in_bounds
four_rows-requires-clause-in_bounds g c =
    in_bounds_of_window c.args.ends.now.ends c.args.offset (optional_indices g.T.NativePType.number c.args.indices.now (mask_bits c.args.mask.now)) c.requires.in_window

pub loop-place-preserved-in-Some : goal.loop-place-preserved-in-Some
loop-place-preserved-in-Some g c =
    let indices = optional_indices g.T.NativePType.number c.args.indices.now (mask_bits c.args.mask.now) in
    let ends = c.args.ends.now.ends in
    let offset = c.args.offset in
    let place = c.loop-place.place in
    let inv = c.loop-place.invariant in
    let rows = c.in-Some.rows in
    let long = length-optional_indices g.T.NativePType.number c.args.indices.now (mask_bits c.args.mask.now) c.requires.masked in
    let at : AreFour indices place rows = record { first = c.in-Some.ensures.first; second = c.in-Some.ensures.second; third = c.in-Some.ensures.third; fourth = c.in-Some.ensures.fourth } in
    let found = c.first_past_four.ensures in
    let four = c.first_past_four.result in
    let pushed = c.push_four.ensures in
    record {
      answered = pushed.items ∙ answered-four (run_of ends offset 0) indices c.loop-place.runs.items place rows four at inv.answered
          (found.first ∙ ap (λ e. run_at e (offset + rows.0)) inv.same) (found.second ∙ ap (λ e. run_at e (offset + rows.1)) inv.same)
          (found.third ∙ ap (λ e. run_at e (offset + rows.2)) inv.same) (found.fourth ∙ ap (λ e. run_at e (offset + rows.3)) inv.same);
      within = omega (arith, long, slice_get_within indices (place + 3) (Some (pos rows.3)) at.fourth);
      counted = pushed.len ∙ ap (λ n. n + 4) inv.counted;
      room = rw pushed.capacity inv.room;
      same = found.same ∙ inv.same;
      cost = four_searches_more c.loop-place.ends.tests c.first_past_four.new.ends.tests c.args.ends.now.tests (valid_count (take place indices)) (valid_count (take (place + 4) indices))
          (digits (length ends)) inv.cost (rw inv.same at found.cost) (counted-four indices place rows at);
    }

pub loop-place-preserved : goal.loop-place-preserved
loop-place-preserved g c =
    let indices = optional_indices g.T.NativePType.number c.args.indices.now (mask_bits c.args.mask.now) in
    let ends = c.args.ends.now.ends in
    let place = c.loop-place.place in
    let inv = c.loop-place.invariant in
    let row = c.named_row.result in
    let index : Option ℤ = option_map (λ n. pos n) row in
    let pushed = c.push_run.ensures in
    record {
      answered = pushed.items ∙ answered-more (run_of ends c.args.offset 0) indices c.loop-place.runs.items place (run_of c.loop-place.ends.ends c.args.offset 0 index) index c.named_row.ensures inv.answered
          (ap (λ e. run_of e c.args.offset 0 index) inv.same);
      within = omega (arith, c.loop-place-test.true);
      counted = pushed.len ∙ ap (λ n. n + 1) inv.counted;
      room = rw pushed.capacity inv.room;
      same = pushed.same ∙ inv.same;
      cost = one_index_more indices place c.loop-place.ends.tests c.push_run.new.ends.tests c.args.ends.now.tests (digits (length ends)) row c.named_row.ensures inv.cost (rw inv.same at pushed.cost) pushed.untested;
    }

pub push_four-requires : goal.push_four-requires
push_four-requires g c =
    let indices = optional_indices g.T.NativePType.number c.args.indices.now (mask_bits c.args.mask.now) in
    let long = length-optional_indices g.T.NativePType.number c.args.indices.now (mask_bits c.args.mask.now) c.requires.masked in
    let inv = c.loop-place.invariant in
    omega (arith, long, inv.counted, inv.room, slice_get_within indices (c.loop-place.place + 3) (Some (pos c.in-Some.rows.3)) c.in-Some.ensures.fourth)

pub push_run-requires-clause-position : goal.push_run-requires-clause-position
push_run-requires-clause-position g c =
    let indices = optional_indices g.T.NativePType.number c.args.indices.now (mask_bits c.args.mask.now) in
    position_if c.args.ends.now.ends c.args.offset indices c.loop-place.place c.named_row.result c.requires.in_window c.named_row.ensures

pub returns-clause-runs : goal.returns-clause-runs
returns-clause-runs g c =
    let indices = optional_indices g.T.NativePType.number c.args.indices.now (mask_bits c.args.mask.now) in
    let counted = length-optional_indices g.T.NativePType.number c.args.indices.now (mask_bits c.args.mask.now) c.requires.masked in
    answered-all (run_of c.args.ends.now.ends c.args.offset 0) indices c.loop-place.runs.items c.loop-place.place (omega arith) c.loop-place.invariant.answered

pub returns-clause-cost : goal.returns-clause-cost
returns-clause-cost g c =
    let indices = optional_indices g.T.NativePType.number c.args.indices.now (mask_bits c.args.mask.now) in
    let counted = length-optional_indices g.T.NativePType.number c.args.indices.now (mask_bits c.args.mask.now) c.requires.masked in
    rw (counted-all indices c.loop-place.place (omega arith)) at c.loop-place.invariant.cost
