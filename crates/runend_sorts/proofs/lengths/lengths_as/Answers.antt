use Rattle.std.proofs.Common.{◌∙◌, ◌+◌, ◌-◌, ◌++◌, ℕ, List, [], ◌∷◌, add-one, ap, arith, map, slice_index, sym, zero-add}
use Rattle.std.specs.List.{range_with_len}
use Rattle.std.proofs.lemmas.List.FromFn.{map-range_with_len_more}
use Rattle.runend_sorts.specs.Runs.{length_in}
use Rattle.runend_sorts.proofs.Stretches.{stored_at}
use Rattle.runend_sorts.proofs.lengths.lengths_as.Goals as goal

pub loop-end-preserved : goal.loop-end-preserved
loop-end-preserved g c =
    let ends = map g.E.UnsignedPType.natural c.args.ends.now in
    let run = c.loop-end.end-index in
    let here = stored_at g.E.UnsignedPType.natural c.args.ends.now run c.end-item.result c.loop-end-test.true c.end-item.is ∙ sym c.to_u64-stop.ensures in
    let start = c.loop-end.invariant.start in
    let rows = c.saturating_sub.ensures ∙ ap (λ (stop : ℕ). stop - c.loop-end.start) (sym here) ∙ ap (λ (first : ℕ). slice_index ends run - first) start in
    record {
      shows = c.push_reserved.ensures.items ∙ ap (λ (items : List ℕ). items ++ c.saturating_sub.result ∷ []) c.loop-end.invariant.shows
          ∙ ap (λ (rows : ℕ). map (length_in ends) (range_with_len 0 run) ++ rows ∷ []) rows ∙ sym (map-range_with_len_more (length_in ends) 0 run run (zero-add run));
      start = rw add-one (sym here);
      len = omega (arith, c.push_reserved.ensures.len, c.loop-end.invariant.len);
      room = omega (arith, c.push_reserved.ensures.capacity, c.loop-end.invariant.room);
    }
