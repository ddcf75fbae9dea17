use Rattle.std.proofs.Common.{◌≡◌, ◌∙◌, ◌+◌, ◌++◌, ℕ, List, [], ◌∷◌, ap, arith, slice_index, sym, take}
use Rattle.std.proofs.lemmas.List.{take_all, take_more}
use Rattle.runend_windows.specs.Starts.{starts_from}
use Rattle.runend_windows.proofs.Starts.{start_behind, start_behind-push, starts_from-push}
use Rattle.row_groups.proofs.groups.starts_of.Goals as goal

pub loop-end-preserved : goal.loop-end-preserved
loop-end-preserved g c =
    let ends = c.args.ends.now in
    let k = c.loop-end.end-index in
    let end = slice_index ends k in
    let more : take (k + 1) ends ≡ take k ends ++ end ∷ [] = take_more ends k 0 (omega arith) in
    record {
      shows = c.push_reserved.ensures.items ∙ ap (λ (starts : List ℕ). starts ++ c.loop-end.start ∷ []) c.loop-end.invariant.shows
          ∙ ap (λ (start : ℕ). starts_from 0 (take k ends) ++ start ∷ []) c.loop-end.invariant.start ∙ sym (ap (starts_from 0) more ∙ starts_from-push 0 (take k ends) end);
      start = sym (ap (start_behind 0) more ∙ start_behind-push 0 (take k ends) end);
      len = omega (arith, c.push_reserved.ensures.len, c.loop-end.invariant.len);
      room = omega (arith, c.push_reserved.ensures.capacity, c.loop-end.invariant.room);
    }

pub returns-clause-starts : goal.returns-clause-starts
returns-clause-starts g c = c.loop-end.invariant.shows ∙ ap (starts_from 0) (take_all c.loop-end.end-index c.args.ends.now (omega arith))
