use Rattle.std.proofs.Common.{◌∙◌, ◌∷◌, [], Some, length, map, refl, sym, arith}
use Rattle.std.specs.Prelude.{slice_get}
use Rattle.std.proofs.lemmas.List.{map-append}
use Rattle.std.proofs.lemmas.Option.{slice_get_read}
use Rattle.runend_windows.proofs.ChangedRows.{place-next, place-within}
use Rattle.runend_windows.proofs.Starts.{start_behind-push, taken-push}
use Rattle.runend_windows.proofs.encode.first_items.Goals as goal

pub loop-end-preserved : goal.loop-end-preserved
loop-end-preserved g c =
    let items = c.args.items.now in
    let inv = c.loop-end.invariant in
    let ends = c.loop-end.ends.items in
    let values = c.loop-end.values.items in
    let item = c.index-items-start.result in
    let start = c.loop-end.start in
    let here = slice_get_read items (length items) start item refl inv.within c.index-items-start.is in
    record {
      left = rw c.in_ok-push.ensures.items (place-next c.args.changes.now ends c.loop-end.end-iterator _ c.in-Some.end inv.left c.in-Some.ensures.steps);
      start = rw c.in_ok-push.ensures.items (sym (start_behind-push 0 ends c.in-Some.end));
      within = omega (arith, place-within c.args.changes.now ends c.loop-end.end-iterator _ c.in-Some.end inv.left c.in-Some.ensures.steps, c.requires.long);
      taken = rw (c.in_ok-push.ensures.items, c.in_ok-push-2.ensures.items) (map-append (λ x. Some x) values (item ∷ [])
          ∙ taken-push (slice_get items) ends c.in-Some.end start (map (λ x. Some x) values) (Some item) inv.start here inv.taken);
    }

pub returns-clause-values : goal.returns-clause-values
returns-clause-values g c =
    let items = c.args.items.now in
    let inv = c.loop-end.invariant in
    let ends = c.loop-end.ends.items in
    let values = c.loop-end.values.items in
    let item = c.index-items-start-2.result in
    let start = c.loop-end.start in
    let here = slice_get_read items (length items) start item refl inv.within c.index-items-start-2.is in
    rw (c.in_ok-push-3.ensures.items, c.in_ok-push-4.ensures.items) (map-append (λ x. Some x) values (item ∷ [])
    ∙ taken-push (slice_get items) ends (length items) start (map (λ x. Some x) values) (Some item) inv.start here inv.taken)
