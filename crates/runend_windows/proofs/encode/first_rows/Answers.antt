use Rattle.std.proofs.Common.{None, length, map, sym, arith}
use Rattle.std.specs.Prelude.{option_map, slice_index_or}
use Rattle.std.proofs.lemmas.Option.{get_or_from_slice_get}
use Rattle.column_base.specs.Validity.{validity_flags}
use Rattle.column_core.specs.PrimitiveForm.{optionals}
use Rattle.runend_windows.proofs.ChangedRows.{place-next, place-within}
use Rattle.runend_windows.proofs.Starts.{start_behind-push, taken-push}
use Rattle.runend_windows.proofs.encode.first_rows.Goals as goal

pub loop-end-preserved : goal.loop-end-preserved
loop-end-preserved g c =
    let number = g.T.NativePType.number in
    let items = c.args.items.now in
    let rows = optionals (map number items) (validity_flags c.args.validity.now (length items)) in
    let inv = c.loop-end.invariant in
    let old = c.loop-end.runs in
    let start = c.loop-end.start in
    let shown = option_map number c.shown_at.result in
    let here = get_or_from_slice_get rows start shown None c.shown_at.ensures.shows in
    record {
      left = rw c.in_ok-close.ensures.ends (place-next c.args.changes.now old.ends.items c.loop-end.end-iterator _ c.in-Some.end inv.left c.in-Some.ensures.steps);
      start = rw c.in_ok-close.ensures.ends (sym (start_behind-push 0 old.ends.items c.in-Some.end));
      within = omega (arith, place-within c.args.changes.now old.ends.items c.loop-end.end-iterator _ c.in-Some.end inv.left c.in-Some.ensures.steps, c.requires.long);
      taken = rw (c.in_ok-close.ensures.ends, c.in_ok-close.ensures.values)
          (taken-push (λ place. slice_index_or rows place None) old.ends.items c.in-Some.end start (optionals (map number old.values.items) old.flags) shown inv.start here inv.taken);
      paired = c.in_ok-close.ensures.paired;
      zeroed = c.in_ok-close.ensures.zeroed inv.zeroed;
    }

pub returns-clause-values : goal.returns-clause-values
returns-clause-values g c =
    let number = g.T.NativePType.number in
    let items = c.args.items.now in
    let rows = optionals (map number items) (validity_flags c.args.validity.now (length items)) in
    let inv = c.loop-end.invariant in
    let old = c.loop-end.runs in
    let shown = option_map number c.shown_at-2.result in
    let here = get_or_from_slice_get rows c.loop-end.start shown None c.shown_at-2.ensures.shows in
    rw (c.in_ok-close-2.ensures.ends, c.in_ok-close-2.ensures.values)
    (taken-push (λ place. slice_index_or rows place None) old.ends.items (length items) c.loop-end.start (optionals (map number old.values.items) old.flags) shown inv.start here inv.taken)

pub returns-clause-paired : goal.returns-clause-paired
returns-clause-paired g c = c.in_ok-close-2.ensures.paired

pub returns-clause-zeroed : goal.returns-clause-zeroed
returns-clause-zeroed g c = c.in_ok-close-2.ensures.zeroed c.loop-end.invariant.zeroed
