use Rattle.std.proofs.Common.{◌≡◌, ◌∙◌, Some, None, ap, sym, length, map, pos, arith}
use Rattle.std.specs.Prelude.{nat_le, option_map, slice_get}
use Rattle.std.proofs.lemmas.Bool.{and_parts, leb-true}
use Rattle.std.proofs.lemmas.List.{length-map, take_all}
use Rattle.column_base.specs.Validity.{form_of, validity_flags}
use Rattle.column_base.specs.ValidityForm.{flags}
use Rattle.column_base.proofs.ValidityRows.{length-flags}
use Rattle.column_ops.specs.Take.{index_fault, take_fault}
use Rattle.column_ops.proofs.IndexPositions.{first_fault-here, first_fault-next}
use Rattle.runend_select.specs.Indices.{optional_indices}
use Rattle.runend_select.proofs.Sorted.{AreSorted-all, AreSortedBefore-null, AreSortedBefore-valid}
use Rattle.runend_column.proofs.PassedOn.{no_value}
use Rattle.runend_select.proofs.CheckedIndices.{length-indices}
use Rattle.runend_select.proofs.PassedOn.{told-passed_on}
use Rattle.runend_select.proofs.takes.check_each.Goals as goal
use Rattle.runend_select.proofs.takes.check_each.Goals.{in-Some, in_default}

pub loop-place-preserved : goal.loop-place-preserved
loop-place-preserved g c =
    let indices = optional_indices g.T.NativePType.number c.args.indices.now (validity_flags c.args.validity.now (length c.args.indices.now)) in
    let place = c.loop-place.place in
    let last = c.loop-place.last in
    let inv = c.loop-place.invariant in
    let at = c.in_ok-row.ensures in
    let sound = first_fault-next (index_fault c.args.count) indices place at.0 inv.sound at.1 at.2 in
    elim c.match-branch-2.branch [
      | in-Some w ↦
          let row = w.in-Some.row in
          let here : slice_get indices place ≡ Some (Some (pos row)) = at.1 ∙ ap Some (at.3 ∙ ap (option_map pos) w.in-Some.is) in
          record {
            sound = sound;
            sorted = λ is.
                let both = and_parts c.loop-place.sorted (nat_le last row) (sym w.sorted-is ∙ is) in
                rw w.last-is (AreSortedBefore-valid indices place last row here (leb-true last row both.1) (inv.sorted both.0));
          }
      | in_default w ↦
          let here : slice_get indices place ≡ Some None = at.1 ∙ ap Some (at.3 ∙ ap (option_map pos) w.in_default.is) in
          record {
            sound = sound;
            sorted = λ is. rw w.last-is (AreSortedBefore-null indices place last here (inv.sorted (sym w.sorted-is ∙ is)));
          }
    ]

pub returns-in_err-row-clause-told : goal.returns-in_err-row-clause-told
returns-in_err-row-clause-told g c =
    let indices = optional_indices g.T.NativePType.number c.args.indices.now (validity_flags c.args.validity.now (length c.args.indices.now)) in
    let at = c.in_err-row.ensures in
    let refused = first_fault-here (index_fault c.args.count) indices c.loop-place.place at.0 c.in_err-row.field-0.0 c.loop-place.invariant.sound at.1 at.2 in
    told-passed_on (take_fault indices c.args.count) c.in_err-row.field-0.0 c.from_residual.result c.from_residual.ensures.1 refused

pub returns-in_err-row-clause-sorted : goal.returns-in_err-row-clause-sorted
returns-in_err-row-clause-sorted g c = no_value _ c.from_residual.result c.from_residual.ensures.0

pub returns-clause-told : goal.returns-clause-told
returns-clause-told g c =
    let number = g.T.NativePType.number in
    let items = c.args.indices.now in
    let form = form_of c.args.validity.now in
    let indices = optional_indices number items (flags form (length items)) in
    let long = length-map items number in
    let counted = length-indices (map number items) (flags form (length items)) (length-flags form (length items) c.requires.fits ∙ sym long) in
    rw (take_all c.loop-place.place indices (omega arith)) at c.loop-place.invariant.sound

pub returns-clause-sorted : goal.returns-clause-sorted
returns-clause-sorted g c =
    let number = g.T.NativePType.number in
    let items = c.args.indices.now in
    let form = form_of c.args.validity.now in
    let indices = optional_indices number items (flags form (length items)) in
    let long = length-map items number in
    let counted = length-indices (map number items) (flags form (length items)) (length-flags form (length items) c.requires.fits ∙ sym long) in
    λ is. AreSorted-all indices c.loop-place.place c.loop-place.last (omega arith) (c.loop-place.invariant.sorted is)
