use Rattle.std.proofs.Common.{◌∙◌, sym, arith}
use Rattle.std.specs.Prelude.{option_map}
use Rattle.std.proofs.lemmas.List.{length-map, take_all}
use Rattle.column_core.specs.PrimitiveForm.{optional_numbers}
use Rattle.column_core.specs.Value.{Number}
use Rattle.column_ops.specs.Take.{index_fault}
use Rattle.column_ops.proofs.IndexPositions.{first_fault-here, first_fault-next}
use Rattle.tables.proofs.refusals.fault_of_indices.Goals as goal

pub loop-place-preserved : goal.loop-place-preserved
loop-place-preserved g c =
    let l = c.loop-place in
    let at = c.in_default.ensures in
    record { sound = first_fault-next (index_fault c.args.count) (optional_numbers c.args.indices.now) l.place at.0 l.invariant.sound at.1 (sym at.2) }

pub returns-in-Some : goal.returns-in-Some
returns-in-Some g c =
    let l = c.loop-place in
    let at = c.in-Some.ensures in
    sym (first_fault-here (index_fault c.args.count) (optional_numbers c.args.indices.now) l.place at.0 c.in-Some.error l.invariant.sound at.1 (sym at.2))

pub returns : goal.returns
returns g c =
    let numbers = optional_numbers c.args.indices.now in
    let counted = c.len-place-end.ensures.rows ∙ length-map numbers (option_map Number) in
    sym (rw (take_all c.loop-place.place numbers (omega (arith, counted, c.loop-place-test.false))) at c.loop-place.invariant.sound)
