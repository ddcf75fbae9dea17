use Rattle.std.proofs.Common.{◌∙◌, length, map, pos, sym}
use Rattle.std.proofs.lemmas.List.{length-map}
use Rattle.column_base.specs.ValidityForm.{HasLength, flags}
use Rattle.column_base.specs.Validity.{form_of}
use Rattle.column_base.proofs.ValidityRows.{length-flags}
use Rattle.column_core.specs.PrimitiveForm.{optional_numbers, primitive_with}
use Rattle.column_ops.proofs.Blanked.{AreStoredAs-kept}
use Rattle.column_ops.proofs.PositionRows.{ArePositionsFor-kept}
use Rattle.column_ops.proofs.TakenRows.{never_null}
use Rattle.column_ops.proofs.positions.native_positions.Goals as goal

pub computed_validity-requires-clause-valid : goal.computed_validity-requires-clause-valid
computed_validity-requires-clause-valid g c = λ never. never_null (form_of c.args.validity.now) (length c.args.indices.now) (sym c.nullability.ensures ∙ never)

pub returns-in-Ok-clause-positions : goal.returns-in-Ok-clause-positions
returns-in-Ok-clause-positions g c =
    let numbers = map g.T.NativePType.number c.args.indices.now in
    let form = form_of c.args.validity.now in
    let long = length-map c.args.indices.now g.T.NativePType.number in
    let fits : HasLength form (length numbers) = rw long c.requires.fits in
    let positions = c.in_ok-positions.positions.items in
    let written = AreStoredAs-kept (pos 0) numbers (flags form (length numbers)) c.nullability.result (map pos positions) (length c.args.indices.now) (form_of c.in-Ok.places)
    (length-flags form (length numbers) fits) (sym long) c.in_ok-positions.ensures.same (rw long c.in-Ok.ensures.kept) in
    rw (c.nullability.ensures) at (ArePositionsFor-kept (optional_numbers (primitive_with g.T.NativePType.PTYPE numbers form)) c.nullability.result c.args.count positions (form_of c.in-Ok.places) c.in_ok-positions.ensures.refused written)
