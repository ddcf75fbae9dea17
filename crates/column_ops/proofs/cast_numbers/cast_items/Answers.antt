use Rattle.std.proofs.Common.{length, map, pos, sym}
use Rattle.std.proofs.lemmas.List.{length-map}
use Rattle.column_base.specs.ValidityForm.{HasLength, flags}
use Rattle.column_base.specs.Validity.{form_of}
use Rattle.column_base.proofs.ValidityRows.{length-flags}
use Rattle.column_ops.proofs.Blanked.{AreStoredAs-kept}
use Rattle.column_ops.proofs.Nulls.{valid-of_cast}
use Rattle.column_ops.proofs.cast_numbers.cast_items.Goals as goal

pub computed_validity-requires-clause-valid : goal.computed_validity-requires-clause-valid
computed_validity-requires-clause-valid g c = λ never.
    let numbers = map g.S.NativePType.number c.args.items.now in
    let form = form_of c.args.validity.now in
    let long = length-map c.args.items.now g.S.NativePType.number in
    let fits : HasLength form (length numbers) = rw long c.requires in
    rw long at (valid-of_cast g.T.NativePType.PTYPE c.args.nullability numbers (flags form (length numbers)) never (length-flags form (length numbers) fits) c.in_ok-cast.ensures.refused)

pub returns-in-Ok-clause-cast : goal.returns-in-Ok-clause-cast
returns-in-Ok-clause-cast g c =
    let numbers = map g.S.NativePType.number c.args.items.now in
    let form = form_of c.args.validity.now in
    let long = length-map c.args.items.now g.S.NativePType.number in
    let fits : HasLength form (length numbers) = rw long c.requires in
    let cast = map g.T.NativePType.number c.in_ok-cast.cast.items in
    AreStoredAs-kept (pos 0) numbers (flags form (length numbers)) c.args.nullability cast (length c.args.items.now) (form_of c.in-Ok.rows)
    (length-flags form (length numbers) fits) (sym long) c.in_ok-cast.ensures.cast (rw long c.in-Ok.ensures.kept)
