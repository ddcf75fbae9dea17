use Rattle.std.proofs.Common.{length, refl}
use Rattle.column_base.specs.ValidityForm.{flags}
use Rattle.column_base.specs.Validity.{form_of}
use Rattle.column_base.proofs.ValidityRows.{length-flags}
use Rattle.column_ops.proofs.Blanked.{AreStoredAs-kept}
use Rattle.column_ops.proofs.keep_items.keep_items.Goals as goal

pub returns-in-Ok-clause-kept : goal.returns-in-Ok-clause-kept
returns-in-Ok-clause-kept g c =
    let items = c.args.items.now in
    let form = form_of c.args.validity.now in
    AreStoredAs-kept c.args.blank items (flags form (length items)) c.args.nullability c.in_ok-kept.kept.items (length items) (form_of c.in-Ok.rows)
    (length-flags form (length items) c.requires) refl c.in_ok-kept.ensures.items c.in-Ok.ensures.kept
