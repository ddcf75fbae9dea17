use Rattle.std.proofs.Common.{length, refl}
use Rattle.column_base.specs.Mask.{mask_bits}
use Rattle.column_base.specs.ValidityForm.{nullability_in}
use Rattle.column_base.specs.Validity.{form_of, validity_flags}
use Rattle.column_core.specs.Optionals.{optionals}
use Rattle.column_ops.specs.Filter.{filter_rows}
use Rattle.column_ops.proofs.TakenRows.{AreStoredAs-rows}
use Rattle.column_ops.proofs.filter_items.filter_parts.Goals as goal

pub returns-in-Ok-clause-filtered : goal.returns-in-Ok-clause-filtered
returns-in-Ok-clause-filtered g c =
    let rows = filter_rows (mask_bits c.args.mask.now) (optionals c.args.items.now (validity_flags c.args.validity.now (length c.args.items.now))) in
    AreStoredAs-rows c.args.blank rows (nullability_in (form_of c.args.validity.now)) c.in_ok-kept.kept.items (length rows) (form_of c.in-Ok.rows) refl c.in_ok-kept.ensures.items c.in-Ok.ensures.flags
