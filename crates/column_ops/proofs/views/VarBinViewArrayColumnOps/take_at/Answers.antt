use Rattle.std.proofs.Common.{length, map, refl, sym, ap, subst, ◌∙◌}
use Rattle.std.specs.Prelude.{option_map}
use Rattle.std.proofs.lemmas.List.{length-map}
use Rattle.column_base.specs.ValidityForm.{nullability_in}
use Rattle.column_base.specs.Validity.{form_of, validity_flags}
use Rattle.column_core.specs.Optionals.{optionals}
use Rattle.column_ops.specs.Nullable.{either_nullable}
use Rattle.column_ops.specs.Take.{ArePositions, position_numbers}
use Rattle.column_ops.proofs.Columns.{IsMade-taken_views, taken_views_sound}
use Rattle.column_base.proofs.ValidityRows.{length-flags}
use Rattle.column_core.specs.VarBinForm.{optional_bytes, varbin_flags, varbin_value, view_bytes}
use Rattle.column_core.proofs.OptionalRows.{length-optionals}
use Rattle.column_ops.proofs.Arms.{HasLength-arm}
use Rattle.column_ops.proofs.views.VarBinViewArrayColumnOps.take_at.Goals as goal

pub new_unchecked-requires : goal.new_unchecked-requires
new_unchecked-requires g c =
    let own = c.args.self.now in
    let indices = position_numbers (optionals c.args.positions.now (validity_flags c.args.validity.now (length c.args.positions.now))) in
    let wanted = either_nullable (nullability_in own.validity) (nullability_in (form_of c.args.validity.now)) in
    let written = rw (c.views.ensures.stored, c.validity-own.ensures.form) at c.in_ok-taken.ensures.taken in
    rw (c.in_ok-buffers.ensures.same, c.buffers.ensures, c.kind.ensures)
    (taken_views_sound own indices wanted c.in_ok-taken.taken.items (form_of c.in_ok-taken.rows) c.views.ensures.accepted written)

pub returns-clause-made : goal.returns-clause-made
returns-clause-made g c =
    let own = c.args.self.now in
    let indices = position_numbers (optionals c.args.positions.now (validity_flags c.args.validity.now (length c.args.positions.now))) in
    let other = nullability_in (form_of c.args.validity.now) in
    let written = rw (c.views.ensures.stored, c.validity-own.ensures.form) at c.in_ok-taken.ensures.taken in
    rw (c.new_unchecked.ensures, c.in_ok-buffers.ensures.same, c.buffers.ensures, c.kind.ensures)
    (IsMade-taken_views own indices other (either_nullable (nullability_in own.validity) other) c.in_ok-taken.taken.items (form_of c.in_ok-taken.rows) refl written)

pub take_items-requires-clause-fits : goal.take_items-requires-clause-fits
take_items-requires-clause-fits g c = HasLength-arm _ _ _ _ c.validity-own.ensures.form (ap length c.views.ensures.stored) c.validity-own.ensures.counted

pub take_items-requires-clause-counted : goal.take_items-requires-clause-counted
take_items-requires-clause-counted g c = c.requires.counted

pub take_items-requires-clause-within : goal.take_items-requires-clause-within
take_items-requires-clause-within g c =
    let own = c.args.self.now in
    let bytes = map (view_bytes own.buffers) own.views in
    let long = length-map own.views (view_bytes own.buffers) in
    let flagged = length-flags own.validity (length own.views) c.validity-own.ensures.counted in
    let rows = length-map (optional_bytes own) (option_map (varbin_value own.kind)) ∙ length-optionals bytes (varbin_flags own) (flagged ∙ sym long) ∙ long in
    subst (ArePositions (optionals c.args.positions.now (validity_flags c.args.validity.now (length c.args.positions.now))))
    (rows ∙ sym (ap length c.views.ensures.stored)) c.requires.within
