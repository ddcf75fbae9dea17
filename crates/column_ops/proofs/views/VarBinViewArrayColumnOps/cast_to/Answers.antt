use Rattle.std.proofs.Common.{◌∙◌, length, ap}
use Rattle.column_base.specs.Validity.{form_of}
use Rattle.column_ops.proofs.CastViews.{IsMade-kept_views, first_fault-views, kept_views_sound}
use Rattle.column_ops.proofs.IndexPositions.{refused-passed_on}
use Rattle.column_ops.proofs.Arms.{HasLength-arm}
use Rattle.column_ops.proofs.views.VarBinViewArrayColumnOps.cast_to.Goals as goal

pub returns-in_err-views-clause-refused : goal.returns-in_err-views-clause-refused
returns-in_err-views-clause-refused g c =
    let refused = rw (c.views.ensures.stored, c.validity-validity.ensures.form, c.nullability.ensures) at c.in_err-views.ensures.refused in
    rw (first_fault-views c.args.self.now c.args.dtype) (refused-passed_on _ c.in_err-views.field-0.0 c.from_residual.result c.from_residual.ensures.1 refused)

pub new_unchecked-requires : goal.new_unchecked-requires
new_unchecked-requires g c =
    let own = c.args.self.now in
    let written = rw (c.views.ensures.stored, c.validity-validity.ensures.form) at c.in_ok-views.ensures.kept in
    rw (c.in_ok-buffers.ensures.same, c.buffers.ensures, c.kind.ensures)
    (kept_views_sound own c.nullability.result c.in_ok-views.views.items (form_of c.in_ok-views.rows) c.views.ensures.accepted written)

pub returns-clause-refused : goal.returns-clause-refused
returns-clause-refused g c =
    let sound = rw (c.views.ensures.stored, c.validity-validity.ensures.form, c.nullability.ensures) at c.in_ok-views.ensures.refused in
    first_fault-views c.args.self.now c.args.dtype ∙ sound

pub returns-clause-made : goal.returns-clause-made
returns-clause-made g c =
    let own = c.args.self.now in
    let written = rw (c.views.ensures.stored, c.validity-validity.ensures.form, c.nullability.ensures) at c.in_ok-views.ensures.kept in
    rw (c.new_unchecked.ensures, c.in_ok-buffers.ensures.same, c.buffers.ensures, c.kind.ensures)
    (IsMade-kept_views own c.args.dtype c.in_ok-views.views.items (form_of c.in_ok-views.rows) c.requires written)

pub keep_items-requires : goal.keep_items-requires
keep_items-requires g c = HasLength-arm _ _ _ _ c.validity-validity.ensures.form (ap length c.views.ensures.stored) c.validity-validity.ensures.counted
