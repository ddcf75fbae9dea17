use Rattle.std.proofs.Common.{Bool, length, ap, ◌∙◌}
use Rattle.column_base.specs.declared.dtype.Nullability.TheVariants.{NonNullable}
use Rattle.column_base.specs.Validity.{form_of}
use Rattle.column_core.specs.Value.{Truth}
use Rattle.column_core.specs.BoolForm.{BoolForm, bool_rows, bool_with, optional_truths}
use Rattle.column_ops.specs.Fill.{fill_rows}
use Rattle.column_ops.proofs.Made.{fill_rows-map}
use Rattle.column_ops.proofs.Columns.{IsMade-truths}
use Rattle.column_base.specs.declared.dtype.DType.TheVariants as column
use Rattle.column_core.specs.Leaf.{OfTruths}
use Rattle.column_ops.specs.Computed.{IsMade}
use Rattle.column_ops.proofs.Arms.{HasLength-arm, IfOk-same}
use Rattle.column_ops.proofs.truths.BoolArrayColumnOps.fill_with.Goals as goal

pub returns-clause-made : goal.returns-clause-made
returns-clause-made g c =
    let own = c.args.self.now in
    let truth = c.in-Bool.truth in
    let written = rw (c.as_slice.ensures.value, c.in_ok-own.ensures.same, c.values.ensures, c.validity.ensures.form) at c.in_ok-filled.ensures.filled in
    rw c.in-Bool.is
    (IfOk-same c.array_of.result (bool_with c.in_ok-filled.filled.items (form_of c.in_ok-filled.rows))
    (λ (made : BoolForm). IsMade (fill_rows (bool_rows own) (Truth truth)) (column.Bool NonNullable) (OfTruths made)) c.array_of.ensures.same
    (rw (fill_rows-map (λ (b : Bool). Truth b) (optional_truths own) truth)
    (IsMade-truths (fill_rows (optional_truths own) truth) NonNullable c.in_ok-filled.filled.items (form_of c.in_ok-filled.rows) written)))

pub returns-clause-only : goal.returns-clause-only
returns-clause-only g c = c.array_of.ensures.only

pub fill_items-filled-requires : goal.fill_items-filled-requires
fill_items-filled-requires g c = HasLength-arm _ _ _ _ c.validity.ensures.form (ap length (c.as_slice.ensures.value ∙ c.in_ok-own.ensures.same ∙ c.values.ensures)) c.validity.ensures.counted

pub array_of-requires : goal.array_of-requires
array_of-requires g c = c.in_ok-filled.ensures.filled.fits
