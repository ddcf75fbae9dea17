use Rattle.std.proofs.Common.{◌≡◌, ◌∙◌, Bool, length, refl, sym, ap, subst}
use Rattle.column_core.specs.BoolForm.{BoolForm, bool_dtype, bool_rows, bool_with, optional_truths}
use Rattle.column_core.specs.Value.{Truth}
use Rattle.column_ops.proofs.CastRows.{dtype-of_cast, first_fault-kept}
use Rattle.column_ops.proofs.IndexPositions.{refused-passed_on}
use Rattle.column_ops.proofs.Arms.{HasLength-arm, IfOk-same, no_fault}
use Rattle.column_base.specs.declared.dtype.DType.TheVariants as column
use Rattle.column_base.specs.declared.dtype.DType.{DType}
use Rattle.column_base.specs.Types.{nullability_of}
use Rattle.column_base.specs.Validity.{form_of}
use Rattle.column_core.specs.Leaf.{OfTruths}
use Rattle.column_ops.specs.Computed.{IsMade}
use Rattle.column_ops.proofs.Columns.{IsMade-truths}
use Rattle.column_ops.proofs.truths.BoolArrayColumnOps.cast_to.Goals as goal

pub returns-in_err-kept-clause-refused : goal.returns-in_err-kept-clause-refused
returns-in_err-kept-clause-refused g c =
    let rows = optional_truths c.args.self.now in
    let refused = rw (c.as_slice.ensures.value, c.in_ok-own.ensures.same, c.values.ensures, c.validity-validity.ensures.form, c.nullability.ensures) at c.in_err-kept.ensures.refused in
    rw (first_fault-kept (λ (b : Bool). Truth b) c.args.dtype rows (λ b. refl))
    (refused-passed_on _ c.in_err-kept.field-0.0 c.from_residual-in_err-kept.result c.from_residual-in_err-kept.ensures.1 refused)

pub returns-clause-refused : goal.returns-clause-refused
returns-clause-refused g c =
    let rows = optional_truths c.args.self.now in
    let sound = rw (c.as_slice.ensures.value, c.in_ok-own.ensures.same, c.values.ensures, c.validity-validity.ensures.form, c.nullability.ensures) at c.in_ok-kept.ensures.refused in
    no_fault _ c.array_of.result (first_fault-kept (λ (b : Bool). Truth b) c.args.dtype rows (λ b. refl) ∙ sound) c.array_of.ensures.only

pub keep_items-kept-requires : goal.keep_items-kept-requires
keep_items-kept-requires g c = HasLength-arm _ _ _ _ c.validity-validity.ensures.form (ap length (c.as_slice.ensures.value ∙ c.in_ok-own.ensures.same ∙ c.values.ensures)) c.validity-validity.ensures.counted

pub returns-clause-made : goal.returns-clause-made
returns-clause-made g c =
    let own = c.args.self.now in
    let items = c.in_ok-kept.kept.items in
    let form = form_of c.in_ok-kept.rows in
    let written = rw (c.as_slice.ensures.value, c.in_ok-own.ensures.same, c.values.ensures, c.validity-validity.ensures.form, c.nullability.ensures) at c.in_ok-kept.ensures.kept in
    let typed : c.args.dtype ≡ column.Bool (nullability_of c.args.dtype) = dtype-of_cast (bool_dtype own) c.args.dtype refl c.requires in
    IfOk-same c.array_of.result (bool_with items form) (λ (made : BoolForm). IsMade (bool_rows own) c.args.dtype (OfTruths made)) c.array_of.ensures.same
    (subst (λ (dtype : DType). IsMade (bool_rows own) dtype (OfTruths (bool_with items form))) (sym typed)
    (IsMade-truths (optional_truths own) (nullability_of c.args.dtype) items form written))

pub array_of-requires : goal.array_of-requires
array_of-requires g c = c.in_ok-kept.ensures.kept.fits
