use Rattle.std.proofs.Common.{◌∙◌, Bool, false, refl, sym, ap, subst}
use Rattle.column_base.proofs.ValidityRows.{nullable-of_bits}
use Rattle.column_base.specs.Validity.{form_of}
use Rattle.column_base.specs.declared.dtype.DType.TheVariants as column
use Rattle.column_core.specs.BoolForm.{BoolForm, bool_dtype}
use Rattle.column_core.specs.Computed.{IsComputedLeaf}
use Rattle.column_core.specs.Leaf.{OfTruths, single_rows}
use Rattle.column_core.specs.Value.{Truth}
use Rattle.runend_map.proofs.MapResultRows.{same_items, written_computed, written_rows}
use Rattle.runend_column.proofs.PassedOn.{no_value, only_error}
use Rattle.runend_map.proofs.answers.column_of_truths.Goals as goal

pub returns-clause-rows : goal.returns-clause-rows
returns-clause-rows g c =
    ap (λ (f : BoolForm). single_rows (OfTruths f)) c.new_unchecked.ensures
    ∙ written_rows (λ b. Truth b) (λ (b : Bool). b) false c.args.rows.now c.freeze-2.result (form_of c.from_bits-validity.result) c.freeze.result
    (c.freeze-2.ensures ∙ c.in_ok-bits.ensures.bits ∙ sym (same_items _)) c.from_bits-validity.ensures.flags (c.freeze.ensures ∙ c.in_ok-flags.ensures.flags)

pub returns-clause-dtype : goal.returns-clause-dtype
returns-clause-dtype g c =
    ap bool_dtype c.new_unchecked.ensures
    ∙ ap column.Bool (nullable-of_bits (form_of c.from_bits-validity.result) c.freeze.result c.from_bits-validity.ensures.flags c.from_bits-validity.ensures.all_valid)

pub returns-clause-computed : goal.returns-clause-computed
returns-clause-computed g c =
    subst (λ (f : BoolForm). IsComputedLeaf (OfTruths f)) (sym c.new_unchecked.ensures)
    (written_computed (λ (b : Bool). b) false false c.args.rows.now c.freeze-2.result (form_of c.from_bits-validity.result) c.freeze.result refl
    (c.freeze-2.ensures ∙ c.in_ok-bits.ensures.bits ∙ sym (same_items _)) c.from_bits-validity.ensures.flags (c.freeze.ensures ∙ c.in_ok-flags.ensures.flags)
    c.from_bits-validity.ensures.normal (λ null. (c.from_bits-validity.ensures.all_null.0 null).0))

pub returns-clause-only : goal.returns-clause-only
returns-clause-only g c = tt

pub returns-in_err-bits-clause-computed : goal.returns-in_err-bits-clause-computed
returns-in_err-bits-clause-computed g c = no_value _ c.from_residual.result c.from_residual.ensures.0

pub returns-in_err-bits-clause-dtype : goal.returns-in_err-bits-clause-dtype
returns-in_err-bits-clause-dtype g c = no_value _ c.from_residual.result c.from_residual.ensures.0

pub returns-in_err-bits-clause-only : goal.returns-in_err-bits-clause-only
returns-in_err-bits-clause-only g c = only_error c.from_residual.result c.in_err-bits.field-0.0 _ c.from_residual.ensures.1 c.in_err-bits.ensures.only

pub returns-in_err-bits-clause-rows : goal.returns-in_err-bits-clause-rows
returns-in_err-bits-clause-rows g c = no_value _ c.from_residual.result c.from_residual.ensures.0

pub returns-in_err-flags-clause-computed : goal.returns-in_err-flags-clause-computed
returns-in_err-flags-clause-computed g c = no_value _ c.from_residual-in_err-flags.result c.from_residual-in_err-flags.ensures.0

pub returns-in_err-flags-clause-dtype : goal.returns-in_err-flags-clause-dtype
returns-in_err-flags-clause-dtype g c = no_value _ c.from_residual-in_err-flags.result c.from_residual-in_err-flags.ensures.0

pub returns-in_err-flags-clause-only : goal.returns-in_err-flags-clause-only
returns-in_err-flags-clause-only g c = only_error c.from_residual-in_err-flags.result c.in_err-flags.field-0.0 _ c.from_residual-in_err-flags.ensures.1 c.in_err-flags.ensures.only

pub returns-in_err-flags-clause-rows : goal.returns-in_err-flags-clause-rows
returns-in_err-flags-clause-rows g c = no_value _ c.from_residual-in_err-flags.result c.from_residual-in_err-flags.ensures.0
