use Rattle.std.proofs.Common.{◌∙◌, ℕ, length, ap, subst, sym}
use Rattle.column_base.specs.Validity.{form_of}
use Rattle.column_base.specs.ValidityForm.{HasLength}
use Rattle.column_base.specs.declared.dtype.DType.TheVariants as column
use Rattle.column_core.specs.BoolForm.{bool_dtype}
use Rattle.runend_pairs.proofs.AnswerColumns.{truths_computed, truths_rows}
use Rattle.runend_pairs.proofs.stored.TruthsStoredBool.column.Goals as goal

pub new_unchecked-requires : goal.new_unchecked-requires
new_unchecked-requires g c = subst (λ (n : ℕ). HasLength (form_of c.validity_with-validity.result) n) (c.requires.paired ∙ sym (ap length (c.in_ok-bits.ensures.bits ∙ c.as_slice.ensures.value))) c.validity_with-validity.ensures.fits

pub returns-clause-rows : goal.returns-clause-rows
returns-clause-rows g c = truths_rows c.args.items.items c.args.flags c.in_ok-bits.bits (form_of c.validity_with-validity.result) c.new_unchecked.result c.new_unchecked.ensures (c.in_ok-bits.ensures.bits ∙ c.as_slice.ensures.value)
    c.validity_with-validity.ensures.flags c.requires.paired

pub returns-clause-dtype : goal.returns-clause-dtype
returns-clause-dtype g c = ap bool_dtype c.new_unchecked.ensures ∙ ap column.Bool c.validity_with-validity.ensures.nullability

pub returns-clause-computed : goal.returns-clause-computed
returns-clause-computed g c = truths_computed c.args.items.items c.args.flags c.in_ok-bits.bits (form_of c.validity_with-validity.result) c.new_unchecked.result c.new_unchecked.ensures (c.in_ok-bits.ensures.bits ∙ c.as_slice.ensures.value)
    c.validity_with-validity.ensures.flags c.requires.paired c.requires.blank c.validity_with-validity.ensures.normal c.validity_with-validity.ensures.some
