use Rattle.std.proofs.Common.{◌∙◌, ℕ, ap, subst}
use Rattle.column_base.specs.Validity.{form_of}
use Rattle.column_base.specs.ValidityForm.{HasLength}
use Rattle.column_base.specs.declared.dtype.DType.TheVariants as column
use Rattle.column_core.specs.DecimalForm.{decimal_dtype_of}
use Rattle.runend_pairs.proofs.AnswerColumns.{decimals_computed, decimals_rows}
use Rattle.runend_pairs.proofs.stored.DecimalsStoredI128.column.Goals as goal

pub new_unchecked-decimals-requires : goal.new_unchecked-decimals-requires
new_unchecked-decimals-requires g c = subst (λ (n : ℕ). HasLength (form_of c.validity_with-validity.result) n) c.requires.paired c.validity_with-validity.ensures.fits

pub returns-clause-rows : goal.returns-clause-rows
returns-clause-rows g c = decimals_rows c.args.items.items c.args.flags c.args.self.now.decimal (form_of c.validity_with-validity.result) c.new_unchecked-decimals.result c.new_unchecked-decimals.ensures c.validity_with-validity.ensures.flags
    c.requires.paired

pub returns-clause-dtype : goal.returns-clause-dtype
returns-clause-dtype g c = ap decimal_dtype_of c.new_unchecked-decimals.ensures ∙ ap (column.Decimal c.args.self.now.decimal) c.validity_with-validity.ensures.nullability

pub returns-clause-computed : goal.returns-clause-computed
returns-clause-computed g c = decimals_computed c.args.items.items c.args.flags c.args.self.now.decimal (form_of c.validity_with-validity.result) c.new_unchecked-decimals.result c.new_unchecked-decimals.ensures
    c.validity_with-validity.ensures.flags c.requires.paired c.requires.blank c.validity_with-validity.ensures.normal c.validity_with-validity.ensures.some
