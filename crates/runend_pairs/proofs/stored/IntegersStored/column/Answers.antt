use Rattle.std.proofs.Common.{◌∙◌, ℕ, length, ap, subst, sym}
use Rattle.std.proofs.lemmas.List.{length-map}
use Rattle.column_base.specs.Numbers.{numbers, ptype_of}
use Rattle.column_base.specs.Validity.{form_of}
use Rattle.column_base.specs.ValidityForm.{HasLength}
use Rattle.column_base.specs.declared.dtype.DType.TheVariants as column
use Rattle.column_core.specs.PrimitiveForm.{primitive_dtype}
use Rattle.runend_pairs.proofs.AnswerColumns.{integers_computed, integers_rows}
use Rattle.runend_pairs.proofs.stored.IntegersStored.column.Goals as goal

pub new_unchecked-numbers-requires : goal.new_unchecked-numbers-requires
new_unchecked-numbers-requires g c =
    let long = c.requires.paired ∙ sym (ap length c.wrap.ensures.shows ∙ length-map c.args.items.items g.T.NativePType.number) in
    subst (λ (n : ℕ). HasLength (form_of c.validity_with-validity.result) n) long c.validity_with-validity.ensures.fits

pub returns-clause-rows : goal.returns-clause-rows
returns-clause-rows g c = integers_rows g.T.NativePType.number c.args.items.items c.args.flags (ptype_of c.wrap.result) (numbers c.wrap.result) (form_of c.validity_with-validity.result) c.new_unchecked-numbers.result
    c.new_unchecked-numbers.ensures c.wrap.ensures.shows c.validity_with-validity.ensures.flags c.requires.paired

pub returns-clause-dtype : goal.returns-clause-dtype
returns-clause-dtype g c = ap primitive_dtype c.new_unchecked-numbers.ensures ∙ (λ i. column.Primitive (c.wrap.ensures.typed i) (c.validity_with-validity.ensures.nullability i))

pub returns-clause-computed : goal.returns-clause-computed
returns-clause-computed g c = integers_computed g.T.NativePType.number c.args.items.items c.args.flags (ptype_of c.wrap.result) (numbers c.wrap.result) (form_of c.validity_with-validity.result)
    c.new_unchecked-numbers.result c.new_unchecked-numbers.ensures c.wrap.ensures.shows c.validity_with-validity.ensures.flags c.requires.paired c.requires.blank c.validity_with-validity.ensures.normal
    c.validity_with-validity.ensures.some
