use Rattle.std.proofs.Common.{◌≡◌, ◌∙◌, ℤ, List, ap, length, pos, subst, sym}
use Rattle.std.proofs.lemmas.List.{length-map}
use Rattle.column_base.specs.declared.dtype.DType.TheVariants as column
use Rattle.column_base.specs.Numbers.{numbers, ptype_of}
use Rattle.column_base.specs.Validity.{form_of}
use Rattle.column_core.specs.Optionals.{optionals, AreBlankAtNulls}
use Rattle.column_core.specs.PrimitiveForm.{primitive_dtype}
use Rattle.runend_pairs.proofs.Answered.{computed_answers, nullable_bits, shown_answers}
use Rattle.runend_pairs.proofs.folds.answer_column.Goals as goal

pub returns-clause-shown : goal.returns-clause-shown
returns-clause-shown g c =
    let items = c.args.items.items in
    let bits = c.args.flags in
    let paired : length bits ≡ length (numbers c.wrap.result) = c.requires.paired ∙ sym (length-map items g.N.NativePType.number) ∙ ap length (sym c.wrap.ensures.shows) in
    shown_answers c.new_unchecked.result (ptype_of c.wrap.result) (numbers c.wrap.result) (form_of c.from_bits-validity.result) bits c.freeze.result c.new_unchecked.ensures c.freeze.ensures paired
    c.from_bits-validity.ensures.flags ∙ ap (λ (ns : List ℤ). optionals ns bits) c.wrap.ensures.shows

pub returns-clause-dtype : goal.returns-clause-dtype
returns-clause-dtype g c =
    let nullable = nullable_bits (form_of c.from_bits-validity.result) c.freeze.result c.from_bits-validity.ensures.flags (λ all. c.from_bits-validity.ensures.all_valid.1 all) in
    ap primitive_dtype c.new_unchecked.ensures ∙ (λ i. column.Primitive (c.wrap.ensures.typed i) (nullable i))

pub returns-clause-computed : goal.returns-clause-computed
returns-clause-computed g c =
    let items = c.args.items.items in
    let bits = c.args.flags in
    let paired : length bits ≡ length (numbers c.wrap.result) = c.requires.paired ∙ sym (length-map items g.N.NativePType.number) ∙ ap length (sym c.wrap.ensures.shows) in
    computed_answers c.new_unchecked.result (ptype_of c.wrap.result) (numbers c.wrap.result) (form_of c.from_bits-validity.result) bits c.freeze.result c.new_unchecked.ensures c.freeze.ensures paired
    c.from_bits-validity.ensures.flags (subst (λ (ns : List ℤ). AreBlankAtNulls (pos 0) ns bits) (sym c.wrap.ensures.shows) c.requires.blank) c.from_bits-validity.ensures.normal
    (λ e. (c.from_bits-validity.ensures.all_null.0 e).0)
