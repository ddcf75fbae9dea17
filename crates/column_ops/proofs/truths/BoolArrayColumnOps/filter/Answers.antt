use Rattle.std.proofs.Common.{◌≡◌, ◌∙◌, Bool, length, refl, sym, ap, subst}
use Rattle.std.specs.Prelude.{option_map}
use Rattle.column_base.specs.Mask.{mask_bits}
use Rattle.column_base.specs.ValidityForm.{nullability_in}
use Rattle.column_base.specs.Validity.{form_of}
use Rattle.column_core.specs.Value.{Truth}
use Rattle.column_core.specs.BoolForm.{BoolForm, bool_rows, optional_truths}
use Rattle.column_ops.specs.Filter.{filter_rows}
use Rattle.column_ops.proofs.Made.{filter_rows-map}
use Rattle.column_ops.proofs.Columns.{IsMade-truths}
use Rattle.column_base.specs.declared.dtype.DType.TheVariants as column
use Rattle.column_core.specs.Leaf.{OfTruths}
use Rattle.column_ops.specs.Computed.{IsMade}
use Rattle.column_ops.proofs.FirstFaults.{first-none, first-told}
use Rattle.column_ops.proofs.Arms.{other_count, same_count}
use Rattle.column_ops.proofs.truths.BoolArrayColumnOps.filter.Goals as goal

pub returns-clause-made : goal.returns-clause-made
returns-clause-made g c =
    let own = c.args.self.now in
    let mask = mask_bits c.args.mask.now in
    let written = rw (c.values.ensures, c.validity.ensures.form) at c.in_ok-kept.ensures.filtered in
    subst (λ (made : BoolForm). IsMade (filter_rows mask (bool_rows own)) (column.Bool (nullability_in own.validity)) (OfTruths made)) (sym c.new_unchecked.ensures)
    (rw (filter_rows-map (option_map (λ (b : Bool). Truth b)) mask (optional_truths own))
    (IsMade-truths (filter_rows mask (optional_truths own)) (nullability_in own.validity) c.in_ok-kept.kept (form_of c.in_ok-kept.rows) written))

pub returns-clause-refused : goal.returns-clause-refused
returns-clause-refused g c = same_count _ _ (sym c.len.ensures ∙ c.if-len.false ∙ c.len-2.ensures.rows)

pub filter_bits-requires-clause-masked : goal.filter_bits-requires-clause-masked
filter_bits-requires-clause-masked g c = sym c.len.ensures ∙ c.if-len.false ∙ c.len-2.ensures.bits ∙ sym (ap length c.values.ensures)

pub returns-clause-first : goal.returns-clause-first
returns-clause-first g c = first-none _ _ (same_count _ _ (sym c.len.ensures ∙ c.if-len.false ∙ c.len-2.ensures.rows))

pub returns-in_err-kept-clause-first : goal.returns-in_err-kept-clause-first
returns-in_err-kept-clause-first g c = first-none _ _ (same_count _ _ (sym c.len.ensures ∙ c.if-len.false ∙ c.len-2.ensures.rows))

pub returns-then-len-clause-first : goal.returns-then-len-clause-first
returns-then-len-clause-first g c =
    let other : ¬ (c.len-then-len.result ≡ c.len-then-len-2.result) = λ same.
    c.if-len.true (c.len.ensures ∙ sym c.len-then-len.ensures ∙ same ∙ c.len-then-len-2.ensures.rows ∙ sym c.len-2.ensures.rows) in
    first-told _ _ _ (other_count _ _ c.len-then-len.result c.len-then-len-2.result c.len-then-len.ensures c.len-then-len-2.ensures.rows other) refl
