use Rattle.std.proofs.Common.{◌≡◌, ◌∙◌, ℤ, length, refl, sym, ap, inl, inr}
use Rattle.std.specs.Prelude.{option_map}
use Rattle.column_base.specs.Mask.{mask_bits}
use Rattle.column_base.specs.ValidityForm.{nullability_in}
use Rattle.column_base.specs.Validity.{form_of}
use Rattle.column_core.specs.Value.{DecimalNumber}
use Rattle.column_core.specs.DecimalForm.{optional_decimals}
use Rattle.column_ops.specs.Filter.{filter_rows}
use Rattle.column_ops.proofs.Made.{filter_rows-map}
use Rattle.column_ops.proofs.Columns.{IsMade-decimals}
use Rattle.column_ops.proofs.FirstFaults.{first-none, first-told}
use Rattle.column_ops.proofs.Arms.{HasLength-arm, other_count, same_count}
use Rattle.column_ops.proofs.IndexPositions.{refused-passed_on}
use Rattle.column_ops.proofs.decimals.DecimalArrayColumnOps.filter.Goals as goal

pub returns-clause-made : goal.returns-clause-made
returns-clause-made g c =
    let own = c.args.self.now in
    let mask = mask_bits c.args.mask.now in
    let written = rw (c.values.ensures, c.validity.ensures.form) at c.in_ok-kept.ensures.filtered in
    rw (c.new_unchecked.ensures, c.decimal_dtype.ensures, filter_rows-map (option_map (λ (n : ℤ). DecimalNumber n)) mask (optional_decimals own))
    (IsMade-decimals own.decimal (filter_rows mask (optional_decimals own)) (nullability_in own.validity) c.in_ok-kept.kept.items (form_of c.in_ok-kept.rows) written)

pub filter_items-requires-clause-fits : goal.filter_items-requires-clause-fits
filter_items-requires-clause-fits g c = HasLength-arm _ _ _ _ c.validity.ensures.form (ap length c.values.ensures) c.validity.ensures.counted

pub filter_items-requires-clause-masked : goal.filter_items-requires-clause-masked
filter_items-requires-clause-masked g c = sym c.len.ensures ∙ c.if-len.false ∙ c.len-2.ensures.numbers ∙ sym (ap length c.values.ensures)

pub new_unchecked-requires : goal.new_unchecked-requires
new_unchecked-requires g c = c.in_ok-kept.ensures.filtered.fits

pub returns-clause-refused : goal.returns-clause-refused
returns-clause-refused g c = same_count _ _ (sym c.len.ensures ∙ c.if-len.false ∙ c.len-2.ensures.rows)

pub returns-then-len-clause-refused : goal.returns-then-len-clause-refused
returns-then-len-clause-refused g c =
    let other : ¬ (c.len-then-len.result ≡ c.len-then-len-2.result) = λ same.
    c.if-len.true (c.len.ensures ∙ sym c.len-then-len.ensures ∙ same ∙ c.len-then-len-2.ensures.rows ∙ sym c.len-2.ensures.rows) in
    inr (other_count _ _ c.len-then-len.result c.len-then-len-2.result c.len-then-len.ensures c.len-then-len-2.ensures.rows other)

pub returns-in_err-kept-clause-refused : goal.returns-in_err-kept-clause-refused
returns-in_err-kept-clause-refused g c = refused-passed_on _ c.in_err-kept.field-0.0 c.from_residual.result c.from_residual.ensures.1 (inl c.in_err-kept.ensures.only)

pub returns-clause-first : goal.returns-clause-first
returns-clause-first g c = first-none _ _ (same_count _ _ (sym c.len.ensures ∙ c.if-len.false ∙ c.len-2.ensures.rows))

pub returns-in_err-kept-clause-first : goal.returns-in_err-kept-clause-first
returns-in_err-kept-clause-first g c = first-none _ _ (same_count _ _ (sym c.len.ensures ∙ c.if-len.false ∙ c.len-2.ensures.rows))

pub returns-then-len-clause-first : goal.returns-then-len-clause-first
returns-then-len-clause-first g c =
    let other : ¬ (c.len-then-len.result ≡ c.len-then-len-2.result) = λ same.
    c.if-len.true (c.len.ensures ∙ sym c.len-then-len.ensures ∙ same ∙ c.len-then-len-2.ensures.rows ∙ sym c.len-2.ensures.rows) in
    first-told _ _ _ (other_count _ _ c.len-then-len.result c.len-then-len-2.result c.len-then-len.ensures c.len-then-len-2.ensures.rows other) refl
