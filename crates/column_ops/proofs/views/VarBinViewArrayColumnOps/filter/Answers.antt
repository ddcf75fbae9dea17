use Rattle.std.proofs.Common.{◌≡◌, ◌∙◌, length, refl, sym, ap}
use Rattle.column_base.specs.Mask.{mask_bits}
use Rattle.column_base.specs.ValidityForm.{nullability_in}
use Rattle.column_base.specs.Validity.{form_of}
use Rattle.column_ops.proofs.Columns.{IsMade-filtered_views, filtered_views_sound}
use Rattle.column_ops.proofs.FirstFaults.{first-none, first-told}
use Rattle.column_ops.proofs.Arms.{HasLength-arm, other_count, same_count}
use Rattle.column_ops.proofs.views.VarBinViewArrayColumnOps.filter.Goals as goal

pub new_unchecked-requires : goal.new_unchecked-requires
new_unchecked-requires g c =
    let own = c.args.self.now in
    let written = rw (c.views.ensures.stored, c.validity.ensures.form) at c.in_ok-kept.ensures.filtered in
    rw (c.in_ok-buffers.ensures.same, c.buffers.ensures, c.kind.ensures)
    (filtered_views_sound own (mask_bits c.args.mask.now) (nullability_in own.validity) c.in_ok-kept.kept.items (form_of c.in_ok-kept.rows) c.views.ensures.accepted written)

pub returns-clause-made : goal.returns-clause-made
returns-clause-made g c =
    let own = c.args.self.now in
    let written = rw (c.views.ensures.stored, c.validity.ensures.form) at c.in_ok-kept.ensures.filtered in
    rw (c.new_unchecked.ensures, c.in_ok-buffers.ensures.same, c.buffers.ensures, c.kind.ensures)
    (IsMade-filtered_views own (mask_bits c.args.mask.now) c.in_ok-kept.kept.items (form_of c.in_ok-kept.rows) written)

pub filter_items-requires-clause-fits : goal.filter_items-requires-clause-fits
filter_items-requires-clause-fits g c = HasLength-arm _ _ _ _ c.validity.ensures.form (ap length c.views.ensures.stored) c.validity.ensures.counted

pub filter_items-requires-clause-masked : goal.filter_items-requires-clause-masked
filter_items-requires-clause-masked g c = sym c.len.ensures ∙ c.if-len.false ∙ c.len-2.ensures.views ∙ sym (ap length c.views.ensures.stored)

pub returns-clause-refused : goal.returns-clause-refused
returns-clause-refused g c = same_count _ _ (sym c.len.ensures ∙ c.if-len.false ∙ c.len-2.ensures.rows)

pub returns-clause-first : goal.returns-clause-first
returns-clause-first g c = first-none _ _ (same_count _ _ (sym c.len.ensures ∙ c.if-len.false ∙ c.len-2.ensures.rows))

pub returns-in_err-kept-clause-first : goal.returns-in_err-kept-clause-first
returns-in_err-kept-clause-first g c = first-none _ _ (same_count _ _ (sym c.len.ensures ∙ c.if-len.false ∙ c.len-2.ensures.rows))

pub returns-in_err-buffers-clause-first : goal.returns-in_err-buffers-clause-first
returns-in_err-buffers-clause-first g c = first-none _ _ (same_count _ _ (sym c.len.ensures ∙ c.if-len.false ∙ c.len-2.ensures.rows))

pub returns-then-len-clause-first : goal.returns-then-len-clause-first
returns-then-len-clause-first g c =
    let other : ¬ (c.len-then-len.result ≡ c.len-then-len-2.result) = λ same.
    c.if-len.true (c.len.ensures ∙ sym c.len-then-len.ensures ∙ same ∙ c.len-then-len-2.ensures.rows ∙ sym c.len-2.ensures.rows) in
    first-told _ _ _ (other_count _ _ c.len-then-len.result c.len-then-len-2.result c.len-then-len.ensures c.len-then-len-2.ensures.rows other) refl
