use Rattle.std.proofs.Common.{◌≡◌, ◌∙◌, length, map, refl, sym, ap}
use Rattle.std.specs.Prelude.{is_some}
use Rattle.std.proofs.lemmas.List.{length-map}
use Rattle.column_base.specs.declared.dtype.Nullability.TheVariants.{Nullable}
use Rattle.column_base.specs.Validity.{form_of}
use Rattle.column_core.specs.Optionals.{optionals}
use Rattle.column_ops.specs.Filter.{filter_rows}
use Rattle.column_ops.proofs.Blanked.{items_or}
use Rattle.column_ops.proofs.SelectedRows.{filter_rows-optionals, length-filter_rows, marks-selected}
use Rattle.column_ops.proofs.TakenRows.{AreStoredAs-rows, IsValidityOf-bits}
use Rattle.column_ops.proofs.filter_items.filter_marked.Goals as goal

pub with_item_at_nulls-shown-requires : goal.with_item_at_nulls-shown-requires
with_item_at_nulls-shown-requires g c =
    let bits = c.args.bits.now in
    ap length c.in_ok-flags.ensures.bits ∙ length-filter_rows bits c.args.marks.now (c.requires.masked ∙ sym c.requires.marked)
    ∙ sym (ap length c.in-Ok.ensures.items ∙ length-filter_rows bits c.args.items.now c.requires.masked)

pub returns-in-Ok-clause-filtered : goal.returns-in-Ok-clause-filtered
returns-in-Ok-clause-filtered g c =
    let bits = c.args.bits.now in
    let items = c.args.items.now in
    let marks = c.args.marks.now in
    let rows = filter_rows bits (optionals items marks) in
    let flags = c.in_ok-flags.flags in
    let same : flags ≡ map is_some rows = c.in_ok-flags.ensures.bits ∙ marks-selected bits items marks c.requires.masked c.requires.marked in
    let told = c.from_bits.ensures in
    let made = IsValidityOf-bits flags Nullable (length rows) (form_of c.from_bits.result) refl (ap length same ∙ length-map rows is_some) told.flags told.fits told.normal told.all_valid told.all_null in
    let shown = c.with_item_at_nulls-shown.ensures ∙ ap (λ xs. items_or xs flags c.args.blank) c.in-Ok.ensures.items
    ∙ ap (λ fs. items_or (filter_rows bits items) fs c.args.blank) c.in_ok-flags.ensures.bits ∙ filter_rows-optionals c.args.blank bits items marks c.requires.masked c.requires.marked in
    AreStoredAs-rows c.args.blank rows Nullable c.with_item_at_nulls-shown.result.items (length rows) (form_of c.from_bits.result) refl shown (rw same at made)
