use Rattle.std.proofs.Common.{◌≡◌, ◌∙◌, false, length, map, refl, ap}
use Rattle.std.specs.Prelude.{is_some}
use Rattle.std.proofs.lemmas.List.{length-map}
use Rattle.column_base.specs.declared.dtype.Nullability.TheVariants.{Nullable}
use Rattle.column_base.specs.Validity.{form_of}
use Rattle.column_core.specs.Optionals.{optionals}
use Rattle.column_ops.specs.Filter.{filter_rows}
use Rattle.column_ops.proofs.SelectedRows.{marks-selected}
use Rattle.column_ops.proofs.TakenRows.{AreStoredAs-rows, IsValidityOf-bits}
use Rattle.column_ops.proofs.filter_bits.filter_marked.Goals as goal

pub returns-clause-filtered : goal.returns-clause-filtered
returns-clause-filtered g c =
    let mask = c.args.mask.now in
    let items = c.args.bits.now in
    let marks = c.args.marks.now in
    let rows = filter_rows mask (optionals items marks) in
    let flags = c.in_ok-kept.flags in
    let same : flags ≡ map is_some rows = c.in_ok-kept.ensures.flags ∙ marks-selected mask items marks c.requires.masked c.requires.marked in
    let told = c.from_bits.ensures in
    let made = IsValidityOf-bits flags Nullable (length rows) (form_of c.from_bits.result) refl (ap length same ∙ length-map rows is_some) told.flags told.fits told.normal told.all_valid told.all_null in
    AreStoredAs-rows false rows Nullable c.in_ok-kept.kept (length rows) (form_of c.from_bits.result) refl c.in_ok-kept.ensures.shown (rw same at made)
