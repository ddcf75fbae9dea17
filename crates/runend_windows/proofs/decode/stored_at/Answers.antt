use Rattle.std.proofs.Common.{Some, true, false, length, ap, refl, ◌∙◌}
use Rattle.std.proofs.lemmas.Option.{slice_get_read, get_or_from_slice_get}
use Rattle.column_base.specs.ValidityForm.{ByBits}
use Rattle.runend_windows.proofs.Blanked.{blanked-valid, blanked-null}
use Rattle.runend_windows.proofs.decode.stored_at.Goals as goal

pub returns-then-value : goal.returns-then-value
returns-then-value g c =
    let items = c.args.items.now in
    let marks = c.args.marks.now in
    blanked-valid c.args.blank items (ByBits marks) c.args.row c.index-items-row.result c.requires.fits
    (slice_get_read items (length items) c.args.row c.index-items-row.result refl c.requires.within c.index-items-row.is) c.requires.within
    (get_or_from_slice_get marks c.args.row true false (c.value.ensures ∙ ap Some c.if-value.true))

pub returns-else-value : goal.returns-else-value
returns-else-value g c =
    let marks = c.args.marks.now in
    blanked-null c.args.blank c.args.items.now (ByBits marks) c.args.row c.requires.fits c.requires.within
    (get_or_from_slice_get marks c.args.row false false (c.value.ensures ∙ ap Some c.if-value.false))
