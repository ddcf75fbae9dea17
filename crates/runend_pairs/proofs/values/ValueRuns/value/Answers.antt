use Rattle.std.proofs.Common.{◌≡◌, ◌∙◌, ◌<◌, ap, arith, length, map, refl, sym, Some}
use Rattle.std.specs.Prelude.{slice_get}
use Rattle.std.proofs.lemmas.List.{length-map}
use Rattle.std.proofs.lemmas.Option.{slice_get_read}
use Rattle.column_base.specs.ValidityForm.{flags}
use Rattle.column_base.specs.Validity.{form_of}
use Rattle.column_base.proofs.ValidityRows.{flags-at}
use Rattle.column_core.proofs.OptionalRows.{null-at}
use Rattle.column_sums.proofs.StoredItems.{valid_item}
use Rattle.runend_pairs.proofs.values.ValueRuns.value.Goals as goal

pub returns-then-is_valid : goal.returns-then-is_valid
returns-then-is_valid g c =
    let own = c.args.self.now in
    let items = own.items.now in
    let number = g.T.NativePType.number in
    let form = form_of own.validity.now in
    let paired = c.requires.runs.paired in
    let within : c.args.run < length items = omega (arith, c.requires.there) in
    let item = c.index-items-run.result in
    let stored = slice_get_read items (length items) c.args.run item refl within c.index-items-run.is in
    let flag : slice_get (flags form (length items)) c.args.run ≡ Some c.is_valid.result = flags-at form (length items) c.args.run c.requires.runs.flagged within ∙ ap Some (sym c.is_valid.ensures) in
    valid_item number items (flags form (length items)) c.args.run item (number item) c.is_valid.result stored refl flag c.if-is_valid.true

pub returns-else-is_valid : goal.returns-else-is_valid
returns-else-is_valid g c =
    let own = c.args.self.now in
    let items = own.items.now in
    let number = g.T.NativePType.number in
    let form = form_of own.validity.now in
    let paired = c.requires.runs.paired in
    let mapped = length-map items number in
    let within : c.args.run < length items = omega (arith, c.requires.there) in
    let flag : slice_get (flags form (length items)) c.args.run ≡ Some c.is_valid.result = flags-at form (length items) c.args.run c.requires.runs.flagged within ∙ ap Some (sym c.is_valid.ensures) in
    null-at (map number items) (flags form (length items)) c.args.run (omega arith) (flag ∙ ap Some c.if-is_valid.false)
