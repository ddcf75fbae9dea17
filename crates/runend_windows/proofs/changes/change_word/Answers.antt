use Rattle.std.proofs.Common.{◌+◌, ◌*◌, length, map, sym}
use Rattle.std.specs.Int.{bit_at}
use Rattle.std.proofs.lemmas.List.{length-map}
use Rattle.column_base.specs.Validity.{form_of}
use Rattle.column_base.proofs.ValidityRows.{has_row}
use Rattle.runend_windows.proofs.ChangedNumbers.{rows-go_on}
use Rattle.runend_windows.proofs.changes.change_word.Goals as goal

pub changed_optionals-requires : goal.changed_optionals-requires
changed_optionals-requires g c =
    has_row (form_of c.args.validity.now) (length c.args.items.now) (c.args.index * 64) c.requires.fits c.requires.within

pub returns : goal.returns
returns g c = λ lane few within.
    let number = g.T.NativePType.number in
    let items = c.args.items.now in
    let told = c.changed_optionals.ensures in
    rows-go_on (map number items) (form_of c.args.validity.now) (length items) (c.args.index * 64 + lane) (bit_at c.changed_optionals.result lane) (bit_at c.changed_items.result lane)
    c.requires.fits (sym (length-map items number)) within (c.changed_items.ensures lane few within) (told.valid lane few) (told.null lane few) (told.one lane few)
