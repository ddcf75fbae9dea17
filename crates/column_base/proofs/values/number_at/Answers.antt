use Rattle.std.proofs.Common.{Some, length, map, refl, sym, ap, ◌∙◌}
use Rattle.std.specs.Option.{option_map}
use Rattle.std.proofs.lemmas.Option.{slice_get-map, slice_get_read}
use Rattle.column_base.proofs.Arms.{number-arm}
use Rattle.column_base.proofs.values.number_at.Goals as goal

pub returns : goal.returns
returns g c =
    let number = g.T.NativePType.number in
    let items = c.args.items.now in
    let item = c.index-items-index.result in
    let read = slice_get_read items (length items) c.args.index item refl c.requires c.index-items-index.is in
    let numbers = map number items in
    number-arm numbers numbers c.args.index c.widen.result refl (record { sfits = c.widen.type_inv })
    (slice_get-map number items c.args.index ∙ ap (option_map number) read ∙ ap Some (sym c.widen.ensures))
