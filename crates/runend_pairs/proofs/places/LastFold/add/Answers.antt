use Rattle.std.proofs.Common.{◌∙◌, ap, sym}
use Rattle.std.specs.Option.{option_or}
use Rattle.std.specs.Prelude.{option_map}
use Rattle.runend_pairs.proofs.GroupPicked.{last-next, option_map-or}
use Rattle.runend_pairs.proofs.places.LastFold.add.Goals as goal

pub returns : goal.returns
returns g c = λ before some short kept.
    let number = g.T.NativePType.number in
    let value = option_map number c.args.value in
    last-next before value c.args.rows some ∙ ap (option_or value) kept ∙ sym (option_map-or number c.args.value c.args.self.now.found)
    ∙ ap (option_map number) (sym c.or-self.ensures)
