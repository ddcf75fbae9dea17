use Rattle.std.proofs.Common.{◌∙◌, ap, sym, Option, ℤ}
use Rattle.std.specs.Option.{option_or}
use Rattle.std.specs.Prelude.{option_map}
use Rattle.runend_pairs.proofs.GroupPicked.{first-next, option_map-or}
use Rattle.runend_pairs.proofs.places.FirstFold.add.Goals as goal

pub returns : goal.returns
returns g c = λ before some short kept.
    let number = g.T.NativePType.number in
    let value = option_map number c.args.value in
    first-next before value c.args.rows some ∙ ap (λ (o : Option ℤ). option_or o value) kept ∙ sym (option_map-or number c.args.self.now.found c.args.value)
    ∙ ap (option_map number) (sym c.or-self.ensures)
