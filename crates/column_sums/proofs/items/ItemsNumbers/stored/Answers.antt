use Rattle.std.proofs.Common.{◌≡◌, ◌∙◌, Some, arith, ap, refl, sym, length}
use Rattle.std.specs.Prelude.{option_map}
use Rattle.std.proofs.lemmas.Option.{slice_get_read}
use Rattle.column_sums.proofs.StoredItems.{item-stored, within_items}
use Rattle.column_sums.proofs.items.ItemsNumbers.stored.Goals as goal

pub prove-unreachable-requires : goal.prove-unreachable-requires
prove-unreachable-requires g c =
    let own = c.args.self.now in
    omega (arith, c.if-prove.true, within_items g.T.NativePType.number own.items.now (g.F.ItemFlags.flags own.flags.now) c.args.index c.requires)

pub returns : goal.returns
returns g c =
    let own = c.args.self.now in
    let items = own.items.now in
    let number = g.T.NativePType.number in
    let flags = g.F.ItemFlags.flags own.flags.now in
    let item = c.index-items-index.result in
    let within = within_items number items flags c.args.index c.requires in
    let stored = slice_get_read items (length items) c.args.index item refl within c.index-items-index.is in
    λ n is.
    let shown : Some (Some (number item)) ≡ Some (Some n) = ap (option_map (λ i. Some (number i))) (sym stored) ∙ item-stored number items flags c.args.index n is in
    let same : number item ≡ n = cc in
    c.to_summed.ensures ∙ same
