use Rattle.std.proofs.Common.{arith, map}
use Rattle.std.proofs.lemmas.List.{length-map}
use Rattle.column_core.proofs.OptionalRows.{length-optionals-le}
use Rattle.column_sums.proofs.StoredItems.{item-stored}
use Rattle.column_sums.proofs.items.ItemsNumbers.size_between.Goals as goal

pub prove-unreachable-requires : goal.prove-unreachable-requires
prove-unreachable-requires g c =
    let own = c.args.self.now in
    let number = g.T.NativePType.number in
    omega (arith, c.if-prove.true, c.requires.within, length-optionals-le (map number own.items.now) (g.F.ItemFlags.flags own.flags.now), length-map own.items.now number)

pub returns : goal.returns
returns g c =
    let own = c.args.self.now in
    λ k n low high is. c.size_of_items.ensures k n low high (item-stored g.T.NativePType.number own.items.now (g.F.ItemFlags.flags own.flags.now) k n is)
