use Rattle.std.proofs.Common.{ℤ, Option, None, arith}
use Rattle.std.proofs.lemmas.List.{length-replicate}
use Rattle.column_sums.proofs.StoredItems.{copy-at}
use Rattle.column_sums.proofs.items.AllNullNumbers.number.Goals as goal

pub returns : goal.returns
returns g c =
    let count = c.args.self.now.count in
    let null : Option ℤ = None in
    copy-at count c.args._index null (omega (arith, c.requires, length-replicate count null))
