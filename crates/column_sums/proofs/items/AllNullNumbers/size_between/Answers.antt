use Rattle.std.proofs.Common.{◌∙◌, ℤ, Option, None, arith, sym}
use Rattle.std.proofs.lemmas.List.{length-replicate}
use Rattle.column_sums.proofs.StoredItems.{copy-at}
use Rattle.column_sums.proofs.items.AllNullNumbers.size_between.Goals as goal

pub returns : goal.returns
returns g c =
    let count = c.args.self.now.count in
    let null : Option ℤ = None in
    λ k n low high is.
    let there = sym (copy-at count k null (omega (arith, high, c.requires.within, length-replicate count null))) ∙ is in
    absurd (cc)
