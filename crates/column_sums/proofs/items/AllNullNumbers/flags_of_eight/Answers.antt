use Rattle.std.proofs.Common.{◌∙◌, ◌+◌, ℤ, Option, None, ap, arith, sym}
use Rattle.std.proofs.lemmas.List.{length-replicate}
use Rattle.std.proofs.lemmas.Nat.Bits.{bit_at-zero}
use Rattle.column_base.specs.Words.{one_if}
use Rattle.column_sums.specs.Reach.{has_number}
use Rattle.column_sums.proofs.StoredItems.{copy-at}
use Rattle.column_sums.proofs.items.AllNullNumbers.flags_of_eight.Goals as goal

pub returns : goal.returns
returns g c =
    let count = c.args.self.now.count in
    let null : Option ℤ = None in
    λ k h.
    let at = copy-at count (c.args._from + k) null (omega (arith, h, c.requires, length-replicate count null)) in
    bit_at-zero k ∙ ap one_if (sym (ap has_number at))
