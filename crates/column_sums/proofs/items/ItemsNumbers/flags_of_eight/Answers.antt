use Rattle.std.proofs.Common.{◌∙◌, ◌+◌, sym, ap, arith, map}
use Rattle.column_base.specs.Words.{one_if}
use Rattle.column_sums.proofs.StoredItems.{has_number-at, length-optionals-flags}
use Rattle.column_sums.proofs.items.ItemsNumbers.flags_of_eight.Goals as goal

pub flags_of_eight-requires : goal.flags_of_eight-requires
flags_of_eight-requires g c =
    let own = c.args.self.now in
    omega (arith, c.requires, length-optionals-flags (map g.T.NativePType.number own.items.now) (g.F.ItemFlags.flags own.flags.now))

pub returns : goal.returns
returns g c =
    let own = c.args.self.now in
    λ k h. c.flags_of_eight.ensures k h ∙ ap one_if (sym (has_number-at g.T.NativePType.number own.items.now (g.F.ItemFlags.flags own.flags.now) (c.args.from + k) (omega (arith, h, c.requires))))
