use Rattle.std.proofs.Common.{arith, refl, length}
use Rattle.std.proofs.lemmas.Option.{slice_get_read}
use Rattle.column_sums.proofs.StoredItems.{null_item, valid_item, within_flags, within_items}
use Rattle.column_sums.proofs.items.ItemsNumbers.number.Goals as goal

pub is_valid-requires : goal.is_valid-requires
is_valid-requires g c =
    let own = c.args.self.now in
    within_flags g.T.NativePType.number own.items.now (g.F.ItemFlags.flags own.flags.now) c.args.index c.requires

pub prove-unreachable-requires : goal.prove-unreachable-requires
prove-unreachable-requires g c =
    let own = c.args.self.now in
    omega (arith, c.if-prove.true, within_items g.T.NativePType.number own.items.now (g.F.ItemFlags.flags own.flags.now) c.args.index c.requires)

pub returns-then-is_valid : goal.returns-then-is_valid
returns-then-is_valid g c =
    let own = c.args.self.now in
    let items = own.items.now in
    let number = g.T.NativePType.number in
    let flags = g.F.ItemFlags.flags own.flags.now in
    let item = c.index-items-index.result in
    let within = within_items number items flags c.args.index c.requires in
    let stored = slice_get_read items (length items) c.args.index item refl within c.index-items-index.is in
    valid_item number items flags c.args.index item (g.V.NativePType.number c.to_summed.result) c.is_valid.result stored c.to_summed.ensures c.is_valid.ensures c.if-is_valid.true

pub returns-else-is_valid : goal.returns-else-is_valid
returns-else-is_valid g c =
    let own = c.args.self.now in
    null_item g.T.NativePType.number own.items.now (g.F.ItemFlags.flags own.flags.now) c.args.index c.is_valid.result c.requires c.is_valid.ensures c.if-is_valid.false
