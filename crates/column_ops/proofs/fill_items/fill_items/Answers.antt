use Rattle.std.proofs.Common.{length}
use Rattle.column_base.specs.Validity.{validity_flags}
use Rattle.column_core.specs.Optionals.{optionals}
use Rattle.column_ops.proofs.Blanked.{AreStoredAs-filled}
use Rattle.column_ops.proofs.fill_items.fill_items.Goals as goal

pub returns-clause-filled : goal.returns-clause-filled
returns-clause-filled g c =
    AreStoredAs-filled c.args.blank c.args.value (optionals c.args.items.now (validity_flags c.args.validity.now (length c.args.items.now))) c.in_ok-filled.filled.items c.in_ok-filled.ensures.items
