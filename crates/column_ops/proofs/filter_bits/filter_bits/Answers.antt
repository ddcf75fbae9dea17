use Rattle.std.proofs.Common.{length}
use Rattle.column_ops.proofs.SelectedRows.{mask_bits-all, mask_bits-none}
use Rattle.column_ops.proofs.filter_bits.filter_bits.Goals as goal

pub returns-in-AllTrue-clause-filtered : goal.returns-in-AllTrue-clause-filtered
returns-in-AllTrue-clause-filtered g c = rw (mask_bits-all c.args.mask.now _ (length c.args.bits.now) c.in-AllTrue.is c.requires.masked) c.filter_alike.ensures.filtered

pub returns-in-AllFalse-clause-filtered : goal.returns-in-AllFalse-clause-filtered
returns-in-AllFalse-clause-filtered g c = rw (mask_bits-none c.args.mask.now _ (length c.args.bits.now) c.in-AllFalse.is c.requires.masked) c.filter_alike-in-AllFalse.ensures.filtered
