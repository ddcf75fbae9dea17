use Rattle.std.proofs.Common.{◌∙◌, Some, false, ap}
use Rattle.column_ops.proofs.SelectedRows.{null-here, valid-here}
use Rattle.column_ops.proofs.filter_bits.shown_bit.Goals as goal

pub returns-then-value : goal.returns-then-value
returns-then-value g c = valid-here c.args.bits.now c.args.marks.now c.args.row c.value-bit.result false c.value-bit.ensures (c.value.ensures ∙ ap Some c.if-value.true)

pub returns-else-value : goal.returns-else-value
returns-else-value g c = null-here c.args.bits.now c.args.marks.now c.args.row false c.requires.within (c.value.ensures ∙ ap Some c.if-value.false)
