use Rattle.std.proofs.Common.{Some, false, sym, ap, ◌∙◌}
use Rattle.column_base.specs.Mask.{mask_bits}
use Rattle.runend_windows.proofs.TypedRows.{stored-at_valid, stored-at_null}
use Rattle.runend_windows.proofs.typed_bool.bit_at.Goals as goal

pub returns-then-value : goal.returns-then-value
returns-then-value g c =
    stored-at_valid false c.args.values.now (mask_bits c.args.mask.now) c.args.run c.value-then-value.result c.value-then-value.ensures (c.value.ensures ∙ ap Some c.if-value.true)

pub returns-else-value : goal.returns-else-value
returns-else-value g c =
    stored-at_null false c.args.values.now (mask_bits c.args.mask.now) c.args.run c.requires.within (c.value.ensures ∙ ap Some c.if-value.false) ∙ ap Some (sym c.if-value.false)
