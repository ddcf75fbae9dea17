use Rattle.column_base.specs.Mask.{mask_bits}
use Rattle.column_base.specs.ValidityForm.{ByBits}
use Rattle.column_core.specs.BoolForm.{bool_with}
use Rattle.column_core.specs.Leaf.{OfTruths}
use Rattle.runend_windows.proofs.NullRows.{HasNullsAlone-by_length, HasNullsAlone-by_count}
use Rattle.runend_windows.proofs.typed_bool.masks_all.Goals as goal

pub returns-then-true_count-eq0 : goal.returns-then-true_count-eq0
returns-then-true_count-eq0 g c =
    HasNullsAlone-by_length (OfTruths (bool_with c.args.values.now (ByBits (mask_bits c.args.mask.now)))) c.requires c.true_count.result c.len.result c.true_count.ensures c.if-true_count-eq0.true c.len.ensures

pub returns-else-true_count-eq0 : goal.returns-else-true_count-eq0
returns-else-true_count-eq0 g c =
    HasNullsAlone-by_count (OfTruths (bool_with c.args.values.now (ByBits (mask_bits c.args.mask.now)))) c.requires c.true_count.result c.true_count.ensures c.if-true_count-eq0.false
