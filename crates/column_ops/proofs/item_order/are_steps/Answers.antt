use Rattle.column_ops.proofs.item_order.are_steps.Goals as goal

pub returns-then-strict : goal.returns-then-strict
returns-then-strict g c = rw c.if-strict.true c.are_strict_steps.ensures

pub returns-else-strict : goal.returns-else-strict
returns-else-strict g c = rw c.if-strict.false c.are_level_steps.ensures
