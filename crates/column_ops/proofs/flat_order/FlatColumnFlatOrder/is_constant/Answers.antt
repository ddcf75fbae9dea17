use Rattle.column_ops.proofs.flat_order.FlatColumnFlatOrder.is_constant.Goals as goal

pub returns : goal.returns
returns g c = rw c.view.ensures at c.is_constant.ensures
