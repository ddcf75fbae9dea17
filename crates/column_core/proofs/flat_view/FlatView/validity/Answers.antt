use Rattle.column_core.proofs.OptionalRows.{length-primitive_rows, length-bool_rows, length-decimal_rows, length-varbin_rows}
use Rattle.column_core.proofs.flat_view.FlatView.validity.Goals as goal

pub returns-in-Primitive-clause-rows : goal.returns-in-Primitive-clause-rows
returns-in-Primitive-clause-rows g c = rw c.in-Primitive.is (length-primitive_rows (c.in-Primitive.array).now c.validity.ensures.counted)

pub returns-in-Bool-clause-rows : goal.returns-in-Bool-clause-rows
returns-in-Bool-clause-rows g c = rw c.in-Bool.is (length-bool_rows (c.in-Bool.array).now c.validity-in-Bool.ensures.counted)

pub returns-in-Decimal-clause-rows : goal.returns-in-Decimal-clause-rows
returns-in-Decimal-clause-rows g c = rw c.in-Decimal.is (length-decimal_rows (c.in-Decimal.array).now c.validity-in-Decimal.ensures.counted)

pub returns-in-VarBinView-clause-rows : goal.returns-in-VarBinView-clause-rows
returns-in-VarBinView-clause-rows g c = rw c.in-VarBinView.is (length-varbin_rows (c.in-VarBinView.array).now c.validity-in-VarBinView.ensures.counted)
