use Rattle.std.proofs.Common.{List, Option, subst}
use Rattle.std.specs.Prelude.{◌↔◌, slice_range, IsTrue}
use Rattle.column_base.specs.Validity.{form_of}
use Rattle.column_core.specs.Value.{Value}
use Rattle.column_ops.specs.OrderFacts.{IsSorted}
use Rattle.column_ops.proofs.ItemColumns.{decimal-rows, within-decimals}
use Rattle.column_ops.proofs.sorted.is_sorted.Goals as goal

pub is_sorted_of-requires-clause-in_bounds : goal.is_sorted_of-requires-clause-in_bounds
is_sorted_of-requires-clause-in_bounds g c =
    within-decimals c.values.result.now (c.in-Decimal.array).now c.args.range.end c.values.ensures (rw c.in-Decimal.is at c.requires.in_bounds)

pub returns-in-Primitive : goal.returns-in-Primitive
returns-in-Primitive g c = rw c.in-Primitive.is c.are_sorted_numbers.ensures

pub returns-in-Bool : goal.returns-in-Bool
returns-in-Bool g c = rw c.in-Bool.is c.are_sorted_rows.ensures

pub returns-in-Decimal : goal.returns-in-Decimal
returns-in-Decimal g c =
    rw c.in-Decimal.is
    (subst (λ (rows : List (Option Value)). IsTrue c.is_sorted_of.result ↔ IsSorted c.args.strict (slice_range rows c.args.range.start c.args.range.end))
    (decimal-rows c.values.result.now (form_of c.validity.result.now) (c.in-Decimal.array).now c.values.ensures c.validity.ensures.form) c.is_sorted_of.ensures)

pub returns-in-VarBinView : goal.returns-in-VarBinView
returns-in-VarBinView g c = rw c.in-VarBinView.is c.are_sorted_rows-in-VarBinView.ensures
