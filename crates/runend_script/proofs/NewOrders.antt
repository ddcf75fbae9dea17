-- Rows that are put in another order.
use Rattle.std.proofs.Common.{◌≡◌}
use Rattle.std.specs.Prelude.{reverse}
use Rattle.std.specs.List.Sorted.{IsPermutation}
use Rattle.column_ops.specs.OrderFacts.{IsInOrder}
use Rattle.runend_array.specs.Array.{column_of, dtype_of, rows}
use Rattle.runend_array.specs.declared.array_ref.ArrayRef.{ArrayRef}
use Rattle.runend_script.specs.Reordered.{IsInOrderOf}
use Rattle.runend_script.specs.declared.command.RowOrder.TheVariants.{Rising, Reversed}
use Rattle.runend_sorts.specs.Reordered.{IsInNewOrder}

-- what `sort` leaves
pub rising : {A : Type 0} (before after : ArrayRef A) → IsPermutation (rows before) (rows after) → IsInOrder (rows after) → dtype_of after ≡ dtype_of before
    → IsInNewOrder (column_of before) (rows after) (column_of after) → IsInOrderOf Rising before after
rising before after same ordered typed form = record { same = same; ordered = ordered; typed = typed; form = form }

-- what `reverse` leaves
pub reversed : {A : Type 0} (before after : ArrayRef A) → rows after ≡ reverse (rows before) → dtype_of after ≡ dtype_of before
    → IsInNewOrder (column_of before) (reverse (rows before)) (column_of after) → IsInOrderOf Reversed before after
reversed before after same typed form = record { same = same; typed = typed; form = form }
