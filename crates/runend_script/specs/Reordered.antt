-- Rows that are put in another order.
use Rattle.std.specs.Prelude.{◌≡◌, Result, Ok, Err, reverse}
use Rattle.std.specs.List.Sorted.{IsPermutation}
use Rattle.column_base.specs.declared.error.VortexError.{VortexError}
use Rattle.column_core.specs.Kinds.{list_fault}
use Rattle.column_core.specs.Refusal.{IsErrorFor}
use Rattle.column_ops.specs.OrderFacts.{IsInOrder}
use Rattle.runend_array.specs.Array.{column_of, dtype_of, rows}
use Rattle.runend_array.specs.declared.array_ref.ArrayRef.{ArrayRef}
use Rattle.runend_script.specs.declared.command.RowOrder.{RowOrder}
use Rattle.runend_script.specs.declared.command.RowOrder.TheVariants.{Rising, Reversed}
use Rattle.runend_script.specs.declared.scripts.Reply.{Reply}
use Rattle.runend_script.specs.declared.scripts.Reply.TheVariants.{Done}
use Rattle.runend_sorts.specs.Reordered.{IsInNewOrder}

-- the rows are those before in order, null first, in their type; in a constant where it was one, else encoded
pub record AreRising {A : Type 0} (before after : ArrayRef A) : Type 0 where
  pub same : IsPermutation (rows before) (rows after)
  pub ordered : IsInOrder (rows after)
  pub typed : dtype_of after ≡ dtype_of before
  pub form : IsInNewOrder (column_of before) (rows after) (column_of after)

-- the rows are those before in reverse order, in the same way
pub record AreReversed {A : Type 0} (before after : ArrayRef A) : Type 0 where
  pub same : rows after ≡ reverse (rows before)
  pub typed : dtype_of after ≡ dtype_of before
  pub form : IsInNewOrder (column_of before) (reverse (rows before)) (column_of after)

-- the rows are those before in this order
abbrev pub IsInOrderOf : {A : Type 0} → RowOrder → ArrayRef A → ArrayRef A → Type 0
IsInOrderOf Rising before after = AreRising before after
IsInOrderOf Reversed before after = AreReversed before after

-- what comes of a `sort` or `reverse` line: it is done, or refused as lists are, or for memory
abbrev pub IsReordered : {A : Type 0} → RowOrder → ArrayRef A → Result (Reply A) VortexError → ArrayRef A → Type 0
IsReordered order before (Ok Done) after = IsInOrderOf order before after
IsReordered order before (Ok reply) after = ⊥
IsReordered order before (Err error) after = IsErrorFor (list_fault (dtype_of before)) error
