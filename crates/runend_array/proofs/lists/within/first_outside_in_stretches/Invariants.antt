use Rattle.std.proofs.Common.{ℕ, ◌-◌, ◌<◌, IsTrue}
use Rattle.runend_array.specs.Array.{column_of, lists_of, validity_of}
use Rattle.runend_array.specs.Column.{index_of}
use Rattle.runend_array.specs.Lists.{IsFlagRunUpTo, IsRunUpTo, IsWithinElements, row_flag_at}
use Rattle.runend_array.proofs.lists.within.first_outside_in_stretches.Given as goal

-- each valid row before this one lies within the elements, and no run is past this row
abbrev pub invariant-loop-row : goal.invariant-loop-row
invariant-loop-row g l = record {
  within : (k : ℕ) → k < l.row → IsTrue (row_flag_at (validity_of l.validity) k) → IsWithinElements (lists_of l.elements l.offsets l.sizes l.validity) k;
  flag_run : IsFlagRunUpTo (validity_of l.validity) l.flag_run l.row;
  offset_run : IsRunUpTo (index_of (column_of l.offsets)) l.offset_run l.row;
  size_run : IsRunUpTo (index_of (column_of l.sizes)) l.size_run l.row;
}

abbrev pub decreases-loop-row : goal.decreases-loop-row
decreases-loop-row g l = l.rows - l.row
