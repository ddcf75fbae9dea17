use Rattle.column_base.specs.Mask.{mask_bits}
use Rattle.runend_select.specs.Indices.{optional_indices}
use Rattle.runend_select.proofs.Sorted.{AreSortedBefore}
use Rattle.runend_select.proofs.rows.never_fall.Given as goal

abbrev pub invariant-loop-place : goal.invariant-loop-place
invariant-loop-place g l = AreSortedBefore (optional_indices g.T.NativePType.number l.indices (mask_bits l.mask)) l.place l.last
