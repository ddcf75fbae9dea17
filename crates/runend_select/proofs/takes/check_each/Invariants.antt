use Rattle.std.proofs.Common.{◌≡◌, length, take, true, None}
use Rattle.column_base.specs.Validity.{validity_flags}
use Rattle.column_ops.specs.Take.{take_fault}
use Rattle.runend_select.specs.Indices.{optional_indices}
use Rattle.runend_select.proofs.Sorted.{AreSortedBefore}
use Rattle.runend_select.proofs.takes.check_each.Given as goal

-- the indices before this place are null or in bounds, and sorted where it says so
abbrev pub invariant-loop-place : goal.invariant-loop-place
invariant-loop-place g l =
    let indices = optional_indices g.T.NativePType.number l.indices (validity_flags l.validity (length l.indices)) in
    record {
      sound : take_fault (take l.place indices) l.count ≡ None;
      sorted : l.sorted ≡ true → AreSortedBefore indices l.place l.last;
    }
