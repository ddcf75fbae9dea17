use Rattle.std.proofs.Common.{◌≢◌, ◌-◌, ◌<◌, length, map}
use Rattle.std.specs.List.{AllAdjacentBelow}
use Rattle.column_base.specs.Validity.{validity_flags}
use Rattle.column_core.specs.PrimitiveForm.{optionals}
use Rattle.runend_encode.proofs.joined.differ_in.Given as goal

abbrev pub invariant-loop-start : goal.invariant-loop-start
invariant-loop-start g l = record {
  later : 0 < l.start;
  differ : AllAdjacentBelow (λ x y. x ≢ y) (optionals (map g.T.NativePType.number l.items) (validity_flags l.validity (length l.items))) l.start;
}

abbrev pub decreases-loop-start : goal.decreases-loop-start
decreases-loop-start g l = length l.items - l.start
