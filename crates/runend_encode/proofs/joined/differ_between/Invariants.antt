use Rattle.std.proofs.Common.{◌≢◌, length, map}
use Rattle.std.specs.List.{AllAdjacentBelow}
use Rattle.column_base.specs.Validity.{validity_flags}
use Rattle.column_core.specs.PrimitiveForm.{optionals}
use Rattle.runend_encode.proofs.joined.differ_between.Given as goal

abbrev pub invariant-loop-run : goal.invariant-loop-run
invariant-loop-run g l =
    let values = optionals (map g.T.NativePType.number l.items) (validity_flags l.validity (length l.items)) in
    AllAdjacentBelow (λ x y. x ≢ y) values l.start → AllAdjacentBelow (λ x y. x ≢ y) values l.run
