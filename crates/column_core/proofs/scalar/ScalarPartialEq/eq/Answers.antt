use Rattle.std.proofs.Common.{◌≡◌, ◌∙◌, Bool, sym, ap, subst, option_map}
use Rattle.std.specs.Prelude.{◌&&◌}
use Rattle.std.specs.Option.{option_eq}
use Rattle.std.proofs.lemmas.Bool.Decides.{Decides-at}
use Rattle.column_base.specs.declared.dtype.DType.{DType}
use Rattle.column_core.specs.Scalar.{flat_of, IsScalarOf}
use Rattle.column_core.specs.SameType.{same_dtype-decides}
use Rattle.column_core.specs.SameScalar.{same_flat, same_scalar-decides}
use Rattle.column_core.proofs.SameValues.{same_values}
use Rattle.column_core.proofs.scalar.ScalarPartialEq.eq.Goals as goal

pub returns-then-eq-clause-exact : goal.returns-then-eq-clause-exact
returns-then-eq-clause-exact g c =
    let left = c.self.inside in
    let right = c.other.inside in
    let one : left.dtype ≡ right.dtype = (same_dtype-decides left.dtype right.dtype).0 (sym c.eq.ensures ∙ c.if-eq.true) in
    let typed : IsScalarOf left.dtype right.value = subst (λ (t : DType). IsScalarOf t right.value) (sym one) c.other.invariant in
    let values = same_values g.row.A g.A.Allocator g.A.Allocator-dict g.A.Destruct-dict left.value right.value left.dtype c.self.invariant typed in
    let dtypes = sym c.eq.ensures ∙ c.if-eq.true in
    rw (← c.self.view_is, ← c.other.view_is)
    (Decides-at c.eq-then-eq.result _
    (c.eq-then-eq.ensures ∙ values ∙ sym (ap (λ (b : Bool). b && option_eq same_flat (option_map flat_of left.value) (option_map flat_of right.value)) dtypes))
    (same_scalar-decides (record { dtype = left.dtype; value = option_map flat_of left.value }) (record { dtype = right.dtype; value = option_map flat_of right.value })))
