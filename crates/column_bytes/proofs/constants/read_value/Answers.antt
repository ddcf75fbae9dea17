use Rattle.std.proofs.Common.{subst, sym}
use Rattle.column_base.specs.declared.dtype.DType.{DType}
use Rattle.column_core.specs.Scalar.{IsOwnedOf}
use Rattle.column_bytes.proofs.constants.read_value.Goals as goal

pub returns-in-Some-clause-owned : goal.returns-in-Some-clause-owned
returns-in-Some-clause-owned g c = subst (λ (t : DType). IsOwnedOf t c.in-Some.value) (sym c.in-Primitive.is) (c.in-Some.ensures.owned c.in-Primitive.field-1)
