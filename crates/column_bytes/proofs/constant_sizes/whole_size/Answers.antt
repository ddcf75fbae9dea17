use Rattle.std.proofs.Common.{◌≡◌, ℕ, subst}
use Rattle.std.specs.Prelude.{IfOk, IfErr}
use Rattle.column_fields.specs.Sizes.{IsPast}
use Rattle.column_bytes.proofs.MessageSizes.{whole_sized}
use Rattle.column_bytes.proofs.constant_sizes.whole_size.Goals as goal

pub returns-clause-size : goal.returns-clause-size
returns-clause-size c =
    subst (λ (n : ℕ). IfOk c.some_size.result (λ size. size ≡ n)) (whole_sized c.args.dtype c.in-Primitive.ptype c.in-Primitive.nullability c.args.number c.size_of_type.result c.in-Primitive.is c.size_of_type.ensures) c.some_size.ensures.size

pub returns-clause-past : goal.returns-clause-past
returns-clause-past c =
    subst (λ (n : ℕ). IfErr c.some_size.result (λ error. IsPast n error)) (whole_sized c.args.dtype c.in-Primitive.ptype c.in-Primitive.nullability c.args.number c.size_of_type.result c.in-Primitive.is c.size_of_type.ensures) c.some_size.ensures.past
