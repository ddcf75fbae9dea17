-- What `==` says of two owned values of one type: that they hold one flat value.
use Rattle.std.proofs.Common.{◌≡◌, Option, Some, None, refl, ap}
use Rattle.std.specs.Prelude.{option_map, ◌==◌, pos}
use Rattle.std.specs.Option.{option_eq}
use Rattle.std.specs.Ordering.{int_eq}
use Rattle.std.specs.declared.alloc.Allocator.{Ghosts}
use Rattle.std.proofs.lemmas.Bool.Decides.{Decides-eqb, Decides-int_eq, Decides-like, same_from_decides}
use denote.RattleType.{RattleType}
use mir.Syntax.{Dict}
use Rattle.column_base.specs.declared.dtype.DType.{DType}
use Rattle.column_base.specs.declared.dtype.DType.TheVariants as column
use Rattle.column_core.specs.contracts.scalar.ScalarValuePartialEq.TheImpl as value_eq
use Rattle.column_core.specs.declared.scalar.ScalarValue.{ScalarValue}
use Rattle.column_core.specs.declared.scalar.ScalarValue.TheVariants as owned
use Rattle.column_core.specs.Scalar.{flat_of, IsOwnedOf, IsScalarOf}
use Rattle.column_core.specs.SameScalar.{same_flat}

module _ (A : RattleType) (G : Ghosts A.Denot) (d e : Dict) where
  -- of one type, owned values compare equal exactly where their flat values do
  same_value : (a b : ScalarValue A.Denot) (t : DType) → IsOwnedOf t a → IsOwnedOf t b → (value_eq.ghosts A G d e).eq a b ≡ same_flat (flat_of a) (flat_of b)
  same_value (owned.Bool a) (owned.Bool b) t h k = refl
  same_value (owned.Unsigned a) (owned.Unsigned b) t h k =
      same_from_decides (a == b) (int_eq (pos a) (pos b)) (Decides-eqb a b)
      (Decides-like (int_eq (pos a) (pos b)) (λ e. cc) (λ e. ap pos e) (Decides-int_eq (pos a) (pos b)))
  same_value (owned.Signed a) (owned.Signed b) t h k = refl
  same_value (owned.Decimal a) (owned.Decimal b) t h k = refl
  same_value (owned.Utf8 a) (owned.Utf8 b) t h k = refl
  same_value (owned.Binary a) (owned.Binary b) t h k = refl
  same_value (owned.Unsigned a) (owned.Signed b) (column.Primitive p n) h k = absurd (k.0 h.0)
  same_value (owned.Unsigned a) (owned.Signed b) t h k = absurd h
  same_value (owned.Signed a) (owned.Unsigned b) (column.Primitive p n) h k = absurd (h.0 k.0)
  same_value (owned.Signed a) (owned.Unsigned b) t h k = absurd h
  same_value a b t h k = refl

  -- equality of optional owned values is equality of what they hold
  pub same_values : (a b : Option (ScalarValue A.Denot)) (t : DType) → IsScalarOf t a → IsScalarOf t b
      → option_eq (value_eq.ghosts A G d e).eq a b ≡ option_eq same_flat (option_map flat_of a) (option_map flat_of b)
  same_values None None t h k = refl
  same_values None (Some b) t h k = refl
  same_values (Some a) None t h k = refl
  same_values (Some a) (Some b) t h k = same_value a b t h k
