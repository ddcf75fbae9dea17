-- Each type has a number of its own.
use Rattle.std.proofs.Common.{◌≡◌, ℕ, ◌^◌, ◌<◌, cond, eqb, refl, sym, ap, ◌∙◌, arith}
use Rattle.column_base.specs.declared.dtype.PType.{PType}
use Rattle.column_base.specs.declared.dtype.PType.TheVariants.{U8, U16, U32, U64, I8, I16, I32, I64}
use Rattle.column_fields.specs.Types.{type_number, HasNoType}

pub type_small : (t : PType) → type_number t < 2 ^ 64
type_small U8 = omega arith
type_small U16 = omega arith
type_small U32 = omega arith
type_small U64 = omega arith
type_small I8 = omega arith
type_small I16 = omega arith
type_small I32 = omega arith
type_small I64 = omega arith

-- the type of a number, if it has one
pub type_in : ℕ → PType
type_in n = cond (eqb n 1) U8 (cond (eqb n 2) U16 (cond (eqb n 3) U32 (cond (eqb n 4) U64 (cond (eqb n 5) I8 (cond (eqb n 6) I16 (cond (eqb n 7) I32 I64))))))

pub type_back : (t : PType) → type_in (type_number t) ≡ t
unfolding type_in
type_back U8 = refl
type_back U16 = refl
type_back U32 = refl
type_back U64 = refl
type_back I8 = refl
type_back I16 = refl
type_back I32 = refl
type_back I64 = refl

pub type_same : (t u : PType) → type_number t ≡ type_number u → t ≡ u
type_same t u e = sym (type_back t) ∙ ap type_in e ∙ type_back u

no_type_at : (n : ℕ) (t : PType) → (n ≡ 1 → ⊥) → (n ≡ 2 → ⊥) → (n ≡ 3 → ⊥) → (n ≡ 4 → ⊥) → (n ≡ 5 → ⊥) → (n ≡ 6 → ⊥) → (n ≡ 7 → ⊥) → (n ≡ 8 → ⊥) → type_number t ≡ n → ⊥
no_type_at n U8 a b c d e f g h is = a (sym is)
no_type_at n U16 a b c d e f g h is = b (sym is)
no_type_at n U32 a b c d e f g h is = c (sym is)
no_type_at n U64 a b c d e f g h is = d (sym is)
no_type_at n I8 a b c d e f g h is = e (sym is)
no_type_at n I16 a b c d e f g h is = f (sym is)
no_type_at n I32 a b c d e f g h is = g (sym is)
no_type_at n I64 a b c d e f g h is = h (sym is)

pub no_type : (n : ℕ) → (n ≡ 1 → ⊥) → (n ≡ 2 → ⊥) → (n ≡ 3 → ⊥) → (n ≡ 4 → ⊥) → (n ≡ 5 → ⊥) → (n ≡ 6 → ⊥) → (n ≡ 7 → ⊥) → (n ≡ 8 → ⊥) → HasNoType n
no_type n a b c d e f g h = record { none = λ t is. no_type_at n t a b c d e f g h is }
