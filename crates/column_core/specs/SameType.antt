-- What `==` says of two types: that they are one. The derived tests compare variant by variant.
use Rattle.std.proofs.Common.{◌≡◌, Bool, true, false, refl, sym, ap, subst}
use Rattle.std.specs.Bool.{Decides}
use Rattle.std.specs.Prelude.{◌&&◌, ◌==◌}
use Rattle.std.specs.Ordering.{int_eq}
use Rattle.std.proofs.lemmas.Bool.Decides.{Decides-eqb, Decides-int_eq}
use mathlib.Core.Bool.{true≢false}
use Rattle.column_base.specs.declared.dtype.PType.{PType}
use Rattle.column_base.specs.declared.dtype.PType.TheVariants.{U8, U16, U32, U64, I8, I16, I32, I64}
use Rattle.column_base.specs.declared.dtype.Nullability.{Nullability}
use Rattle.column_base.specs.declared.dtype.Nullability.TheVariants.{NonNullable, Nullable}
use Rattle.column_base.specs.declared.dtype.DecimalDType.{DecimalDType}
use Rattle.column_base.specs.declared.dtype.ElementDType.{ElementDType}
use Rattle.column_base.specs.declared.dtype.ElementDType.TheVariants as element
use Rattle.column_base.specs.declared.dtype.DType.{DType}
use Rattle.column_base.specs.declared.dtype.DType.TheVariants as column
use Rattle.column_base.specs.contracts.dtype.PTypePartialEq.TheImpl as ptype_eq
use Rattle.column_base.specs.contracts.dtype.NullabilityPartialEq.TheImpl as nullability_eq
use Rattle.column_base.specs.contracts.dtype.DecimalDTypePartialEq.TheImpl as decimal_eq
use Rattle.column_base.specs.contracts.dtype.ElementDTypePartialEq.TheImpl as element_eq
use Rattle.column_base.specs.contracts.dtype.DTypePartialEq.TheImpl as dtype_eq
use Rattle.column_base.specs.contracts.dtype.DTypeEq.TheImpl.Laws.{laws-law}

-- a test of two parts holds where both do
both : (x y : Bool) → (x && y) ≡ true → (x ≡ true) × (y ≡ true)
both true true h = (refl, refl)
both true false h = absurd (true≢false (sym h))
both false y h = absurd (true≢false (sym h))

-- nullabilities that compare equal are one
one_nullability : (m n : Nullability) → (nullability_eq.ghosts).eq m n ≡ true → m ≡ n
one_nullability NonNullable NonNullable h = refl
one_nullability Nullable Nullable h = refl
one_nullability m n h = absurd (true≢false (sym h))

-- native types that compare equal are one
one_ptype : (p q : PType) → (ptype_eq.ghosts).eq p q ≡ true → p ≡ q
one_ptype U8 U8 h = refl
one_ptype U16 U16 h = refl
one_ptype U32 U32 h = refl
one_ptype U64 U64 h = refl
one_ptype I8 I8 h = refl
one_ptype I16 I16 h = refl
one_ptype I32 I32 h = refl
one_ptype I64 I64 h = refl
one_ptype p q h = absurd (true≢false (sym h))

-- decimal types that compare equal are one
one_decimal : (d e : DecimalDType) → (decimal_eq.ghosts).eq d e ≡ true → d ≡ e
one_decimal d e h =
    let w = both (d.precision == e.precision) (int_eq d.scale e.scale) h in
    let precision = (Decides-eqb d.precision e.precision).0 w.0 in
    let scale = (Decides-int_eq d.scale e.scale).0 w.1 in
    λ i. record { precision = precision i; scale = scale i }

-- types of elements that compare equal are one
one_element : (t u : ElementDType) → (element_eq.ghosts).eq t u ≡ true → t ≡ u
one_element (element.Bool m) (element.Bool n) h = ap element.Bool (one_nullability m n h)
one_element (element.Primitive p m) (element.Primitive q n) h =
    let w = both ((ptype_eq.ghosts).eq p q) ((nullability_eq.ghosts).eq m n) h in
    let ptype = one_ptype p q w.0 in
    let nullability = one_nullability m n w.1 in
    λ i. element.Primitive (ptype i) (nullability i)
one_element (element.Decimal d m) (element.Decimal e n) h =
    let w = both ((decimal_eq.ghosts).eq d e) ((nullability_eq.ghosts).eq m n) h in
    let decimal = one_decimal d e w.0 in
    let nullability = one_nullability m n w.1 in
    λ i. element.Decimal (decimal i) (nullability i)
one_element (element.Utf8 m) (element.Utf8 n) h = ap element.Utf8 (one_nullability m n h)
one_element (element.Binary m) (element.Binary n) h = ap element.Binary (one_nullability m n h)
one_element t u h = absurd (true≢false (sym h))

-- types that compare equal are one
one_dtype : (t u : DType) → (dtype_eq.ghosts).eq t u ≡ true → t ≡ u
one_dtype (column.Bool m) (column.Bool n) h = ap column.Bool (one_nullability m n h)
one_dtype (column.Primitive p m) (column.Primitive q n) h =
    let w = both ((ptype_eq.ghosts).eq p q) ((nullability_eq.ghosts).eq m n) h in
    let ptype = one_ptype p q w.0 in
    let nullability = one_nullability m n w.1 in
    λ i. column.Primitive (ptype i) (nullability i)
one_dtype (column.Decimal d m) (column.Decimal e n) h =
    let w = both ((decimal_eq.ghosts).eq d e) ((nullability_eq.ghosts).eq m n) h in
    let decimal = one_decimal d e w.0 in
    let nullability = one_nullability m n w.1 in
    λ i. column.Decimal (decimal i) (nullability i)
one_dtype (column.Utf8 m) (column.Utf8 n) h = ap column.Utf8 (one_nullability m n h)
one_dtype (column.Binary m) (column.Binary n) h = ap column.Binary (one_nullability m n h)
one_dtype (column.List t m) (column.List u n) h =
    let w = both ((element_eq.ghosts).eq t u) ((nullability_eq.ghosts).eq m n) h in
    let items = one_element t u w.0 in
    let nullability = one_nullability m n w.1 in
    λ i. column.List (items i) (nullability i)
one_dtype t u h = absurd (true≢false (sym h))

-- `==` holds of two types exactly where they are one
pub same_dtype-decides : (t u : DType) → Decides ((dtype_eq.ghosts).eq t u) (t ≡ u)
same_dtype-decides t u = (one_dtype t u, λ e. subst (λ (w : DType). (dtype_eq.ghosts).eq t w ≡ true) e (laws-law.refl t))
