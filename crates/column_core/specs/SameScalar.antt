-- When two scalars are equal.
use Rattle.std.specs.Prelude.{◌≡◌, ◌&&◌, Bool, false, true, Option, Some, None, refl}
use Rattle.std.specs.Bool.{Decides}
use Rattle.std.specs.Cmp.{IsEquivalence, booleans_Decides, decided}
use Rattle.std.specs.Option.{option_eq}
use Rattle.std.specs.Ordering.{int_eq}
use Rattle.std.specs.Str.{bytes_eq}
use Rattle.std.proofs.Common.{ap, subst, sym}
use Rattle.std.proofs.Math.Bool.{beq}
use Rattle.std.proofs.lemmas.Bool.Decides.{Decides-int_eq, Decides-and, Decides-like}
use Rattle.std.proofs.lemmas.Slice.Eq.{bytes_eq-Decides}
use mathlib.Core.Bool.{true≢false}
use Rattle.column_base.specs.contracts.dtype.DTypePartialEq.TheImpl as dtype_eq
use Rattle.column_core.specs.Value.{FlatValue, Truth, Number, DecimalNumber, Text, Bytes}
use Rattle.column_core.specs.ScalarForm.{ScalarForm}
use Rattle.column_core.specs.SameType.{same_dtype-decides}

-- whether two flat values are of one kind and equal
abbrev pub same_flat : FlatValue → FlatValue → Bool
same_flat (Truth a) (Truth b) = beq a b
same_flat (Number a) (Number b) = int_eq a b
same_flat (DecimalNumber a) (DecimalNumber b) = int_eq a b
same_flat (Text a) (Text b) = bytes_eq a b
same_flat (Bytes a) (Bytes b) = bytes_eq a b
same_flat a b = false

-- whether two scalars are of one type, and both null or of equal values
abbrev pub same_scalar : ScalarForm → ScalarForm → Bool
same_scalar a b = (dtype_eq.ghosts).eq a.dtype b.dtype && option_eq same_flat a.value b.value

-- flat values that compare equal are one
one_flat : (a b : FlatValue) → same_flat a b ≡ true → a ≡ b
one_flat (Truth a) (Truth b) h = ap Truth ((booleans_Decides a b).0 h)
one_flat (Number a) (Number b) h = ap Number ((Decides-int_eq a b).0 h)
one_flat (DecimalNumber a) (DecimalNumber b) h = ap DecimalNumber ((Decides-int_eq a b).0 h)
one_flat (Text a) (Text b) h = ap Text ((bytes_eq-Decides a b).0 h)
one_flat (Bytes a) (Bytes b) h = ap Bytes ((bytes_eq-Decides a b).0 h)
one_flat a b h = absurd (true≢false (sym h))

-- a flat value compares equal with itself
flat_itself : (a : FlatValue) → same_flat a a ≡ true
flat_itself (Truth a) = (booleans_Decides a a).1 refl
flat_itself (Number a) = (Decides-int_eq a a).1 refl
flat_itself (DecimalNumber a) = (Decides-int_eq a a).1 refl
flat_itself (Text a) = (bytes_eq-Decides a a).1 refl
flat_itself (Bytes a) = (bytes_eq-Decides a a).1 refl

-- optional flat values that compare equal are one
one_option : (a b : Option FlatValue) → option_eq same_flat a b ≡ true → a ≡ b
one_option None None h = refl
one_option None (Some b) h = absurd (true≢false (sym h))
one_option (Some a) None h = absurd (true≢false (sym h))
one_option (Some a) (Some b) h = ap Some (one_flat a b h)

-- an optional flat value compares equal with itself
option_itself : (a : Option FlatValue) → option_eq same_flat a a ≡ true
option_itself None = refl
option_itself (Some a) = flat_itself a

-- `same_scalar` holds of two scalars exactly where they are one
pub same_scalar-decides : (a b : ScalarForm) → Decides (same_scalar a b) (a ≡ b)
same_scalar-decides a b =
    let dtypes = same_dtype-decides a.dtype b.dtype in
    let values : Decides (option_eq same_flat a.value b.value) (a.value ≡ b.value) =
    (one_option a.value b.value, λ e. subst (λ (v : Option FlatValue). option_eq same_flat a.value v ≡ true) e (option_itself a.value)) in
    let parts = Decides-and ((dtype_eq.ghosts).eq a.dtype b.dtype) (option_eq same_flat a.value b.value) dtypes values in
    Decides-like (same_scalar a b) (λ e. λ i. record { dtype = e.0 i; value = e.1 i }) (λ e. (ap (λ (s : ScalarForm). s.dtype) e, ap (λ (s : ScalarForm). s.value) e)) parts

-- `same_scalar` is an equivalence
pub same_scalar_equivalence : IsEquivalence same_scalar
same_scalar_equivalence = decided same_scalar same_scalar-decides
