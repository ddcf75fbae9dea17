-- The type of elements is read as it is written, and in no other way.
use Rattle.std.proofs.Common.{◌≡◌, ◌⊎◌, inl, inr, ℕ, ◌+◌, ◌^◌, ◌<◌, List, [], ◌++◌, length, cond, eqb, refl, sym, ap, ◌∙◌, arith, append_assoc}
use Rattle.std.proofs.lemmas.List.{append-nil, length-append, nil_from_length}
use Rattle.column_base.specs.declared.dtype.PType.{PType}
use Rattle.column_base.specs.declared.dtype.PType.TheVariants.{U8, U16, U32, U64, I8, I16, I32, I64}
use Rattle.column_base.specs.declared.dtype.Nullability.{Nullability}
use Rattle.column_base.specs.declared.dtype.Nullability.TheVariants.{NonNullable, Nullable}
use Rattle.column_base.specs.declared.dtype.DecimalDType.{DecimalDType}
use Rattle.column_base.specs.declared.dtype.ElementDType.{ElementDType}
use Rattle.column_base.specs.declared.dtype.ElementDType.TheVariants as element
use Rattle.column_fields.specs.DecimalFields.{IsDecimalType, BeginsWithNoDecimalType, decimal_type, scale_number}
use Rattle.column_fields.specs.ElementFields.{IsElementType, nullability_number, HasNoNullability, numbered_type, IsNoNumberedType, element_type, IsNoElementType}
use Rattle.column_fields.specs.Field.{number_field, HasNoNumberField}
use Rattle.column_fields.specs.Types.{type_number, HasNoType}
use Rattle.column_fields.proofs.DecimalFieldLaws.{type_parts, decimal_type_same}
use Rattle.column_fields.proofs.FieldLaws.{number_field_same, fields_apart}
use Rattle.column_fields.proofs.TypeLaws.{type_small, type_in, type_back}

-- ---- nullabilities

told_small : (n : Nullability) → nullability_number n < 2 ^ 64
told_small NonNullable = omega arith
told_small Nullable = omega arith

told_same : (n m : Nullability) → nullability_number n ≡ nullability_number m → n ≡ m
told_same NonNullable NonNullable e = refl
told_same NonNullable Nullable e = absurd (omega arith)
told_same Nullable NonNullable e = absurd (omega arith)
told_same Nullable Nullable e = refl

other_at : (number : ℕ) (n : Nullability) → (number ≡ 1 → ⊥) → (number ≡ 2 → ⊥) → nullability_number n ≡ number → ⊥
other_at number NonNullable a b e = a (sym e)
other_at number Nullable a b e = b (sym e)

pub no_nullability : (number : ℕ) → (number ≡ 1 → ⊥) → (number ≡ 2 → ⊥) → HasNoNullability number
no_nullability number a b = record { none = λ n e. other_at number n a b e }

-- ---- the number of a type, and that of its nullability

numbered_parts : (number : ℕ) (n : Nullability) → numbered_type number n ≡ number_field 20 number ++ number_field 21 (nullability_number n)
unfolding numbered_type
numbered_parts number n = refl

-- what is read has to do with both fields that the bytes are
module _ (number : ℕ) (n : Nullability) (bytes : List ℕ) (small : number < 2 ^ 64) (e : bytes ≡ numbered_type number n) where
  after_number : (k : ℕ) (first : List ℕ) → k < 2 ^ 64 → bytes ≡ number_field 20 k ++ first → (k ≡ number) × (first ≡ number_field 21 (nullability_number n) ++ [])
  after_number k first lt b = number_field_same 20 k number first _ (omega arith) lt small (sym b ∙ e ∙ numbered_parts number n ∙ ap (λ (x : List ℕ). number_field 20 number ++ x) (sym (append-nil (number_field 21 (nullability_number n)))))

  after_told : (k told : ℕ) (first second : List ℕ) → k < 2 ^ 64 → told < 2 ^ 64 → bytes ≡ number_field 20 k ++ first → first ≡ number_field 21 told ++ second → (told ≡ nullability_number n) × (second ≡ [])
  after_told k told first second lt lt' b f = number_field_same 21 told (nullability_number n) second [] (omega arith) lt' (told_small n) (sym f ∙ (after_number k first lt b).1)

pub no_number : (bytes : List ℕ) → HasNoNumberField 20 bytes → IsNoNumberedType bytes
no_number bytes h = record { none = λ number n small e. h.none number _ small (e ∙ numbered_parts number n) }

pub no_told : (bytes first : List ℕ) (k : ℕ) → k < 2 ^ 64 → bytes ≡ number_field 20 k ++ first → HasNoNumberField 21 first → IsNoNumberedType bytes
no_told bytes first k lt b h = record { none = λ number n small e. h.none (nullability_number n) [] (told_small n) (after_number number n bytes small e k first lt b).1 }

pub other_told : (bytes first second : List ℕ) (k told : ℕ) → k < 2 ^ 64 → told < 2 ^ 64 → bytes ≡ number_field 20 k ++ first → first ≡ number_field 21 told ++ second → HasNoNullability told → IsNoNumberedType bytes
other_told bytes first second k told lt lt' b f h = record { none = λ number n small e. h.none n (sym (after_told number n bytes small e k told first second lt lt' b f).0) }

pub numbered_long : (number : ℕ) (n : Nullability) → length (numbered_type number n) ≡ length (number_field 20 number) + length (number_field 21 (nullability_number n))
unfolding numbered_type
numbered_long number n = length-append (number_field 20 number) (number_field 21 (nullability_number n))

pub more_behind : (bytes first second : List ℕ) (k told : ℕ) → k < 2 ^ 64 → told < 2 ^ 64 → bytes ≡ number_field 20 k ++ first → first ≡ number_field 21 told ++ second → (length second ≡ 0 → ⊥) → IsNoNumberedType bytes
more_behind bytes first second k told lt lt' b f ne = record { none = λ number n small e. ne (ap length (after_told number n bytes small e k told first second lt lt' b f).1) }

pub is_numbered : (bytes first second : List ℕ) (k told : ℕ) (n : Nullability) → bytes ≡ number_field 20 k ++ first → first ≡ number_field 21 told ++ second → nullability_number n ≡ told → length second ≡ 0 → bytes ≡ numbered_type k n
is_numbered bytes first second k told n b f is none =
    let told-is : first ≡ number_field 21 (nullability_number n) = f ∙ ap (λ (x : ℕ). number_field 21 x ++ second) (sym is) ∙ ap (λ (x : List ℕ). number_field 21 (nullability_number n) ++ x) (nil_from_length second none) ∙ append-nil (number_field 21 (nullability_number n)) in
    b ∙ ap (λ (x : List ℕ). number_field 20 k ++ x) told-is ∙ sym (numbered_parts k n)

pub puts_numbered : (k told : ℕ) (n : Nullability) (old a new : List ℕ) → told ≡ nullability_number n → a ≡ old ++ number_field 20 k → new ≡ a ++ number_field 21 told → new ≡ old ++ numbered_type k n
unfolding numbered_type
puts_numbered k told n old a new is p q = rw (q, p, is) (simp append_assoc)

numbered_same : (k m : ℕ) (n o : Nullability) → k < 2 ^ 64 → m < 2 ^ 64 → numbered_type k n ≡ numbered_type m o → (k ≡ m) × (n ≡ o)
numbered_same k m n o lt lt' e =
    let first : List ℕ = number_field 21 (nullability_number n) in
    let one = after_number m o (numbered_type k n) lt' e k first lt (numbered_parts k n) in
    let two = after_told m o (numbered_type k n) lt' e k (nullability_number n) first [] lt (told_small n) (numbered_parts k n) (sym (append-nil first)) in
    (one.0, told_same n o two.0)

-- precision and scale are not the number of a type
decimals_apart : (d : DecimalDType) (rest : List ℕ) (k : ℕ) (n : Nullability) → decimal_type d ++ rest ≡ numbered_type k n → ⊥
decimals_apart d rest k n e = absurd (omega (arith, fields_apart 14 20 d.precision k (number_field 15 (scale_number d.scale) ++ rest) (number_field 21 (nullability_number n)) (omega arith) (omega arith) (sym (type_parts d rest) ∙ e ∙ numbered_parts k n)))

-- ---- no type is named

no_type_at : (bytes : List ℕ) → BeginsWithNoDecimalType bytes → IsNoNumberedType bytes → (e : ElementDType) → IsElementType e → bytes ≡ element_type e → ⊥
no_type_at bytes d h (element.Bool n) typed b = h.none 9 n (omega arith) b
no_type_at bytes d h (element.Primitive t n) typed b = h.none (type_number t) n (type_small t) b
no_type_at bytes d h (element.Decimal f n) typed b = d.none f (numbered_type 10 n) typed b
no_type_at bytes d h (element.Utf8 n) typed b = h.none 11 n (omega arith) b
no_type_at bytes d h (element.Binary n) typed b = h.none 12 n (omega arith) b

pub no_type : (bytes : List ℕ) → BeginsWithNoDecimalType bytes → IsNoNumberedType bytes → IsNoElementType bytes
no_type bytes d h = record { none = λ e typed b. no_type_at bytes d h e typed b }

no_plain_at : (k : ℕ) (m : Nullability) → k < 2 ^ 64 → (k ≡ 9 → ⊥) → (k ≡ 11 → ⊥) → (k ≡ 12 → ⊥) → HasNoType k → (e : ElementDType) → numbered_type k m ≡ element_type e → ⊥
no_plain_at k m lt a b c h (element.Bool n) is = a (numbered_same k 9 m n lt (omega arith) is).0
no_plain_at k m lt a b c h (element.Primitive t n) is = h.none t (sym (numbered_same k (type_number t) m n lt (type_small t) is).0)
no_plain_at k m lt a b c h (element.Decimal d n) is = decimals_apart d (numbered_type 10 n) k m (sym is)
no_plain_at k m lt a b c h (element.Utf8 n) is = b (numbered_same k 11 m n lt (omega arith) is).0
no_plain_at k m lt a b c h (element.Binary n) is = c (numbered_same k 12 m n lt (omega arith) is).0

pub no_plain : (k : ℕ) (m : Nullability) → k < 2 ^ 64 → (k ≡ 9 → ⊥) → (k ≡ 11 → ⊥) → (k ≡ 12 → ⊥) → HasNoType k → IsNoElementType (numbered_type k m)
no_plain k m lt a b c h = record { none = λ e typed is. no_plain_at k m lt a b c h e is }

-- after precision and scale comes the number of decimals
no_decimals_at : (d : DecimalDType) (rest : List ℕ) → IsDecimalType d → ((n : Nullability) → rest ≡ numbered_type 10 n → ⊥) → (e : ElementDType) → IsElementType e → decimal_type d ++ rest ≡ element_type e → ⊥
no_decimals_at d rest native h (element.Bool n) typed b = decimals_apart d rest 9 n b
no_decimals_at d rest native h (element.Primitive t n) typed b = decimals_apart d rest (type_number t) n b
no_decimals_at d rest native h (element.Decimal f n) typed b = h n (decimal_type_same d f rest (numbered_type 10 n) native typed b).1
no_decimals_at d rest native h (element.Utf8 n) typed b = decimals_apart d rest 11 n b
no_decimals_at d rest native h (element.Binary n) typed b = decimals_apart d rest 12 n b

pub no_decimals : (d : DecimalDType) (bytes rest : List ℕ) → IsDecimalType d → bytes ≡ decimal_type d ++ rest → IsNoNumberedType rest → IsNoElementType bytes
no_decimals d bytes rest native b h = record { none = λ e typed is. no_decimals_at d rest native (λ n r. h.none 10 n (omega arith) r) e typed (sym b ∙ is) }

pub other_number : (d : DecimalDType) (bytes rest : List ℕ) (k : ℕ) (m : Nullability) → IsDecimalType d → k < 2 ^ 64 → bytes ≡ decimal_type d ++ rest → rest ≡ numbered_type k m → (k ≡ 10 → ⊥) → IsNoElementType bytes
other_number d bytes rest k m native lt b r ne = record { none = λ e typed is. no_decimals_at d rest native (λ n s. ne (numbered_same k 10 m n lt (omega arith) (sym r ∙ s)).0) e typed (sym b ∙ is) }

-- ---- one type has these fields

-- the type of a number that is none of decimals
plain_in : ℕ → Nullability → ElementDType
plain_in k n = cond (eqb k 9) (element.Bool n) (cond (eqb k 11) (element.Utf8 n) (cond (eqb k 12) (element.Binary n) (element.Primitive (type_in k) n)))

record PlainAt (e : ElementDType) : Type 0 where
  pub number : ℕ
  pub nullability : Nullability
  pub small : number < 2 ^ 64
  pub is : e ≡ plain_in number nullability
  pub spelt : element_type e ≡ numbered_type number nullability

record DecimalsAt (e : ElementDType) : Type 0 where
  pub decimal : DecimalDType
  pub nullability : Nullability
  pub native : IsDecimalType decimal
  pub is : e ≡ element.Decimal decimal nullability

native_at : (t : PType) (n : Nullability) → element.Primitive t n ≡ plain_in (type_number t) n
unfolding plain_in
native_at U8 n = ap (λ (x : PType). element.Primitive x n) (sym (type_back U8))
native_at U16 n = ap (λ (x : PType). element.Primitive x n) (sym (type_back U16))
native_at U32 n = ap (λ (x : PType). element.Primitive x n) (sym (type_back U32))
native_at U64 n = ap (λ (x : PType). element.Primitive x n) (sym (type_back U64))
native_at I8 n = ap (λ (x : PType). element.Primitive x n) (sym (type_back I8))
native_at I16 n = ap (λ (x : PType). element.Primitive x n) (sym (type_back I16))
native_at I32 n = ap (λ (x : PType). element.Primitive x n) (sym (type_back I32))
native_at I64 n = ap (λ (x : PType). element.Primitive x n) (sym (type_back I64))

element_at : (e : ElementDType) → IsElementType e → PlainAt e ⊎ DecimalsAt e
unfolding plain_in
element_at (element.Bool n) typed = inl (record { number = 9; nullability = n; small = omega arith; is = refl; spelt = refl })
element_at (element.Primitive t n) typed = inl (record { number = type_number t; nullability = n; small = type_small t; is = native_at t n; spelt = refl })
element_at (element.Decimal d n) typed = inr (record { decimal = d; nullability = n; native = typed; is = refl })
element_at (element.Utf8 n) typed = inl (record { number = 11; nullability = n; small = omega arith; is = refl; spelt = refl })
element_at (element.Binary n) typed = inl (record { number = 12; nullability = n; small = omega arith; is = refl; spelt = refl })

one_at : (e f : ElementDType) → PlainAt e ⊎ DecimalsAt e → PlainAt f ⊎ DecimalsAt f → element_type e ≡ element_type f → e ≡ f
one_at e f (inl p) (inl q) h =
    let same = numbered_same p.number q.number p.nullability q.nullability p.small q.small (sym p.spelt ∙ h ∙ q.spelt) in
    p.is ∙ ap (λ (k : ℕ). plain_in k p.nullability) same.0 ∙ ap (λ (n : Nullability). plain_in q.number n) same.1 ∙ sym q.is
one_at e f (inl p) (inr q) h = absurd (decimals_apart q.decimal (numbered_type 10 q.nullability) p.number p.nullability (ap element_type (sym q.is) ∙ sym h ∙ p.spelt))
one_at e f (inr p) (inl q) h = absurd (decimals_apart p.decimal (numbered_type 10 p.nullability) q.number q.nullability (ap element_type (sym p.is) ∙ h ∙ q.spelt))
one_at e f (inr p) (inr q) h =
    let same = decimal_type_same p.decimal q.decimal (numbered_type 10 p.nullability) (numbered_type 10 q.nullability) p.native q.native (ap element_type (sym p.is) ∙ h ∙ ap element_type q.is) in
    let nullabilities = numbered_same 10 10 p.nullability q.nullability (omega arith) (omega arith) same.1 in
    p.is ∙ ap (λ (d : DecimalDType). element.Decimal d p.nullability) same.0 ∙ ap (λ (n : Nullability). element.Decimal q.decimal n) nullabilities.1 ∙ sym q.is

pub element_same : (e f : ElementDType) → IsElementType e → IsElementType f → element_type e ≡ element_type f → e ≡ f
element_same e f p q h = one_at e f (element_at e p) (element_at f q) h
