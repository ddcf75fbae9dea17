-- Constants of integers, booleans, texts and bytes are read as they are written, and in no other way.
use Rattle.std.proofs.Common.{◌≡◌, ℕ, ◌^◌, ◌<◌, Bool, true, false, Option, Some, None, List, [], ◌∷◌, length, refl, sym, ap, subst, ◌∙◌, arith}
use Rattle.std.proofs.lemmas.List.{nil_from_length}
use Rattle.column_base.specs.declared.dtype.Nullability.{Nullability}
use Rattle.column_base.specs.declared.dtype.Nullability.TheVariants.{NonNullable, Nullable}
use Rattle.column_base.specs.declared.dtype.DType.{DType}
use Rattle.column_base.specs.declared.dtype.DType.TheVariants as column
use Rattle.column_base.specs.Types.{nullability_of}
use Rattle.column_base.specs.ValidityForm.{ValidityForm, AllNull, ByBits, HasLength}
use Rattle.column_base.specs.Words.{one_if}
use Rattle.column_core.specs.Value.{FlatValue, Truth, Number, DecimalNumber, Text, Bytes, MayBeNull}
use Rattle.column_core.specs.ScalarForm.{ScalarForm}
use Rattle.column_fields.specs.FlatFields.{flat_fields, AreNoFlatFields}
use Rattle.column_fields.proofs.FlatFieldLaws.{flat_same}
use Rattle.column_fields.proofs.NumberSame.{number_same}
use Rattle.column_fields.proofs.TypeLaws.{type_same}
use Rattle.column_bytes.specs.Bytes.{kind_number}
use Rattle.column_bytes.specs.Values.{IsPlainType, IsStoredValue, some_validity, value_validity, some_bytes, value_bytes, value_fields}
use Rattle.column_bytes.specs.Read.{IsValueIn, HasNoValueIn, IsNullOf, HasNoNullOf, IsSomeOf, HasNoSomeOf, HasNoValueOf, HasNoPlainType}
use Rattle.column_bytes.proofs.Leaves.{type_at_most, items_small}

-- ---- types

dtype_same : (t u : DType) → IsPlainType t → IsPlainType u → kind_number t ≡ kind_number u → nullability_of t ≡ nullability_of u → t ≡ u
dtype_same (column.Primitive t n) (column.Primitive u m) p q k e = λ i. column.Primitive (type_same t u k i) (e i)
dtype_same (column.Primitive t n) (column.Bool m) p q k e = absurd (omega (arith, type_at_most t, k))
dtype_same (column.Primitive t n) (column.Decimal f m) p q k e = absurd q
dtype_same (column.Primitive t n) (column.Utf8 m) p q k e = absurd (omega (arith, type_at_most t, k))
dtype_same (column.Primitive t n) (column.Binary m) p q k e = absurd (omega (arith, type_at_most t, k))
dtype_same (column.Primitive t n) (column.List f m) p q k e = absurd q
dtype_same (column.Bool n) (column.Primitive u m) p q k e = absurd (omega (arith, type_at_most u, k))
dtype_same (column.Bool n) (column.Bool m) p q k e = ap column.Bool e
dtype_same (column.Bool n) (column.Decimal f m) p q k e = absurd q
dtype_same (column.Bool n) (column.Utf8 m) p q k e = absurd (omega (arith, k))
dtype_same (column.Bool n) (column.Binary m) p q k e = absurd (omega (arith, k))
dtype_same (column.Bool n) (column.List f m) p q k e = absurd q
dtype_same (column.Decimal d n) u p q k e = absurd p
dtype_same (column.Utf8 n) (column.Primitive u m) p q k e = absurd (omega (arith, type_at_most u, k))
dtype_same (column.Utf8 n) (column.Bool m) p q k e = absurd (omega (arith, k))
dtype_same (column.Utf8 n) (column.Decimal f m) p q k e = absurd q
dtype_same (column.Utf8 n) (column.Utf8 m) p q k e = ap column.Utf8 e
dtype_same (column.Utf8 n) (column.Binary m) p q k e = absurd (omega (arith, k))
dtype_same (column.Utf8 n) (column.List f m) p q k e = absurd q
dtype_same (column.Binary n) (column.Primitive u m) p q k e = absurd (omega (arith, type_at_most u, k))
dtype_same (column.Binary n) (column.Bool m) p q k e = absurd (omega (arith, k))
dtype_same (column.Binary n) (column.Decimal f m) p q k e = absurd q
dtype_same (column.Binary n) (column.Utf8 m) p q k e = absurd (omega (arith, k))
dtype_same (column.Binary n) (column.Binary m) p q k e = ap column.Binary e
dtype_same (column.Binary n) (column.List f m) p q k e = absurd q
dtype_same (column.List d n) u p q k e = absurd p

-- ---- values

one_same : (a b : ℕ) → a ∷ [] ≡ b ∷ [] → a ≡ b
one_same a b e = cc

truth_same : (a b : Bool) → one_if a ∷ [] ≡ one_if b ∷ [] → a ≡ b
truth_same true true e = refl
truth_same true false e = absurd (omega (arith, one_same 1 0 e))
truth_same false true e = absurd (omega (arith, one_same 0 1 e))
truth_same false false e = refl

some_same : (t : DType) (v w : FlatValue) → IsStoredValue t (Some v) → IsStoredValue t (Some w) → some_bytes t v ≡ some_bytes t w → v ≡ w
some_same (column.Primitive t n) (Truth x) w p q e = absurd p.typed
some_same (column.Primitive t n) (Number x) (Truth y) p q e = absurd q.typed
some_same (column.Primitive t n) (Number x) (Number y) p q e = ap Number (number_same t x y p.typed q.typed e)
some_same (column.Primitive t n) (Number x) (DecimalNumber y) p q e = absurd q.typed
some_same (column.Primitive t n) (Number x) (Text y) p q e = absurd q.typed
some_same (column.Primitive t n) (Number x) (Bytes y) p q e = absurd q.typed
some_same (column.Primitive t n) (DecimalNumber x) w p q e = absurd p.typed
some_same (column.Primitive t n) (Text x) w p q e = absurd p.typed
some_same (column.Primitive t n) (Bytes x) w p q e = absurd p.typed
some_same (column.Bool n) (Truth x) (Truth y) p q e = ap Truth (truth_same x y e)
some_same (column.Bool n) (Truth x) (Number y) p q e = absurd q.typed
some_same (column.Bool n) (Truth x) (DecimalNumber y) p q e = absurd q.typed
some_same (column.Bool n) (Truth x) (Text y) p q e = absurd q.typed
some_same (column.Bool n) (Truth x) (Bytes y) p q e = absurd q.typed
some_same (column.Bool n) (Number x) w p q e = absurd p.typed
some_same (column.Bool n) (DecimalNumber x) w p q e = absurd p.typed
some_same (column.Bool n) (Text x) w p q e = absurd p.typed
some_same (column.Bool n) (Bytes x) w p q e = absurd p.typed
some_same (column.Decimal d n) v w p q e = absurd p.plain
some_same (column.Utf8 n) (Truth x) w p q e = absurd p.typed
some_same (column.Utf8 n) (Number x) w p q e = absurd p.typed
some_same (column.Utf8 n) (DecimalNumber x) w p q e = absurd p.typed
some_same (column.Utf8 n) (Text x) (Truth y) p q e = absurd q.typed
some_same (column.Utf8 n) (Text x) (Number y) p q e = absurd q.typed
some_same (column.Utf8 n) (Text x) (DecimalNumber y) p q e = absurd q.typed
some_same (column.Utf8 n) (Text x) (Text y) p q e = ap Text e
some_same (column.Utf8 n) (Text x) (Bytes y) p q e = absurd q.typed
some_same (column.Utf8 n) (Bytes x) w p q e = absurd p.typed
some_same (column.Binary n) (Truth x) w p q e = absurd p.typed
some_same (column.Binary n) (Number x) w p q e = absurd p.typed
some_same (column.Binary n) (DecimalNumber x) w p q e = absurd p.typed
some_same (column.Binary n) (Text x) w p q e = absurd p.typed
some_same (column.Binary n) (Bytes x) (Truth y) p q e = absurd q.typed
some_same (column.Binary n) (Bytes x) (Number y) p q e = absurd q.typed
some_same (column.Binary n) (Bytes x) (DecimalNumber y) p q e = absurd q.typed
some_same (column.Binary n) (Bytes x) (Text y) p q e = absurd q.typed
some_same (column.Binary n) (Bytes x) (Bytes y) p q e = ap Bytes e
some_same (column.List d n) v w p q e = absurd p.plain

-- ---- how null is written

pub may_be_null : (n : Nullability) → MayBeNull n → n ≡ Nullable
may_be_null NonNullable h = absurd h
may_be_null Nullable h = refl

pub told_same : (n m : Nullability) → some_validity n ≡ some_validity m → n ≡ m
told_same NonNullable NonNullable e = refl
told_same NonNullable Nullable e = absurd cc
told_same Nullable NonNullable e = absurd cc
told_same Nullable Nullable e = refl

pub told_some : (n : Nullability) → some_validity n ≡ AllNull → ⊥
told_some NonNullable e = absurd cc
told_some Nullable e = absurd cc

pub told_length : (n : Nullability) (v : Option FlatValue) → HasLength (value_validity n v) 0
told_length n None = tt
told_length NonNullable (Some v) = tt
told_length Nullable (Some v) = tt

pub some_length : (n : Nullability) → HasLength (some_validity n) 0
some_length NonNullable = tt
some_length Nullable = tt

pub no_bits_told : (bits : List Bool) (n : Nullability) (v : Option FlatValue) → ByBits bits ≡ value_validity n v → ⊥
no_bits_told bits n None e = absurd cc
no_bits_told bits NonNullable (Some v) e = absurd cc
no_bits_told bits Nullable (Some v) e = absurd cc

-- ---- one value has these bytes

value_same : (t u : DType) (v w : Option FlatValue) → IsStoredValue t v → IsStoredValue u w → kind_number t ≡ kind_number u → value_validity (nullability_of t) v ≡ value_validity (nullability_of u) w → value_bytes t v ≡ value_bytes u w → (t ≡ u) × (v ≡ w)
value_same t u None None p q k n e = (dtype_same t u p.plain q.plain k (may_be_null (nullability_of t) p.typed ∙ sym (may_be_null (nullability_of u) q.typed)), refl)
value_same t u None (Some w) p q k n e = absurd (told_some (nullability_of u) (sym n))
value_same t u (Some v) None p q k n e = absurd (told_some (nullability_of t) n)
value_same t u (Some v) (Some w) p q k n e =
    let one : t ≡ u = dtype_same t u p.plain q.plain k (told_same (nullability_of t) (nullability_of u) n) in
    let q' : IsStoredValue t (Some w) = subst (λ (x : DType). IsStoredValue x (Some w)) (sym one) q in
    (one, ap Some (some_same t v w p q' (e ∙ ap (λ (x : DType). some_bytes x w) (sym one))))

-- a value with these bytes is written so, and has these items
told_as : (kind : ℕ) (validity : ValidityForm) (items bytes : List ℕ) (scalar : ScalarForm) → length bytes < 2 ^ 64 → HasLength validity 0 → bytes ≡ flat_fields validity items → IsValueIn kind bytes scalar → (validity ≡ value_validity (nullability_of scalar.dtype) scalar.value) × (items ≡ value_bytes scalar.dtype scalar.value)
told_as kind validity items bytes scalar lt len b h =
    flat_same validity (value_validity (nullability_of scalar.dtype) scalar.value) 0 items (value_bytes scalar.dtype scalar.value) (omega arith) len (told_length (nullability_of scalar.dtype) scalar.value) (items_small validity items bytes lt b) (items_small (value_validity (nullability_of scalar.dtype) scalar.value) (value_bytes scalar.dtype scalar.value) bytes lt h.spelt) (sym b ∙ h.spelt)

pub value_one : (kind : ℕ) (bytes : List ℕ) (s u : ScalarForm) → length bytes < 2 ^ 64 → IsValueIn kind bytes s → IsValueIn kind bytes u → s ≡ u
value_one kind bytes s u lt p q =
    let told = told_as kind (value_validity (nullability_of s.dtype) s.value) (value_bytes s.dtype s.value) bytes u lt (told_length (nullability_of s.dtype) s.value) p.spelt q in
    let same = value_same s.dtype u.dtype s.value u.value p.stored q.stored (p.kind_is ∙ sym q.kind_is) told.0 told.1 in
    λ i. record { dtype = same.0 i; value = same.1 i }

-- ---- what is read

pub no_told : (kind : ℕ) (bytes : List ℕ) → length bytes < 2 ^ 64 → AreNoFlatFields 0 bytes → HasNoValueIn kind bytes
no_told kind bytes lt absent = record {
  none = λ s h. absent.none (value_validity (nullability_of s.dtype) s.value) (value_bytes s.dtype s.value) (told_length (nullability_of s.dtype) s.value) (items_small (value_validity (nullability_of s.dtype) s.value) (value_bytes s.dtype s.value) bytes lt h.spelt) h.spelt;
}

pub by_bits : (kind : ℕ) (bits : List Bool) (items bytes : List ℕ) → length bytes < 2 ^ 64 → HasLength (ByBits bits) 0 → bytes ≡ flat_fields (ByBits bits) items → HasNoValueIn kind bytes
by_bits kind bits items bytes lt len b = record {
  none = λ s h. no_bits_told bits (nullability_of s.dtype) s.value (told_as kind (ByBits bits) items bytes s lt len b h).0;
}

null_at : (kind : ℕ) (items : List ℕ) (t : DType) (v : Option FlatValue) → kind_number t ≡ kind → IsStoredValue t v → AllNull ≡ value_validity (nullability_of t) v → items ≡ value_bytes t v → IsNullOf kind items (record { dtype = t; value = v })
null_at kind items t None k p n e = record { is = refl; kind_is = k; stored = p; spelt = e }
null_at kind items t (Some v) k p n e = absurd (told_some (nullability_of t) (sym n))

pub no_null : (kind : ℕ) (items bytes : List ℕ) → length bytes < 2 ^ 64 → bytes ≡ flat_fields AllNull items → HasNoNullOf kind items → HasNoValueIn kind bytes
no_null kind items bytes lt b absent = record {
  none = λ s h.
      let told = told_as kind AllNull items bytes s lt tt b h in
      absent.none s (null_at kind items s.dtype s.value h.kind_is h.stored told.0 told.1);
}

pub is_null : (kind : ℕ) (items bytes : List ℕ) (s : ScalarForm) → bytes ≡ flat_fields AllNull items → IsNullOf kind items s → IsValueIn kind bytes s
is_null kind items bytes s b h = record {
  kind_is = h.kind_is;
  stored = subst (λ (v : Option FlatValue). IsStoredValue s.dtype v) (sym h.is) h.stored;
  spelt = b ∙ ap (λ (x : List ℕ). flat_fields AllNull x) h.spelt ∙ ap (λ (v : Option FlatValue). value_fields s.dtype v) (sym h.is);
}

some_at : (kind : ℕ) (n : Nullability) (items : List ℕ) (t : DType) (v : Option FlatValue) → kind_number t ≡ kind → IsStoredValue t v → some_validity n ≡ value_validity (nullability_of t) v → items ≡ value_bytes t v → IsSomeOf kind n items (record { dtype = t; value = v })
some_at kind n items t None k p told e = absurd (told_some n told)
some_at kind n items t (Some v) k p told e = record { value = v; is = refl; kind_is = k; nullability = sym (told_same n (nullability_of t) told); stored = p; spelt = sym e }

pub no_some : (kind : ℕ) (n : Nullability) (items bytes : List ℕ) → length bytes < 2 ^ 64 → bytes ≡ flat_fields (some_validity n) items → HasNoSomeOf kind n items → HasNoValueIn kind bytes
no_some kind n items bytes lt b absent = record {
  none = λ s h.
      let told = told_as kind (some_validity n) items bytes s lt (some_length n) b h in
      absent.none s (some_at kind n items s.dtype s.value h.kind_is h.stored told.0 told.1);
}

pub is_some : (kind : ℕ) (n : Nullability) (items bytes : List ℕ) (s : ScalarForm) → bytes ≡ flat_fields (some_validity n) items → IsSomeOf kind n items s → IsValueIn kind bytes s
is_some kind n items bytes s b h = record {
  kind_is = h.kind_is;
  stored = subst (λ (v : Option FlatValue). IsStoredValue s.dtype v) (sym h.is) h.stored;
  spelt = b ∙ ap (λ (x : List ℕ). flat_fields (some_validity n) x) (sym h.spelt) ∙ ap (λ (m : Nullability). flat_fields (some_validity m) (some_bytes s.dtype h.value)) (sym h.nullability) ∙ ap (λ (v : Option FlatValue). value_fields s.dtype v) (sym h.is);
}

-- ---- null, and a value

pub bytes_of_null : (kind : ℕ) (bytes : List ℕ) → (length bytes ≡ 0 → ⊥) → HasNoNullOf kind bytes
bytes_of_null kind bytes ne = record { none = λ s h. ne (ap length h.spelt) }

pub no_null_type : (kind : ℕ) (bytes : List ℕ) → HasNoPlainType kind → HasNoNullOf kind bytes
no_null_type kind bytes absent = record { none = λ s h. absent.none s.dtype h.stored.plain h.kind_is }

pub null_of : (kind : ℕ) (bytes : List ℕ) (t : DType) (s : ScalarForm) → length bytes ≡ 0 → IsPlainType t → kind_number t ≡ kind → nullability_of t ≡ Nullable → s ≡ record { dtype = t; value = None } → IsNullOf kind bytes s
null_of kind bytes t s none plain k n is =
    subst (λ (x : ScalarForm). IsNullOf kind bytes x) (sym is) (record {
      is = refl;
      kind_is = k;
      stored = record { plain = plain; typed = subst (λ (m : Nullability). MayBeNull m) (sym n) tt };
      spelt = nil_from_length bytes none;
    })

pub no_some_type : (kind : ℕ) (n : Nullability) (bytes : List ℕ) → HasNoPlainType kind → HasNoSomeOf kind n bytes
no_some_type kind n bytes absent = record { none = λ s h. absent.none s.dtype h.stored.plain h.kind_is }

pub no_some_value : (kind : ℕ) (n : Nullability) (bytes : List ℕ) (t : DType) → IsPlainType t → kind_number t ≡ kind → nullability_of t ≡ n → HasNoValueOf t bytes → HasNoSomeOf kind n bytes
no_some_value kind n bytes t plain k m absent = record {
  none = λ s h.
      let one : s.dtype ≡ t = dtype_same s.dtype t h.stored.plain plain (h.kind_is ∙ sym k) (h.nullability ∙ sym m) in
      absent.none h.value (subst (λ (x : DType). IsStoredValue x (Some h.value)) one h.stored) (ap (λ (x : DType). some_bytes x h.value) (sym one) ∙ h.spelt);
}

pub some_of : (kind : ℕ) (n : Nullability) (bytes : List ℕ) (t : DType) (v : FlatValue) (s : ScalarForm) → kind_number t ≡ kind → nullability_of t ≡ n → IsStoredValue t (Some v) → some_bytes t v ≡ bytes → s ≡ record { dtype = t; value = Some v } → IsSomeOf kind n bytes s
some_of kind n bytes t v s k m h spelt is =
    subst (λ (x : ScalarForm). IsSomeOf kind n bytes x) (sym is) (record { value = v; is = refl; kind_is = k; nullability = m; stored = h; spelt = spelt })
