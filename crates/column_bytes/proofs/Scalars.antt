-- Constants of any type are read as they are written, and in no other way.
use Rattle.std.proofs.Common.{◌≡◌, ℕ, ◌^◌, ◌<◌, Option, List, length, refl, sym, subst, ◌∙◌, arith}
use Rattle.std.proofs.lemmas.List.{append-nil}
use Rattle.column_base.specs.declared.dtype.DType.{DType}
use Rattle.column_base.specs.declared.dtype.DType.TheVariants as column
use Rattle.column_core.specs.Value.{FlatValue}
use Rattle.column_core.specs.ScalarForm.{ScalarForm}
use Rattle.runend_array.specs.Column.{Column, Constant, OfLeaf, OfConstant, OfLists, OfRuns}
use Rattle.column_bytes.specs.Bytes.{kind_number, column_body}
use Rattle.column_bytes.specs.Values.{IsPlainType, IsStoredType, value_fields, constant_fields}
use Rattle.column_bytes.specs.Stored.{IsStoredConstant}
use Rattle.column_bytes.specs.Read.{IsBody, IsNoBody, IsScalarIn, HasNoScalarIn, IsValueIn, HasNoValueIn}
use Rattle.column_bytes.proofs.ConstantReads.{value_one}
use Rattle.column_bytes.proofs.DecimalReads.{decimal_one}
use Rattle.column_bytes.proofs.Leaves.{type_at_most}
use Rattle.column_bytes.proofs.NullLists.{list_one}

-- ---- types that their number determines

plain_stored : (t : DType) → IsPlainType t → IsStoredType t
plain_stored (column.Primitive t n) p = p
plain_stored (column.Bool n) p = p
plain_stored (column.Decimal d n) p = absurd p
plain_stored (column.Utf8 n) p = p
plain_stored (column.Binary n) p = p
plain_stored (column.List e n) p = absurd p

stored_plain : (t : DType) → (kind_number t ≡ 10 → ⊥) → (kind_number t ≡ 13 → ⊥) → IsStoredType t → IsPlainType t
stored_plain (column.Primitive t n) d l s = s
stored_plain (column.Bool n) d l s = s
stored_plain (column.Decimal e n) d l s = absurd (d refl)
stored_plain (column.Utf8 n) d l s = s
stored_plain (column.Binary n) d l s = s
stored_plain (column.List e n) d l s = absurd (l refl)

-- they need no more fields
plain_fields : (t : DType) (value : Option FlatValue) → IsPlainType t → constant_fields t value ≡ value_fields t value
plain_fields (column.Primitive t n) value p = append-nil (value_fields (column.Primitive t n) value)
plain_fields (column.Bool n) value p = append-nil (value_fields (column.Bool n) value)
plain_fields (column.Decimal d n) value p = absurd p
plain_fields (column.Utf8 n) value p = append-nil (value_fields (column.Utf8 n) value)
plain_fields (column.Binary n) value p = append-nil (value_fields (column.Binary n) value)
plain_fields (column.List e n) value p = absurd p

pub plain_scalar : (kind : ℕ) (bytes : List ℕ) (s : ScalarForm) → IsValueIn kind bytes s → IsScalarIn kind bytes s
plain_scalar kind bytes s h = record {
  kind_is = h.kind_is;
  stored = record { stored = plain_stored s.dtype h.stored.plain; typed = h.stored.typed };
  spelt = h.spelt ∙ sym (plain_fields s.dtype s.value h.stored.plain);
}

scalar_plain : (kind : ℕ) (bytes : List ℕ) (s : ScalarForm) → (kind ≡ 10 → ⊥) → (kind ≡ 13 → ⊥) → IsScalarIn kind bytes s → IsValueIn kind bytes s
scalar_plain kind bytes s d l h =
    let plain : IsPlainType s.dtype = stored_plain s.dtype (λ e. d (sym h.kind_is ∙ e)) (λ e. l (sym h.kind_is ∙ e)) h.stored.stored in
    record {
      kind_is = h.kind_is;
      stored = record { plain = plain; typed = h.stored.typed };
      spelt = h.spelt ∙ plain_fields s.dtype s.value plain;
    }

pub no_plain : (kind : ℕ) (bytes : List ℕ) → (kind ≡ 10 → ⊥) → (kind ≡ 13 → ⊥) → HasNoValueIn kind bytes → HasNoScalarIn kind bytes
no_plain kind bytes d l absent = record { none = λ s h. absent.none s (scalar_plain kind bytes s d l h) }

-- a number of a type that is known
pub known_scalar : (kind known : ℕ) (bytes : List ℕ) (s : ScalarForm) → kind ≡ known → IsScalarIn known bytes s → IsScalarIn kind bytes s
known_scalar kind known bytes s is h = subst (λ (n : ℕ). IsScalarIn n bytes s) (sym is) h

pub no_known : (kind known : ℕ) (bytes : List ℕ) → kind ≡ known → HasNoScalarIn known bytes → HasNoScalarIn kind bytes
no_known kind known bytes is absent = subst (λ (n : ℕ). HasNoScalarIn n bytes) (sym is) absent

-- ---- one scalar has these bytes

plain_one : (kind : ℕ) (bytes : List ℕ) (s u : ScalarForm) → length bytes < 2 ^ 64 → (kind ≡ 10 → ⊥) → (kind ≡ 13 → ⊥) → IsScalarIn kind bytes s → IsScalarIn kind bytes u → s ≡ u
plain_one kind bytes s u lt d l p q = value_one kind bytes s u lt (scalar_plain kind bytes s d l p) (scalar_plain kind bytes u d l q)

pub scalar_one : (t : DType) (v : Option FlatValue) (kind : ℕ) (bytes : List ℕ) (u : ScalarForm) → length bytes < 2 ^ 64 → IsScalarIn kind bytes (record { dtype = t; value = v }) → IsScalarIn kind bytes u → record { dtype = t; value = v } ≡ u
scalar_one (column.Primitive t n) v kind bytes u lt p q = plain_one kind bytes (record { dtype = column.Primitive t n; value = v }) u lt (λ e. omega (arith, type_at_most t, p.kind_is, e)) (λ e. omega (arith, type_at_most t, p.kind_is, e)) p q
scalar_one (column.Bool n) v kind bytes u lt p q = plain_one kind bytes (record { dtype = column.Bool n; value = v }) u lt (λ e. omega (arith, p.kind_is, e)) (λ e. omega (arith, p.kind_is, e)) p q
scalar_one (column.Decimal d n) v kind bytes u lt p q =
    let is : 10 ≡ kind = p.kind_is in
    decimal_one d n v bytes u lt (known_scalar 10 kind bytes (record { dtype = column.Decimal d n; value = v }) is p) (known_scalar 10 kind bytes u is q)
scalar_one (column.Utf8 n) v kind bytes u lt p q = plain_one kind bytes (record { dtype = column.Utf8 n; value = v }) u lt (λ e. omega (arith, p.kind_is, e)) (λ e. omega (arith, p.kind_is, e)) p q
scalar_one (column.Binary n) v kind bytes u lt p q = plain_one kind bytes (record { dtype = column.Binary n; value = v }) u lt (λ e. omega (arith, p.kind_is, e)) (λ e. omega (arith, p.kind_is, e)) p q
scalar_one (column.List f n) v kind bytes u lt p q =
    let is : 13 ≡ kind = p.kind_is in
    list_one bytes (record { dtype = column.List f n; value = v }) u (known_scalar 13 kind bytes (record { dtype = column.List f n; value = v }) is p) (known_scalar 13 kind bytes u is q)

-- ---- the constant

pub constant_body : (constant : Constant) → column_body (OfConstant constant) ≡ constant_fields constant.dtype constant.value
unfolding column_body
constant_body constant = refl

pub record ConstantAt (kind rows : ℕ) (bytes : List ℕ) (c : Column) : Type 0 where
  pub constant : Constant
  pub is : c ≡ OfConstant constant
  pub count : constant.count ≡ rows
  pub value : IsScalarIn kind bytes (record { dtype = constant.dtype; value = constant.value })

pub constant_at : (c : Column) (levels kind rows : ℕ) (bytes : List ℕ) → IsBody levels kind 3 rows bytes c → ConstantAt kind rows bytes c
constant_at (OfLeaf leaf) levels kind rows bytes h = absurd (omega (arith, h.form_is))
constant_at (OfConstant constant) levels kind rows bytes h = record {
  constant = constant;
  is = refl;
  count = h.rows_is;
  value = record { kind_is = h.kind_is; stored = h.writable.stored.value; spelt = h.spelt ∙ constant_body constant };
}
constant_at (OfLists lists) levels kind rows bytes h = absurd (omega (arith, h.form_is))
constant_at (OfRuns ends_type ends values offset count) levels kind rows bytes h = absurd (omega (arith, h.form_is))

pub no_constant_body : (kind rows : ℕ) (bytes : List ℕ) → HasNoScalarIn kind bytes → (levels : ℕ) → IsNoBody levels kind 3 rows bytes
no_constant_body kind rows bytes absent levels = record { none = λ c h. let at = constant_at c levels kind rows bytes h in absent.none (record { dtype = at.constant.dtype; value = at.constant.value }) at.value }

pub is_constant_body : (kind rows : ℕ) (bytes : List ℕ) (s : ScalarForm) (constant : Constant) → rows < 2 ^ 64 → constant ≡ record { dtype = s.dtype; value = s.value; count = rows } → IsScalarIn kind bytes s → IsBody 0 kind 3 rows bytes (OfConstant constant)
is_constant_body kind rows bytes s constant small is h =
    let own : Constant = record { dtype = s.dtype; value = s.value; count = rows } in
    subst (λ (x : Constant). IsBody 0 kind 3 rows bytes (OfConstant x)) (sym is) (record {
      writable = record { stored = record { value = h.stored; small = small }; shallow = omega arith };
      packed = tt;
      kind_is = h.kind_is;
      form_is = refl;
      rows_is = refl;
      spelt = h.spelt ∙ sym (constant_body own);
    })

pub constant_one : (c d : Constant) → IsStoredConstant c → length (constant_fields c.dtype c.value) < 2 ^ 64 → d.count ≡ c.count → IsScalarIn (kind_number c.dtype) (constant_fields c.dtype c.value) (record { dtype = d.dtype; value = d.value }) → c ≡ d
constant_one c d p lt count h =
    let own : IsScalarIn (kind_number c.dtype) (constant_fields c.dtype c.value) (record { dtype = c.dtype; value = c.value }) = record { kind_is = refl; stored = p.value; spelt = refl } in
    let same = scalar_one c.dtype c.value (kind_number c.dtype) (constant_fields c.dtype c.value) (record { dtype = d.dtype; value = d.value }) lt own h in
    λ i. record { dtype = (same i).dtype; value = (same i).value; count = sym count i }
