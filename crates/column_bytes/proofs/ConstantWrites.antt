-- What is written of a constant is its message.
use Rattle.std.proofs.Common.{◌≡◌, ℕ, ℤ, ◌+◌, ◌*◌, List, [], ◌++◌, length, refl, sym, ap, subst, ◌∙◌, append_assoc}
use Rattle.std.proofs.lemmas.List.{append-nil}
use Rattle.column_base.specs.declared.dtype.PType.{PType}
use Rattle.column_base.specs.declared.dtype.PType.TheVariants.{U8, U16, U32, U64, I8, I16, I32, I64}
use Rattle.column_base.specs.declared.dtype.Nullability.{Nullability}
use Rattle.column_base.specs.declared.dtype.DType.{DType}
use Rattle.column_base.specs.declared.dtype.DType.TheVariants as column
use Rattle.column_base.specs.Types.{HasNumber, nullability_of}
use Rattle.column_base.specs.ValidityForm.{ValidityForm, AllNull}
use Rattle.column_core.specs.ScalarForm.{ScalarForm}
use Rattle.column_core.specs.Value.{Number}
use Rattle.column_fields.specs.Varint.{varint}
use Rattle.column_fields.specs.DecimalBytes.{decimal_bytes}
use Rattle.column_fields.specs.Field.{number_field, bytes_field}
use Rattle.column_fields.specs.FlatFields.{flat_fields}
use Rattle.column_fields.specs.Header.{header_bytes}
use Rattle.column_fields.specs.NumberBytes.{number_bytes, size_of}
use Rattle.column_fields.specs.Validity.{validity_field}
use Rattle.column_fields.proofs.DecimalLaws.{length-decimal_bytes}
use Rattle.column_fields.proofs.FlatFieldLaws.{puts_flat}
use Rattle.runend_array.specs.Column.{Constant, OfConstant}
use Rattle.column_bytes.specs.Bytes.{kind_number, column_bytes}
use Rattle.column_bytes.specs.Values.{IsNumberIn, some_validity, some_bytes, value_fields, type_fields, constant_fields}
use Rattle.column_bytes.proofs.Scalars.{constant_body}

pub puts_constant : (constant : Constant) (s : ScalarForm) (t : DType) (kind rows : ℕ) (old a b new : List ℕ) → s ≡ record { dtype = constant.dtype; value = constant.value } → t ≡ constant.dtype → kind ≡ kind_number constant.dtype → rows ≡ constant.count → a ≡ old ++ header_bytes kind 3 rows → b ≡ a ++ value_fields s.dtype s.value → new ≡ b ++ type_fields t → new ≡ old ++ column_bytes (OfConstant constant)
puts_constant constant s t kind rows old a b new is t-is k r p q w =
    let header : List ℕ = header_bytes (kind_number constant.dtype) 3 constant.count in
    let values : List ℕ = value_fields constant.dtype constant.value in
    let fields : List ℕ = constant_fields constant.dtype constant.value in
    let p' : a ≡ old ++ header = p ∙ ap (λ (n : ℕ). old ++ header_bytes n 3 rows) k ∙ ap (λ (n : ℕ). old ++ header_bytes (kind_number constant.dtype) 3 n) r in
    let q' : b ≡ a ++ values = q ∙ ap (λ (x : ScalarForm). a ++ value_fields x.dtype x.value) is in
    let w' : new ≡ a ++ fields = w ∙ ap (λ (x : DType). b ++ type_fields x) t-is ∙ ap (λ (x : List ℕ). x ++ type_fields constant.dtype) q' ∙ append_assoc a values (type_fields constant.dtype) in
    w' ∙ ap (λ (x : List ℕ). x ++ fields) p' ∙ append_assoc old header fields ∙ ap (λ (x : List ℕ). old ++ (header ++ x)) (sym (constant_body constant))

-- ---- the value

pub puts_null : (old a new : List ℕ) → a ≡ old ++ number_field 5 3 → new ≡ a ++ (varint (7 * 8 + 2) ++ varint 0) → new ≡ old ++ flat_fields AllNull []
unfolding validity_field
puts_null old a new p q = puts_flat AllNull [] 0 old a new new refl p q (sym (append-nil new))

pub puts_some : (v : ValidityForm) (items : List ℕ) (old a new : List ℕ) → a ≡ old ++ validity_field v → new ≡ a ++ bytes_field 7 items → new ≡ old ++ flat_fields v items
unfolding flat_fields
puts_some v items old a new p q = q ∙ ap (λ (x : List ℕ). x ++ bytes_field 7 items) p ∙ append_assoc old (validity_field v) (bytes_field 7 items)

pub length-number_bytes : (p : PType) (z : ℤ) → length (number_bytes p z) ≡ size_of p
length-number_bytes U8 z = refl
length-number_bytes U16 z = refl
length-number_bytes U32 z = refl
length-number_bytes U64 z = refl
length-number_bytes I8 z = refl
length-number_bytes I16 z = refl
length-number_bytes I32 z = refl
length-number_bytes I64 z = refl

pub puts_whole : (t : DType) (p : PType) (n : Nullability) (z : ℤ) (size : ℕ) (old a b new : List ℕ) → t ≡ column.Primitive p n → size ≡ size_of p → a ≡ old ++ validity_field (some_validity n) → b ≡ a ++ (varint (7 * 8 + 2) ++ varint size) → new ≡ b ++ number_bytes p z → new ≡ old ++ flat_fields (some_validity (nullability_of t)) (some_bytes t (Number z))
puts_whole t p n z size old a b new t-is s q r e =
    subst (λ (x : DType). new ≡ old ++ flat_fields (some_validity (nullability_of x)) (some_bytes x (Number z))) (sym t-is) (puts_flat (some_validity n) (number_bytes p z) size old a b new (s ∙ sym (length-number_bytes p z)) q r e)

pub number_in : (t : DType) (p : PType) (n : Nullability) (z : ℤ) → t ≡ column.Primitive p n → IsNumberIn t z → HasNumber p z
number_in t p n z t-is h = subst (λ (x : DType). IsNumberIn x z) t-is h

pub puts_decimal : (n : Nullability) (z : ℤ) (size : ℕ) (old a b new : List ℕ) → size ≡ 16 → a ≡ old ++ validity_field (some_validity n) → b ≡ a ++ (varint (7 * 8 + 2) ++ varint size) → new ≡ b ++ decimal_bytes z → new ≡ old ++ flat_fields (some_validity n) (decimal_bytes z)
puts_decimal n z size old a b new s p q r = puts_flat (some_validity n) (decimal_bytes z) size old a b new (s ∙ sym (length-decimal_bytes z)) p q r
