-- How many bytes messages have.
use Rattle.std.proofs.Common.{◌≡◌, ℕ, ℤ, ◌+◌, ◌*◌, ◌/◌, ◌^◌, ◌<◌, ◌≤◌, List, [], ◌++◌, length, refl, sym, ap, ◌∙◌, arith, inl, inr}
use Rattle.std.proofs.lemmas.Bool.{cases_lt}
use Rattle.std.proofs.lemmas.List.{length-append}
use Rattle.column_base.specs.declared.dtype.DType.{DType}
use Rattle.column_base.specs.declared.dtype.DType.TheVariants as dtype
use Rattle.column_base.specs.declared.dtype.Nullability.{Nullability}
use Rattle.column_base.specs.Types.{nullability_of}
use Rattle.column_core.specs.Value.{Number}
use Rattle.column_base.specs.declared.dtype.DecimalDType.{DecimalDType}
use Rattle.column_base.specs.declared.dtype.PType.{PType}
use Rattle.column_base.specs.ValidityForm.{ValidityForm, AllNull}
use Rattle.column_core.specs.BoolForm.{BoolForm}
use Rattle.column_core.specs.DecimalForm.{DecimalForm}
use Rattle.column_core.specs.Leaf.{OfNumbers, OfTruths, OfDecimals, OfVarBins}
use Rattle.column_core.specs.PrimitiveForm.{PrimitiveForm}
use Rattle.column_core.specs.ScalarForm.{ScalarForm}
use Rattle.column_core.specs.VarBinForm.{VarBinForm, varbin_dtype}
use Rattle.column_fields.specs.Varint.{varint}
use Rattle.column_fields.specs.BitBytes.{bit_bytes}
use Rattle.column_fields.specs.DecimalBytes.{decimals_bytes}
use Rattle.column_fields.specs.DecimalFields.{decimal_fields, decimal_items, decimal_type}
use Rattle.column_fields.specs.ElementFields.{numbered_type, nullability_number}
use Rattle.column_fields.specs.Field.{number_field, bytes_field}
use Rattle.column_fields.specs.FlatFields.{flat_fields}
use Rattle.column_fields.specs.Header.{header_bytes}
use Rattle.column_fields.specs.Lengths.{lengths_bytes}
use Rattle.column_fields.specs.NumberBytes.{number_bytes, numbers_bytes, size_of}
use Rattle.column_fields.specs.RunFields.{run_fields}
use Rattle.column_fields.specs.Types.{type_number}
use Rattle.column_fields.specs.Validity.{validity_field}
use Rattle.column_fields.proofs.BitReading.{length-bit_bytes}
use Rattle.column_fields.proofs.DecimalLaws.{length-decimals_bytes}
use Rattle.column_fields.proofs.NumberSame.{length-numbers_bytes}
use Rattle.column_fields.proofs.RunFieldLaws.{run_fields_long}
use Rattle.column_fields.proofs.SizeLaws.{bytes_long}
use Rattle.column_bytes.specs.Texts.{text_bytes, text_fields, text_sizes}
use Rattle.runend_array.specs.Column.{Constant, OfLeaf, OfConstant, Runs, column_of_runs, column_dtype}
use Rattle.column_bytes.specs.Bytes.{kind_number, column_bytes}
use Rattle.column_bytes.specs.Values.{some_bytes, some_validity, type_fields, value_fields}
use Rattle.column_bytes.proofs.ConstantWrites.{length-number_bytes}
use Rattle.column_bytes.proofs.Leaves.{leaf_body}
use Rattle.column_bytes.proofs.Messages.{run_body}
use Rattle.column_bytes.proofs.Scalars.{constant_body}

-- a number that is not below another
pub not_below : (a b : ℕ) → (a < b → ⊥) → b ≤ a
not_below a b fails = elim (cases_lt a b) [
  | inl lt ↦ absurd (fails lt)
  | inr ge ↦ ge
]

-- ---- flat columns

pub flat_long : (v : ValidityForm) (items : List ℕ) (count : ℕ) → length items ≡ count → length (validity_field v) + length (varint (7 * 8 + 2) ++ varint count) + count ≡ length (flat_fields v items)
unfolding flat_fields
flat_long v items count is = omega (arith, length-append (validity_field v) (bytes_field 7 items), bytes_long 7 items, ap (λ (n : ℕ). length (varint (7 * 8 + 2) ++ varint n)) is, is)

pub some_long : (v : ValidityForm) (items : List ℕ) → length (flat_fields v items) ≡ length (validity_field v) + length (bytes_field 7 items)
unfolding flat_fields
some_long v items = length-append (validity_field v) (bytes_field 7 items)

-- as many bytes as were counted
pub numbers_counted : (f : PrimitiveForm) (t u : PType) (ns : List ℤ) (rows count : ℕ) → t ≡ f.ptype → u ≡ f.ptype → ns ≡ f.numbers → rows ≡ length f.numbers → count ≡ rows * size_of t → length (numbers_bytes u ns) ≡ count
numbers_counted f t u ns rows count t-is u-is n-is r c =
    let same : numbers_bytes u ns ≡ numbers_bytes f.ptype f.numbers = cc in
    let all : count ≡ length f.numbers * size_of f.ptype = cc in
    ap length same ∙ length-numbers_bytes f.ptype f.numbers ∙ sym all

pub null_long : length (number_field 5 3) + length (varint (7 * 8 + 2) ++ varint 0) ≡ length (flat_fields AllNull [])
unfolding validity_field
null_long = omega (arith, flat_long AllNull [] 0 refl)

decimal_long : (v : ValidityForm) (d : DecimalDType) (items : List ℕ) (count : ℕ) → length items ≡ count → length (validity_field v) + length (varint (7 * 8 + 2) ++ varint count) + count + length (decimal_type d) ≡ length (decimal_fields v d items)
unfolding decimal_fields decimal_items
decimal_long v d items count is = omega (arith, length-append (validity_field v) (bytes_field 7 items ++ decimal_type d), length-append (bytes_field 7 items) (decimal_type d), bytes_long 7 items, ap (λ (n : ℕ). length (varint (7 * 8 + 2) ++ varint n)) is, is)

pub numbers_sized : (f : PrimitiveForm) (t : PType) (v : ValidityForm) (kind rows count head : ℕ) → t ≡ f.ptype → v ≡ f.validity → rows ≡ length f.numbers → kind ≡ type_number t → count ≡ rows * size_of t → head ≡ length (header_bytes kind 1 rows) + length (validity_field v) + length (varint (7 * 8 + 2) ++ varint count) → head + count ≡ length (column_bytes (OfLeaf (OfNumbers f)))
numbers_sized f t v kind rows count head t-is v-is r k c h =
    let items : List ℕ = numbers_bytes f.ptype f.numbers in
    let c' : count ≡ length f.numbers * size_of f.ptype = c ∙ ap (λ (n : ℕ). n * size_of t) r ∙ ap (λ (p : PType). length f.numbers * size_of p) t-is in
    let k' : kind ≡ type_number f.ptype = k ∙ ap type_number t-is in
    let header : header_bytes kind 1 rows ≡ header_bytes (type_number f.ptype) 1 (length f.numbers) = ap (λ (n : ℕ). header_bytes n 1 rows) k' ∙ ap (λ (n : ℕ). header_bytes (type_number f.ptype) 1 n) r in
    let sum : head + count ≡ length (header_bytes (type_number f.ptype) 1 (length f.numbers) ++ flat_fields f.validity items) = omega (arith, h, flat_long f.validity items count (length-numbers_bytes f.ptype f.numbers ∙ sym c'), ap (λ (w : ValidityForm). length (validity_field w)) v-is, ap length header, length-append (header_bytes (type_number f.ptype) 1 (length f.numbers)) (flat_fields f.validity items)) in
    sum ∙ ap (λ (x : List ℕ). length (header_bytes (type_number f.ptype) 1 (length f.numbers) ++ x)) (sym (leaf_body (OfNumbers f)))

pub numbers_past : (f : PrimitiveForm) (t : PType) (rows : ℕ) → t ≡ f.ptype → rows ≡ length f.numbers → 2 ^ 64 ≤ rows * size_of t → 2 ^ 64 ≤ length (column_bytes (OfLeaf (OfNumbers f)))
numbers_past f t rows t-is r le = omega (arith, le, numbers_sized f t f.validity (type_number t) rows (rows * size_of t) _ t-is refl r refl refl refl)

pub truths_sized : (f : BoolForm) (v : ValidityForm) (rows count head : ℕ) → v ≡ f.validity → rows ≡ length f.bits → count ≡ (rows + 7) / 8 → head ≡ length (header_bytes 9 1 rows) + length (validity_field v) + length (varint (7 * 8 + 2) ++ varint count) → head + count ≡ length (column_bytes (OfLeaf (OfTruths f)))
truths_sized f v rows count head v-is r c h =
    let items : List ℕ = bit_bytes f.bits in
    let c' : count ≡ (length f.bits + 7) / 8 = c ∙ ap (λ (n : ℕ). (n + 7) / 8) r in
    let sum : head + count ≡ length (header_bytes 9 1 (length f.bits) ++ flat_fields f.validity items) = omega (arith, h, flat_long f.validity items count (length-bit_bytes f.bits ∙ sym c'), ap (λ (w : ValidityForm). length (validity_field w)) v-is, ap (λ (n : ℕ). length (header_bytes 9 1 n)) r, length-append (header_bytes 9 1 (length f.bits)) (flat_fields f.validity items)) in
    sum ∙ ap (λ (x : List ℕ). length (header_bytes 9 1 (length f.bits) ++ x)) (sym (leaf_body (OfTruths f)))

pub decimals_sized : (f : DecimalForm) (v : ValidityForm) (d : DecimalDType) (rows count head typed : ℕ) → v ≡ f.validity → d ≡ f.decimal → rows ≡ length f.numbers → count ≡ rows * 16 → head ≡ length (header_bytes 10 1 rows) + length (validity_field v) + length (varint (7 * 8 + 2) ++ varint count) → typed ≡ length (decimal_type d) → head + count + typed ≡ length (column_bytes (OfLeaf (OfDecimals f)))
decimals_sized f v d rows count head typed v-is d-is r c h t =
    let items : List ℕ = decimals_bytes f.numbers in
    let sum : head + count + typed ≡ length (header_bytes 10 1 (length f.numbers) ++ decimal_fields f.validity f.decimal items) = omega (arith, h, decimal_long f.validity f.decimal items count (length-decimals_bytes f.numbers ∙ sym (c ∙ ap (λ (n : ℕ). n * 16) r)), ap (λ (w : ValidityForm). length (validity_field w)) v-is, t, ap (λ (x : DecimalDType). length (decimal_type x)) d-is, ap (λ (n : ℕ). length (header_bytes 10 1 n)) r, length-append (header_bytes 10 1 (length f.numbers)) (decimal_fields f.validity f.decimal items)) in
    sum ∙ ap (λ (x : List ℕ). length (header_bytes 10 1 (length f.numbers) ++ x)) (sym (leaf_body (OfDecimals f)))

pub decimals_past : (f : DecimalForm) (rows : ℕ) → rows ≡ length f.numbers → 2 ^ 64 ≤ rows * 16 → 2 ^ 64 ≤ length (column_bytes (OfLeaf (OfDecimals f)))
decimals_past f rows r le = omega (arith, le, decimals_sized f f.validity f.decimal rows (rows * 16) _ _ refl refl r refl refl refl)

pub texts_sized : (f : VarBinForm) (kind rows header fields : ℕ) → kind ≡ kind_number (varbin_dtype f) → rows ≡ length f.views → header ≡ length (header_bytes kind 1 rows) → fields ≡ length (text_fields f.validity (text_sizes f) (text_bytes f)) → header + fields ≡ length (column_bytes (OfLeaf (OfVarBins f)))
texts_sized f kind rows header fields k r h p =
    let sum : header + fields ≡ length (header_bytes (kind_number (varbin_dtype f)) 1 (length f.views) ++ text_fields f.validity (text_sizes f) (text_bytes f)) = omega (arith, h, p, ap (λ (n : ℕ). length (header_bytes n 1 rows)) k, ap (λ (n : ℕ). length (header_bytes (kind_number (varbin_dtype f)) 1 n)) r, length-append (header_bytes (kind_number (varbin_dtype f)) 1 (length f.views)) (text_fields f.validity (text_sizes f) (text_bytes f))) in
    sum ∙ ap (λ (x : List ℕ). length (header_bytes (kind_number (varbin_dtype f)) 1 (length f.views) ++ x)) (sym (leaf_body (OfVarBins f)))

-- ---- runs, constants and lists

pub runs_message : (r : Runs) → length (header_bytes (kind_number (column_dtype r.values)) 2 r.count ++ run_fields r.offset r.ends_type (lengths_bytes 0 r.ends) (column_bytes r.values)) ≡ length (column_bytes (column_of_runs r))
runs_message r = ap (λ (x : List ℕ). length (header_bytes (kind_number (column_dtype r.values)) 2 r.count ++ x)) (sym (run_body r.ends_type r.ends r.values r.offset r.count))

pub runs_sized : (r : Runs) (t : PType) (kind form rows offset header fields : ℕ) (lengths : List ℕ) → t ≡ r.ends_type → kind ≡ kind_number (column_dtype r.values) → form ≡ 2 → rows ≡ r.count → offset ≡ r.offset → lengths ≡ lengths_bytes 0 r.ends → header ≡ length (header_bytes kind form rows) → fields ≡ length (run_fields offset t lengths (column_bytes r.values)) → header + fields ≡ length (column_bytes (column_of_runs r))
runs_sized r t kind form rows offset header fields lengths t-is k f n o l h p =
    let head : header_bytes kind form rows ≡ header_bytes (kind_number (column_dtype r.values)) 2 r.count = cc in
    let body : run_fields offset t lengths (column_bytes r.values) ≡ run_fields r.offset r.ends_type (lengths_bytes 0 r.ends) (column_bytes r.values) = cc in
    let sum : header + fields ≡ length (header_bytes (kind_number (column_dtype r.values)) 2 r.count ++ run_fields r.offset r.ends_type (lengths_bytes 0 r.ends) (column_bytes r.values)) = omega (arith, h, p, ap length head, ap length body, length-append (header_bytes (kind_number (column_dtype r.values)) 2 r.count) (run_fields r.offset r.ends_type (lengths_bytes 0 r.ends) (column_bytes r.values))) in
    sum ∙ runs_message r

-- the header, and the fields with that message
pub runs_parts : (r : Runs) (kind form rows : ℕ) → kind ≡ kind_number (column_dtype r.values) → form ≡ 2 → rows ≡ r.count → length (column_bytes (column_of_runs r)) ≡ length (header_bytes kind form rows) + length (run_fields r.offset r.ends_type (lengths_bytes 0 r.ends) (column_bytes r.values))
runs_parts r kind form rows k f n =
    let head : header_bytes kind form rows ≡ header_bytes (kind_number (column_dtype r.values)) 2 r.count = cc in
    omega (arith, ap length head, runs_message r, length-append (header_bytes (kind_number (column_dtype r.values)) 2 r.count) (run_fields r.offset r.ends_type (lengths_bytes 0 r.ends) (column_bytes r.values)))

pub values_in_fields : (r : Runs) → length (column_bytes r.values) ≤ length (run_fields r.offset r.ends_type (lengths_bytes 0 r.ends) (column_bytes r.values))
values_in_fields r = omega (arith, run_fields_long r.offset r.ends_type (lengths_bytes 0 r.ends) (column_bytes r.values), bytes_long 11 (column_bytes r.values))

-- the message of runs is longer than that of their values
pub values_within : (r : Runs) → length (column_bytes r.values) ≤ length (column_bytes (column_of_runs r))
values_within r =
    omega (arith, length-append (header_bytes (kind_number (column_dtype r.values)) 2 r.count) (run_fields r.offset r.ends_type (lengths_bytes 0 r.ends) (column_bytes r.values)), runs_message r, run_fields_long r.offset r.ends_type (lengths_bytes 0 r.ends) (column_bytes r.values), bytes_long 11 (column_bytes r.values))

pub constant_sized : (constant : Constant) (s : ScalarForm) (t : DType) (kind rows header value typed : ℕ) → s ≡ record { dtype = constant.dtype; value = constant.value } → t ≡ constant.dtype → kind ≡ kind_number constant.dtype → rows ≡ constant.count → header ≡ length (header_bytes kind 3 rows) → value ≡ length (value_fields s.dtype s.value) → typed ≡ length (type_fields t) → header + value + typed ≡ length (column_bytes (OfConstant constant))
constant_sized constant s t kind rows header value typed is t-is k r h v w =
    let head : header_bytes kind 3 rows ≡ header_bytes (kind_number constant.dtype) 3 constant.count = ap (λ (n : ℕ). header_bytes n 3 rows) k ∙ ap (λ (n : ℕ). header_bytes (kind_number constant.dtype) 3 n) r in
    let values : List ℕ = value_fields constant.dtype constant.value in
    let sum : header + value + typed ≡ length (header_bytes (kind_number constant.dtype) 3 constant.count ++ (values ++ type_fields constant.dtype)) = omega (arith, h, v, w, ap length head, ap (λ (x : ScalarForm). length (value_fields x.dtype x.value)) is, ap (λ (x : DType). length (type_fields x)) t-is, length-append (header_bytes (kind_number constant.dtype) 3 constant.count) (values ++ type_fields constant.dtype), length-append values (type_fields constant.dtype)) in
    sum ∙ ap (λ (x : List ℕ). length (header_bytes (kind_number constant.dtype) 3 constant.count ++ x)) (sym (constant_body constant))

pub whole_sized : (t : DType) (p : PType) (n : Nullability) (z : ℤ) (size : ℕ) → t ≡ dtype.Primitive p n → size ≡ size_of p → length (validity_field (some_validity n)) + length (varint (7 * 8 + 2) ++ varint size) + size ≡ length (flat_fields (some_validity (nullability_of t)) (some_bytes t (Number z)))
whole_sized t p n z size is s =
    flat_long (some_validity n) (number_bytes p z) size (length-number_bytes p z ∙ sym s) ∙ ap (λ (x : DType). length (flat_fields (some_validity (nullability_of x)) (some_bytes x (Number z)))) (sym is)

pub numbered_long : (number : ℕ) (n : Nullability) → length (number_field 20 number) + length (number_field 21 (nullability_number n)) ≡ length (numbered_type number n)
unfolding numbered_type
numbered_long number n = sym (length-append (number_field 20 number) (number_field 21 (nullability_number n)))
