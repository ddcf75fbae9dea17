-- A column takes at most 24 bytes for each byte of its message.
use Rattle.std.proofs.Common.{◌≡◌, ℕ, suc, ◌+◌, ◌-◌, ◌*◌, ◌/◌, ◌≤◌, Option, Some, None, List, [], ◌∷◌, length, map, pos, refl, sym, ap, ◌∙◌, arith, inl, inr}
use Rattle.std.specs.Prelude.{option_map, sum_by}
use Rattle.std.specs.List.{concat}
use Rattle.std.proofs.lemmas.Bool.{cases_lt, le-ltb, lt-ltb}
use Rattle.std.proofs.lemmas.List.{length-append, length-map}
use Rattle.std.proofs.lemmas.List.Sums.{sum_by-cons}
use Rattle.column_base.specs.declared.dtype.DType.{DType}
use Rattle.column_base.specs.declared.dtype.DType.TheVariants as dtype
use Rattle.column_base.specs.declared.dtype.PType.{PType}
use Rattle.column_base.specs.declared.dtype.PType.TheVariants.{U8, U16, U32, U64, I8, I16, I32, I64}
use Rattle.column_base.specs.Types.{nullability_of}
use Rattle.column_base.specs.ValidityForm.{ValidityForm, NeverNull, NoneNull, AllNull, ByBits}
use Rattle.column_core.specs.BoolForm.{bool_with}
use Rattle.column_core.specs.Leaf.{Leaf, OfNumbers, OfTruths, OfDecimals, OfVarBins, leaf_dtype, single_rows}
use Rattle.column_core.specs.Value.{FlatValue, Truth, Number, DecimalNumber, Text, Bytes, Value, Single, Items, IsRowOf}
use Rattle.column_core.specs.VarBinForm.{varbin_dtype}
use Rattle.column_fields.specs.Varint.{varint, varint_within}
use Rattle.column_fields.specs.Field.{number_field, bytes_field}
use Rattle.column_fields.specs.Header.{header_bytes}
use Rattle.column_fields.specs.Lengths.{lengths_bytes}
use Rattle.column_fields.specs.ListFields.{list_fields}
use Rattle.column_fields.specs.NumberBytes.{size_of}
use Rattle.column_fields.specs.RunFields.{run_fields}
use Rattle.column_fields.specs.Types.{type_number}
use Rattle.column_fields.specs.Validity.{validity_field}
use Rattle.column_fields.proofs.LengthLaws.{lengths_cons}
use Rattle.column_fields.proofs.ListFieldLaws.{list_fields_long}
use Rattle.column_fields.proofs.RunFieldLaws.{run_fields_long}
use Rattle.column_fields.proofs.SizeLaws.{bits_long, bytes_long, header_long, number_long}
use Rattle.column_bytes.specs.Texts.{shown_row, sizes_bytes, text_bytes, text_fields, text_sizes}
use Rattle.column_bytes.proofs.TextPacking.{count-sizes}
use Rattle.column_bytes.proofs.TextSizes.{sizes_cons}
use Rattle.column_bytes.proofs.TextLaws.{text_fields_long}
use Rattle.runend_column.specs.BytesUsed as used
use Rattle.runend_array.specs.Lists.{Index, PlainIndex, RunIndex, RowValidityForm, ByRows, ByRuns, Lists}
use Rattle.runend_array.specs.Column.{Column, OfLeaf, OfConstant, OfLists, OfRuns, column_dtype}
use Rattle.column_bytes.specs.Bytes.{column_body, column_bytes, column_count, column_header, form_number, index_form, index_message, kind_number, leaf_message, leaf_runs_message, lists_body, row_validity_field}
use Rattle.column_bytes.specs.Read.{IsMessage}
use Rattle.column_bytes.specs.Stored.{AreStoredLists, IsStored, IsStoredIndex, IsStoredLeaf, IsStoredValidity}
use Rattle.column_bytes.specs.Values.{constant_fields, type_fields, value_bytes, value_fields, value_validity}
use Rattle.column_bytes.proofs.Messages.{leaf_bytes, lists_body_is, run_body}
use Rattle.column_bytes.proofs.MessageSizes.{decimals_sized, flat_long, numbers_sized, texts_sized, truths_sized}
use Rattle.column_bytes.proofs.Scalars.{constant_body}

-- ---- varints: each has a byte

within_long : (n most : ℕ) → 1 ≤ length (varint_within (suc most) n)
unfolding varint_within
within_long n most = elim (cases_lt n 128) [
  | inl lt ↦ rw (lt-ltb n 128 lt) (omega arith)
  | inr ge ↦ rw (le-ltb n 128 ge) (omega arith)
]

varint_long : (n : ℕ) → 1 ≤ length (varint n)
unfolding varint
varint_long n = within_long n 9

ends_long : (start : ℕ) (ends : List ℕ) → length ends ≤ length (lengths_bytes start ends)
ends_long start [] = omega arith
ends_long start (end ∷ ends) =
    let rest = ends_long end ends in
    omega (arith, ap length (lengths_cons start end ends), length-append (varint (end - start)) (lengths_bytes end ends), varint_long (end - start))

sizes_long : (sizes : List ℕ) → length sizes ≤ length (sizes_bytes sizes)
sizes_long [] = omega arith
sizes_long (size ∷ sizes) =
    let rest = sizes_long sizes in
    omega (arith, ap length (sizes_cons size sizes), length-append (varint size) (sizes_bytes sizes), varint_long size)

header_some : (kind form rows : ℕ) → 1 ≤ length (header_bytes kind form rows)
header_some kind form rows = omega (arith, header_long kind form rows, number_long 1 1, varint_long 1)

-- ---- numbers, and ends of runs

width_is : (t : PType) → used.width_of t ≡ size_of t
width_is U8 = refl
width_is U16 = refl
width_is U32 = refl
width_is U64 = refl
width_is I8 = refl
width_is I16 = refl
width_is I32 = refl
width_is I64 = refl

width_small : (t : PType) → used.width_of t ≤ 8
width_small U8 = omega arith
width_small U16 = omega arith
width_small U32 = omega arith
width_small U64 = omega arith
width_small I8 = omega arith
width_small I16 = omega arith
width_small I32 = omega arith
width_small I64 = omega arith

ends_within : (t : PType) (count : ℕ) → count * used.width_of t ≤ 8 * count
ends_within U8 count = omega arith
ends_within U16 count = omega arith
ends_within U32 count = omega arith
ends_within U64 count = omega arith
ends_within I8 count = omega arith
ends_within I16 count = omega arith
ends_within I32 count = omega arith
ends_within I64 count = omega arith

ends_taken : (t : PType) (ends : List ℕ) → length ends * used.width_of t ≤ 8 * length (lengths_bytes 0 ends)
ends_taken t ends = omega (arith, ends_within t (length ends), ends_long 0 ends)

-- ---- flat columns

validity_taken : (v : ValidityForm) → used.validity_bytes v ≤ length (validity_field v)
validity_taken NeverNull = omega arith
validity_taken NoneNull = omega arith
validity_taken AllNull = omega arith
validity_taken (ByBits bits) = omega (arith, bits_long bits ((length bits + 7) / 8) refl)

row_shown : (row : Option Value) → used.text_length row ≡ length (shown_row row)
row_shown None = refl
row_shown (Some (Single (Truth b))) = refl
row_shown (Some (Single (Number z))) = refl
row_shown (Some (Single (DecimalNumber z))) = refl
row_shown (Some (Single (Text bytes))) = refl
row_shown (Some (Single (Bytes bytes))) = refl
row_shown (Some (Items items)) = refl

rows_shown : (rows : List (Option Value)) → sum_by used.text_length rows ≡ length (concat (map shown_row rows))
rows_shown [] = refl
rows_shown (row ∷ rows) =
    sum_by-cons used.text_length row rows ∙ ap (λ (n : ℕ). n + sum_by used.text_length rows) (row_shown row) ∙ ap (λ (n : ℕ). length (shown_row row) + n) (rows_shown rows) ∙ sym (length-append (shown_row row) (concat (map shown_row rows)))

pub leaf_taken : (leaf : Leaf) → IsStoredLeaf leaf → used.leaf_bytes leaf ≤ 24 * length (leaf_message leaf)
leaf_taken (OfNumbers form) s =
    let size : ℕ = length form.numbers * size_of form.ptype in
    let same : length form.numbers * used.width_of form.ptype ≡ size = ap (λ (n : ℕ). length form.numbers * n) (width_is form.ptype) in
    omega (arith, same, numbers_sized form form.ptype form.validity (type_number form.ptype) (length form.numbers) size _ refl refl refl refl refl refl, validity_taken form.validity, ap length (leaf_bytes (OfNumbers form)))
leaf_taken (OfTruths form) s =
    omega (arith, truths_sized form form.validity (length form.bits) ((length form.bits + 7) / 8) _ refl refl refl refl, validity_taken form.validity, ap length (leaf_bytes (OfTruths form)))
leaf_taken (OfDecimals form) s =
    omega (arith, decimals_sized form form.validity form.decimal (length form.numbers) (length form.numbers * 16) _ _ refl refl refl refl refl refl, validity_taken form.validity, ap length (leaf_bytes (OfDecimals form)))
leaf_taken (OfVarBins form) s =
    let fields : List ℕ = text_fields form.validity (text_sizes form) (text_bytes form) in
    let whole = texts_sized form (kind_number (varbin_dtype form)) (length form.views) _ (length fields) refl refl refl refl in
    let views : length form.views ≤ length (sizes_bytes (text_sizes form)) = omega (arith, count-sizes form s.are.counted, sizes_long (text_sizes form)) in
    omega (arith, whole, views, rows_shown (single_rows (OfVarBins form)), text_fields_long form, bytes_long 12 (sizes_bytes (text_sizes form)), bytes_long 13 (text_bytes form), validity_taken form.validity, ap length (leaf_bytes (OfVarBins form)))

leaf_runs_taken : (t : PType) (ends : List ℕ) (leaf : Leaf) (offset count : ℕ) → IsStoredLeaf leaf → length ends * used.width_of t + used.leaf_bytes leaf ≤ 24 * length (leaf_runs_message t ends leaf offset count)
leaf_runs_taken t ends leaf offset count s =
    let fields : List ℕ = run_fields offset t (lengths_bytes 0 ends) (leaf_message leaf) in
    omega (arith, ends_taken t ends, leaf_taken leaf s, length-append (header_bytes (kind_number (leaf_dtype leaf)) 2 count) fields, run_fields_long offset t (lengths_bytes 0 ends) (leaf_message leaf), bytes_long 10 (lengths_bytes 0 ends), bytes_long 11 (leaf_message leaf))

-- ---- lists

index_taken : (index : Index) → IsStoredIndex index → used.index_bytes index ≤ 24 * length (index_message index)
index_taken (PlainIndex numbers) s =
    omega (arith, leaf_taken (OfNumbers (index_form numbers)) s, length-map numbers (λ (n : ℕ). pos n))
index_taken (RunIndex t ends numbers offset count) s =
    omega (arith, leaf_runs_taken t ends (OfNumbers (index_form numbers)) offset count s.stored, length-map numbers (λ (n : ℕ). pos n))

flags_taken : (form : RowValidityForm) → IsStoredValidity form → used.row_validity_bytes form ≤ 24 * length (row_validity_field form)
flags_taken (ByRows form) s = omega (arith, validity_taken form)
flags_taken (ByRuns t ends bits offset count) s =
    let message : List ℕ = leaf_runs_message t ends (OfTruths (bool_with bits NeverNull)) offset count in
    omega (arith, leaf_runs_taken t ends (OfTruths (bool_with bits NeverNull)) offset count s.stored, length-append (number_field 5 5) (bytes_field 16 message), bytes_long 16 message)

lists_taken : (lists : Lists) → AreStoredLists lists → used.lists_bytes lists ≤ 24 * length (lists_body lists)
lists_taken lists s =
    let elements : List ℕ = leaf_message lists.elements in
    let offsets : List ℕ = index_message lists.offsets in
    let sizes : List ℕ = index_message lists.sizes in
    omega (arith, leaf_taken lists.elements s.elements, index_taken lists.offsets s.offsets, index_taken lists.sizes s.sizes, flags_taken lists.validity s.validity, length-append (row_validity_field lists.validity) (list_fields elements offsets sizes), list_fields_long elements offsets sizes, bytes_long 17 elements, bytes_long 18 offsets, bytes_long 19 sizes)

-- ---- constants

number_small : (t : DType) → used.number_width t ≤ 8
number_small (dtype.Primitive t n) = width_small t
number_small (dtype.Bool n) = omega arith
number_small (dtype.Decimal d n) = omega arith
number_small (dtype.Utf8 n) = omega arith
number_small (dtype.Binary n) = omega arith
number_small (dtype.List e n) = omega arith

fields_long : (t : DType) (v : Option FlatValue) → length (value_bytes t v) ≤ length (constant_fields t v)
fields_long t v =
    omega (arith, flat_long (value_validity (nullability_of t) v) (value_bytes t v) (length (value_bytes t v)) refl, length-append (value_fields t v) (type_fields t))

value_taken : (t : DType) (v : Option FlatValue) → IsRowOf t (option_map Single v) → used.value_bytes t v ≤ 16 + length (constant_fields t v)
value_taken t None typed = omega arith
value_taken t (Some (Truth b)) typed = omega arith
value_taken t (Some (Number z)) typed = omega (arith, number_small t)
value_taken t (Some (DecimalNumber z)) typed = omega arith
value_taken (dtype.Utf8 n) (Some (Text bytes)) typed = omega (arith, fields_long (dtype.Utf8 n) (Some (Text bytes)))
value_taken (dtype.Binary n) (Some (Text bytes)) typed = absurd typed
value_taken (dtype.Bool n) (Some (Text bytes)) typed = absurd typed
value_taken (dtype.Primitive t n) (Some (Text bytes)) typed = absurd typed
value_taken (dtype.Decimal d n) (Some (Text bytes)) typed = absurd typed
value_taken (dtype.List e n) (Some (Text bytes)) typed = absurd typed
value_taken (dtype.Binary n) (Some (Bytes bytes)) typed = omega (arith, fields_long (dtype.Binary n) (Some (Bytes bytes)))
value_taken (dtype.Utf8 n) (Some (Bytes bytes)) typed = absurd typed
value_taken (dtype.Bool n) (Some (Bytes bytes)) typed = absurd typed
value_taken (dtype.Primitive t n) (Some (Bytes bytes)) typed = absurd typed
value_taken (dtype.Decimal d n) (Some (Bytes bytes)) typed = absurd typed
value_taken (dtype.List e n) (Some (Bytes bytes)) typed = absurd typed

-- ---- a column

body_long : (c : Column) → length (column_body c) + 1 ≤ length (column_bytes c)
body_long c = omega (arith, length-append (column_header c) (column_body c), header_some (kind_number (column_dtype c)) (form_number c) (column_count c))

pub column_taken : (c : Column) → IsStored c → used.column_bytes c ≤ 24 * length (column_bytes c)
column_taken (OfLeaf leaf) s = omega (arith, leaf_taken leaf s, ap length (leaf_bytes leaf))
column_taken (OfConstant constant) s =
    omega (arith, value_taken constant.dtype constant.value s.value.typed, ap length (constant_body constant), body_long (OfConstant constant))
column_taken (OfLists lists) s = omega (arith, lists_taken lists s, ap length (lists_body_is lists), body_long (OfLists lists))
column_taken (OfRuns t ends values offset count) s =
    omega (arith, ends_taken t ends, column_taken values s.2, ap length (run_body t ends values offset count), body_long (OfRuns t ends values offset count), run_fields_long offset t (lengths_bytes 0 ends) (column_bytes values), bytes_long 10 (lengths_bytes 0 ends), bytes_long 11 (column_bytes values))

pub read_taken : (levels : ℕ) (bytes : List ℕ) (c : Column) → IsMessage levels bytes c → used.column_bytes c ≤ 24 * length bytes
read_taken levels bytes c m = omega (arith, column_taken c m.writable.stored, ap length m.spelt)
