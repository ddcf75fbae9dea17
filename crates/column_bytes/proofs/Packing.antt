-- A column and the same one with its texts and bytes packed: the rows and the bytes are the same.
use Rattle.std.proofs.Common.{◌≡◌, ℕ, ◌+◌, ◌^◌, ◌<◌, List, ◌++◌, length, map, refl, sym, ap, ◌∙◌, arith}
use Rattle.std.specs.Prelude.{option_map, Option, Some, None, cond, slice_range}
use Rattle.std.specs.List.{range_with_len}
use Rattle.column_base.specs.declared.dtype.DType.{DType}
use Rattle.column_base.specs.declared.dtype.DType.TheVariants as dtype
use Rattle.column_core.specs.Leaf.{Leaf, OfNumbers, OfTruths, OfDecimals, OfVarBins, leaf_rows, leaf_dtype}
use Rattle.column_core.specs.VarBinForm.{varbin_dtype}
use Rattle.column_core.specs.Value.{FlatValue, Value, Single, Items, element_of}
use Rattle.column_fields.specs.Header.{header_bytes}
use Rattle.column_fields.specs.ListFields.{list_fields}
use Rattle.column_fields.specs.Lengths.{lengths_bytes}
use Rattle.column_fields.specs.RunFields.{run_fields}
use Rattle.runend_windows.specs.Window.{run_rows}
use Rattle.runend_array.specs.Lists.{Lists, lists_with, list_count, index_at, row_flag_at, row_nullability}
use Rattle.runend_array.specs.Column.{Column, OfLeaf, OfConstant, OfLists, OfRuns, column_dtype, column_rows, depth, plain_of}
use Rattle.column_bytes.specs.Texts.{packed}
use Rattle.column_bytes.proofs.TextPacking.{AreTexts-packed, packed-packed, same-fields, same-count, varbin_rows-packed}
use Rattle.column_bytes.specs.Bytes.{kind_number, form_number, column_count, column_header, column_body, column_bytes, leaf_fields, leaf_message, index_message, row_validity_field}
use Rattle.column_bytes.specs.Packed.{IsPacked, IsPackedLeaf, packed_leaf, packed_column}
use Rattle.column_bytes.specs.Read.{IsWritable, IsMessage}
use Rattle.column_bytes.specs.Stored.{IsStored, IsStoredLeaf}
use Rattle.column_bytes.proofs.Leaves.{leaf_body}
use Rattle.column_bytes.proofs.Messages.{run_body, lists_body_is, message_one}

leaf_dtype_packed : (leaf : Leaf) → leaf_dtype (packed_leaf leaf) ≡ leaf_dtype leaf
leaf_dtype_packed (OfNumbers form) = refl
leaf_dtype_packed (OfTruths form) = refl
leaf_dtype_packed (OfDecimals form) = refl
leaf_dtype_packed (OfVarBins form) = refl

leaf_rows_packed : (leaf : Leaf) → IsStoredLeaf leaf → leaf_rows (packed_leaf leaf) ≡ leaf_rows leaf
leaf_rows_packed (OfNumbers form) s = refl
leaf_rows_packed (OfTruths form) s = refl
leaf_rows_packed (OfDecimals form) s = refl
leaf_rows_packed (OfVarBins form) s = varbin_rows-packed form s.are.counted

leaf_stored_packed : (leaf : Leaf) → IsStoredLeaf leaf → IsStoredLeaf (packed_leaf leaf)
leaf_stored_packed (OfNumbers form) s = s
leaf_stored_packed (OfTruths form) s = s
leaf_stored_packed (OfDecimals form) s = s
leaf_stored_packed (OfVarBins form) s = AreTexts-packed form s

leaf_is_packed : (leaf : Leaf) → IsStoredLeaf leaf → IsPackedLeaf (packed_leaf leaf)
leaf_is_packed (OfNumbers form) s = tt
leaf_is_packed (OfTruths form) s = tt
leaf_is_packed (OfDecimals form) s = tt
leaf_is_packed (OfVarBins form) s = packed-packed form s.are.counted

leaf_message_packed : (leaf : Leaf) → IsStoredLeaf leaf → leaf_message (packed_leaf leaf) ≡ leaf_message leaf
leaf_message_packed (OfNumbers form) s = refl
leaf_message_packed (OfTruths form) s = refl
leaf_message_packed (OfDecimals form) s = refl
leaf_message_packed (OfVarBins form) s =
    ap (λ (n : ℕ). header_bytes (kind_number (varbin_dtype form)) 1 n ++ leaf_fields (OfVarBins (packed form))) (same-count form s.are.counted) ∙ ap (λ (x : List ℕ). header_bytes (kind_number (varbin_dtype form)) 1 (length form.views) ++ x) (same-fields form s.are.counted)

abbrev packed_lists : Lists → Lists
packed_lists lists = lists_with (packed_leaf lists.elements) lists.offsets lists.sizes lists.validity

-- the rows of lists, of what rows of elements there are
abbrev rows_over : Lists → List (Option FlatValue) → List (Option Value)
rows_over lists rows = map (λ (i : ℕ). cond (row_flag_at lists.validity i) (Some (Items (slice_range rows (index_at lists.offsets i) (index_at lists.offsets i + index_at lists.sizes i)))) None) (range_with_len 0 (list_count lists))

dtype_packed : (c : Column) → column_dtype (packed_column c) ≡ column_dtype c
dtype_packed (OfLeaf (OfNumbers form)) = refl
dtype_packed (OfLeaf (OfTruths form)) = refl
dtype_packed (OfLeaf (OfDecimals form)) = refl
dtype_packed (OfLeaf (OfVarBins form)) = refl
dtype_packed (OfConstant constant) = refl
dtype_packed (OfLists lists) = ap (λ (t : DType). dtype.List (element_of t) (row_nullability lists.validity)) (leaf_dtype_packed lists.elements)
dtype_packed (OfRuns ends_type ends values offset count) = dtype_packed values

depth_packed : (c : Column) → depth (packed_column c) ≡ depth c
depth_packed (OfLeaf (OfNumbers form)) = refl
depth_packed (OfLeaf (OfTruths form)) = refl
depth_packed (OfLeaf (OfDecimals form)) = refl
depth_packed (OfLeaf (OfVarBins form)) = refl
depth_packed (OfConstant constant) = refl
depth_packed (OfLists lists) = refl
depth_packed (OfRuns ends_type ends values offset count) = ap (λ (n : ℕ). n + 1) (depth_packed values)

rows_packed : (c : Column) → IsStored c → column_rows (packed_column c) ≡ column_rows c
rows_packed (OfLeaf (OfNumbers form)) s = refl
rows_packed (OfLeaf (OfTruths form)) s = refl
rows_packed (OfLeaf (OfDecimals form)) s = refl
rows_packed (OfLeaf (OfVarBins form)) s = ap (map (option_map (λ (v : FlatValue). Single v))) (varbin_rows-packed form s.are.counted)
rows_packed (OfConstant constant) s = refl
rows_packed (OfLists lists) s = ap (rows_over lists) (leaf_rows_packed lists.elements s.elements)
rows_packed (OfRuns ends_type ends values offset count) s = ap (λ (rows : List (Option Value)). run_rows ends rows offset count) (rows_packed values s.2)

pub plain_packed : (c : Column) → IsStored c → plain_of (packed_column c) ≡ plain_of c
plain_packed c s = λ i. record { dtype = dtype_packed c i; rows = rows_packed c s i }

stored_packed : (c : Column) → IsStored c → IsStored (packed_column c)
stored_packed (OfLeaf (OfNumbers form)) s = s
stored_packed (OfLeaf (OfTruths form)) s = s
stored_packed (OfLeaf (OfDecimals form)) s = s
stored_packed (OfLeaf (OfVarBins form)) s = AreTexts-packed form s
stored_packed (OfConstant constant) s = s
stored_packed (OfLists lists) s = record {
  elements = leaf_stored_packed lists.elements s.elements;
  offsets = s.offsets;
  sizes = s.sizes;
  validity = s.validity;
  are = record {
    sized = s.are.sized;
    flagged = s.are.flagged;
    within = λ i lt valid. omega (arith, s.are.within i lt valid, ap length (leaf_rows_packed lists.elements s.elements));
  };
}
stored_packed (OfRuns ends_type ends values offset count) s =
    (s.0, record { window = s.1.window; paired = ap length (rows_packed values s.2) ∙ s.1.paired }, stored_packed values s.2)

is_packed : (c : Column) → IsStored c → IsPacked (packed_column c)
is_packed (OfLeaf (OfNumbers form)) s = tt
is_packed (OfLeaf (OfTruths form)) s = tt
is_packed (OfLeaf (OfDecimals form)) s = tt
is_packed (OfLeaf (OfVarBins form)) s = packed-packed form s.are.counted
is_packed (OfConstant constant) s = tt
is_packed (OfLists lists) s = leaf_is_packed lists.elements s.elements
is_packed (OfRuns ends_type ends values offset count) s = is_packed values s.2

form_packed : (c : Column) → form_number (packed_column c) ≡ form_number c
form_packed (OfLeaf leaf) = refl
form_packed (OfConstant constant) = refl
form_packed (OfLists lists) = refl
form_packed (OfRuns ends_type ends values offset count) = refl

count_packed : (c : Column) → IsStored c → column_count (packed_column c) ≡ column_count c
count_packed (OfLeaf (OfNumbers form)) s = refl
count_packed (OfLeaf (OfTruths form)) s = refl
count_packed (OfLeaf (OfDecimals form)) s = refl
count_packed (OfLeaf (OfVarBins form)) s = same-count form s.are.counted
count_packed (OfConstant constant) s = refl
count_packed (OfLists lists) s = refl
count_packed (OfRuns ends_type ends values offset count) s = refl

header_packed : (c : Column) → IsStored c → column_header (packed_column c) ≡ column_header c
header_packed c s =
    ap (λ t. header_bytes (kind_number t) (form_number (packed_column c)) (column_count (packed_column c))) (dtype_packed c) ∙ ap (λ (n : ℕ). header_bytes (kind_number (column_dtype c)) n (column_count (packed_column c))) (form_packed c) ∙ ap (λ (n : ℕ). header_bytes (kind_number (column_dtype c)) (form_number c) n) (count_packed c s)

body_packed : (c : Column) → IsStored c → column_body (packed_column c) ≡ column_body c
body_packed (OfLeaf (OfNumbers form)) s = refl
body_packed (OfLeaf (OfTruths form)) s = refl
body_packed (OfLeaf (OfDecimals form)) s = refl
body_packed (OfLeaf (OfVarBins form)) s = leaf_body (OfVarBins (packed form)) ∙ same-fields form s.are.counted ∙ sym (leaf_body (OfVarBins form))
body_packed (OfConstant constant) s = refl
body_packed (OfLists lists) s = lists_body_is (packed_lists lists) ∙ ap (λ (x : List ℕ). row_validity_field lists.validity ++ list_fields x (index_message lists.offsets) (index_message lists.sizes)) (leaf_message_packed lists.elements s.elements) ∙ sym (lists_body_is lists)
body_packed (OfRuns ends_type ends values offset count) s =
    let same : column_bytes (packed_column values) ≡ column_bytes values = ap (λ (x : List ℕ). x ++ column_body (packed_column values)) (header_packed values s.2) ∙ ap (λ (x : List ℕ). column_header values ++ x) (body_packed values s.2) in
    run_body ends_type ends (packed_column values) offset count ∙ ap (λ (x : List ℕ). run_fields offset ends_type (lengths_bytes 0 ends) x) same ∙ sym (run_body ends_type ends values offset count)

bytes_packed : (c : Column) → IsStored c → column_bytes (packed_column c) ≡ column_bytes c
bytes_packed c s = ap (λ (x : List ℕ). x ++ column_body (packed_column c)) (header_packed c s) ∙ ap (λ (x : List ℕ). column_header c ++ x) (body_packed c s)

-- what is written of a column is the message of the packed one
pub packed_message : (levels : ℕ) (bytes : List ℕ) (c : Column) → IsWritable levels c → bytes ≡ column_bytes c → IsMessage levels bytes (packed_column c)
packed_message levels bytes c w e = record {
  writable = record { stored = stored_packed c w.stored; shallow = omega (arith, depth_packed c, w.shallow) };
  packed = is_packed c w.stored;
  spelt = e ∙ sym (bytes_packed c w.stored);
}

-- columns with the same bytes have the same rows
pub bytes_tell_rows : (m n : ℕ) (c d : Column) → IsWritable m c → IsWritable n d → length (column_bytes c) < 2 ^ 64 → column_bytes c ≡ column_bytes d → plain_of c ≡ plain_of d
bytes_tell_rows m n c d v w small e =
    let one = message_one m n (column_bytes c) (packed_column c) (packed_column d) small (packed_message m (column_bytes c) c v refl) (packed_message n (column_bytes c) d w e) in
    sym (plain_packed c v.stored) ∙ ap plain_of one ∙ plain_packed d w.stored
