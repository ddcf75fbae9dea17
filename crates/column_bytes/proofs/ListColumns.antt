-- Offsets, sizes and flags of lists, as columns of their own, and how lists are written.
use Rattle.std.proofs.Common.{◌≡◌, ℕ, ℤ, pos, negsuc, ◌+◌, ◌*◌, ◌≤◌, List, [], ◌∷◌, ◌++◌, length, map, All, refl, sym, ap, subst, ◌∙◌, arith, append_assoc}
use Rattle.std.specs.Prelude.{unsigned_abs}
use Rattle.std.specs.List.{AllByRecursion}
use Rattle.std.proofs.lemmas.Int.{ints}
use Rattle.std.proofs.lemmas.List.{length-append}
use Rattle.std.proofs.lemmas.List.Elements.{recursion_from_All}
use Rattle.column_base.specs.declared.dtype.Nullability.{Nullability}
use Rattle.column_base.specs.declared.dtype.Nullability.TheVariants.{NonNullable}
use Rattle.column_base.specs.declared.dtype.DType.TheVariants as dtype
use Rattle.column_base.specs.declared.dtype.PType.{PType}
use Rattle.column_base.specs.declared.dtype.PType.TheVariants.{U64}
use Rattle.column_base.specs.Types.{HasNumber}
use Rattle.column_base.specs.ValidityForm.{ValidityForm, NeverNull, NoneNull, AllNull, ByBits, nullability_in}
use Rattle.column_core.specs.declared.varbinview.VarBinKind.{VarBinKind}
use Rattle.column_core.specs.declared.varbinview.VarBinKind.TheVariants.{Utf8, Binary}
use Rattle.column_core.specs.VarBinForm.{kind_dtype}
use Rattle.column_core.specs.PrimitiveForm.{primitive_with}
use Rattle.column_core.specs.BoolForm.{bool_with}
use Rattle.column_core.specs.Leaf.{Leaf, OfNumbers, OfTruths, OfDecimals, OfVarBins}
use Rattle.column_fields.specs.Varint.{varint}
use Rattle.column_fields.specs.Field.{number_field, bytes_field}
use Rattle.column_fields.specs.Header.{header_bytes}
use Rattle.column_fields.specs.ListFields.{list_fields}
use Rattle.column_fields.proofs.LengthLaws.{puts_bytes}
use Rattle.column_fields.proofs.ListFieldLaws.{list_fields_long}
use Rattle.column_fields.proofs.SizeLaws.{bytes_long}
use Rattle.runend_array.specs.Lists.{Index, PlainIndex, RunIndex, RowValidityForm, Lists, AreLists, list_count, lists_depth}
use Rattle.runend_array.specs.Column.{Column, OfLeaf, OfConstant, OfLists, OfRuns, Runs, IsPlainIndex, IsIndex, IsPlainTruths, column_of_runs, end_numbers, index_of, runs_validity, truths_of}
use Rattle.column_bytes.specs.Bytes.{column_bytes, leaf_message, index_form, index_message, row_validity_field}
use Rattle.column_bytes.specs.Read.{IsWritable}
use Rattle.column_bytes.specs.Stored.{IsStored, IsStoredLeaf, IsStoredIndex, IsStoredValidity}
use Rattle.column_bytes.proofs.Messages.{flags_column, index_bytes, index_column, leaf_bytes, lists_body_is, runs_bytes}

never : (v : ValidityForm) → nullability_in v ≡ NonNullable → v ≡ NeverNull
never NeverNull h = refl
never NoneNull h = cc
never AllNull h = cc
never (ByBits bits) h = cc

kind-no_numbers : (kind : VarBinKind) (n : Nullability) → ¬ (kind_dtype kind n ≡ dtype.Primitive U64 NonNullable)
kind-no_numbers Utf8 n e = cc
kind-no_numbers Binary n e = cc

kind-no_truths : (kind : VarBinKind) (n : Nullability) → ¬ (kind_dtype kind n ≡ dtype.Bool NonNullable)
kind-no_truths Utf8 n e = cc
kind-no_truths Binary n e = cc

magnitude : (z : ℤ) → HasNumber U64 z → pos (unsigned_abs z) ≡ z
magnitude (pos n) h = refl
magnitude (negsuc n) h = absurd (omega (arith, ints, h.0))

pub magnitudes : (zs : List ℤ) → AllByRecursion (λ z. HasNumber U64 z) zs → map (λ (n : ℕ). pos n) (map unsigned_abs zs) ≡ zs
magnitudes [] h = refl
magnitudes (z ∷ zs) h = ap (λ (x : ℤ). x ∷ map (λ (n : ℕ). pos n) (map unsigned_abs zs)) (magnitude z h.0) ∙ ap (λ (xs : List ℤ). z ∷ xs) (magnitudes zs h.1)

-- flat numbers of 64 bits without null are their numbers
index_whole : (c : Column) → IsPlainIndex c → IsStored c → c ≡ OfLeaf (OfNumbers (index_form (end_numbers c)))
index_whole (OfLeaf (OfNumbers form)) h s =
    let wide : form.ptype ≡ U64 = cc in
    let required : nullability_in form.validity ≡ NonNullable = cc in
    let fit = recursion_from_All (λ z. HasNumber U64 z) form.numbers (subst (λ (t : PType). All (λ z. HasNumber t z) form.numbers) wide s.fit) in
    ap (λ (t : PType). OfLeaf (OfNumbers (primitive_with t form.numbers form.validity))) wide ∙ ap (λ (v : ValidityForm). OfLeaf (OfNumbers (primitive_with U64 form.numbers v))) (never form.validity required) ∙ ap (λ (zs : List ℤ). OfLeaf (OfNumbers (primitive_with U64 zs NeverNull))) (sym (magnitudes form.numbers fit))
index_whole (OfLeaf (OfTruths form)) h s = cc
index_whole (OfLeaf (OfDecimals form)) h s = cc
index_whole (OfLeaf (OfVarBins form)) h s = absurd (kind-no_numbers form.kind _ h)
index_whole (OfConstant constant) h s = absurd h
index_whole (OfLists lists) h s = absurd h
index_whole (OfRuns t ends values offset count) h s = absurd h

-- flat booleans without null are their bits
truths_whole : (c : Column) → IsPlainTruths c → c ≡ OfLeaf (OfTruths (bool_with (truths_of c) NeverNull))
truths_whole (OfLeaf (OfNumbers form)) h = cc
truths_whole (OfLeaf (OfTruths form)) h =
    let required : nullability_in form.validity ≡ NonNullable = cc in
    ap (λ (v : ValidityForm). OfLeaf (OfTruths (bool_with form.bits v))) (never form.validity required)
truths_whole (OfLeaf (OfDecimals form)) h = cc
truths_whole (OfLeaf (OfVarBins form)) h = absurd (kind-no_truths form.kind _ h)
truths_whole (OfConstant constant) h = absurd h
truths_whole (OfLists lists) h = absurd h
truths_whole (OfRuns t ends values offset count) h = absurd h

-- ---- offsets and sizes

-- offsets or sizes that have bytes are those of their numbers
pub index_is : (c : Column) → IsIndex c → IsStored c → c ≡ index_column (index_of c)
index_is (OfLeaf leaf) h s = index_whole (OfLeaf leaf) h s
index_is (OfConstant constant) h s = absurd h
index_is (OfLists lists) h s = absurd h
index_is (OfRuns t ends values offset count) h s = ap (λ (v : Column). OfRuns t ends v offset count) (index_whole values h s.2)

pub index_stored_at : (index : Index) → IsStored (index_column index) → IsStoredIndex index
index_stored_at (PlainIndex numbers) s = s
index_stored_at (RunIndex t ends numbers offset count) s = record { fit = s.0; runs = s.1; stored = s.2 }

pub index_stored : (index : Index) (c : Column) → IsIndex c → index_of c ≡ index → IsStored c → IsStoredIndex index
index_stored index c h is s = index_stored_at index (subst IsStored (index_is c h s ∙ ap index_column is) s)

-- ---- validity

pub flags_are : (r : Runs) → IsPlainTruths r.values → column_of_runs r ≡ flags_column r.ends_type r.ends (truths_of r.values) r.offset r.count
flags_are r h = ap (λ (v : Column). OfRuns r.ends_type r.ends v r.offset r.count) (truths_whole r.values h)

flags_stored_at : (r : Runs) → IsStored (flags_column r.ends_type r.ends (truths_of r.values) r.offset r.count) → IsStoredValidity (runs_validity r)
flags_stored_at r s = record { fit = s.0; runs = s.1; stored = s.2 }

pub flags_stored : (r : Runs) → IsPlainTruths r.values → IsStored (column_of_runs r) → IsStoredValidity (runs_validity r)
flags_stored r h s = flags_stored_at r (subst IsStored (flags_are r h) s)

pub flags_bytes : (r : Runs) (seen : List ℕ) → IsPlainTruths r.values → seen ≡ column_bytes (column_of_runs r) → number_field 5 5 ++ bytes_field 16 seen ≡ row_validity_field (runs_validity r)
flags_bytes r seen h e =
    ap (λ (x : List ℕ). number_field 5 5 ++ bytes_field 16 x) (e ∙ ap column_bytes (flags_are r h) ∙ runs_bytes r.ends_type r.ends (OfTruths (bool_with (truths_of r.values) NeverNull)) r.offset r.count)

-- ---- lists

pub puts_list_rows : (l : Lists) (v : RowValidityForm) (rows : ℕ) (old a b new : List ℕ) → v ≡ l.validity → rows ≡ list_count l → a ≡ old ++ header_bytes 13 4 rows → b ≡ a ++ row_validity_field v → new ≡ b ++ list_fields (leaf_message l.elements) (index_message l.offsets) (index_message l.sizes) → new ≡ old ++ column_bytes (OfLists l)
puts_list_rows l v rows old a b new is r p q s =
    let header : List ℕ = header_bytes 13 4 (list_count l) in
    let flags : List ℕ = row_validity_field l.validity in
    let parts : List ℕ = list_fields (leaf_message l.elements) (index_message l.offsets) (index_message l.sizes) in
    let begun : a ≡ old ++ header = p ∙ ap (λ (n : ℕ). old ++ header_bytes 13 4 n) r in
    let body : new ≡ a ++ (flags ++ parts) = s ∙ ap (λ (x : List ℕ). x ++ parts) (q ∙ ap (λ (x : RowValidityForm). a ++ row_validity_field x) is) ∙ append_assoc a flags parts in
    body ∙ ap (λ (x : List ℕ). x ++ (flags ++ parts)) begun ∙ append_assoc old header (flags ++ parts) ∙ ap (λ (x : List ℕ). old ++ (header ++ x)) (sym (lists_body_is l))

pub lists_writable : (levels n : ℕ) (l : Lists) → n ≡ lists_depth l → n ≤ levels → IsStoredLeaf l.elements → IsStoredIndex l.offsets → IsStoredIndex l.sizes → IsStoredValidity l.validity → AreLists l → IsWritable levels (OfLists l)
lists_writable levels n l is le e o s v are = record {
  stored = record { elements = e; offsets = o; sizes = s; validity = v; are = are };
  shallow = omega (arith, is, le);
}

-- ---- sizes

pub index_same : (c : Column) → IsIndex c → IsStored c → column_bytes c ≡ index_message (index_of c)
index_same c h s = ap column_bytes (index_is c h s) ∙ index_bytes (index_of c)

pub runs_same : (r : Runs) → IsIndex (column_of_runs r) → IsStored r.values → column_bytes (column_of_runs r) ≡ index_message (index_of (column_of_runs r))
runs_same r h s = ap column_bytes (ap (λ (v : Column). OfRuns r.ends_type r.ends v r.offset r.count) (index_whole r.values h s)) ∙ index_bytes (index_of (column_of_runs r))

pub elements_long : (leaf shown : Leaf) (size : ℕ) → shown ≡ leaf → size ≡ length (column_bytes (OfLeaf shown)) → length (leaf_message leaf) ≡ size
elements_long leaf shown size is s = sym (s ∙ ap length (leaf_bytes shown) ∙ ap (λ (x : Leaf). length (leaf_message x)) is)

pub index_long : (index : Index) (c : Column) (size : ℕ) → index_of c ≡ index → column_bytes c ≡ index_message (index_of c) → size ≡ length (column_bytes c) → length (index_message index) ≡ size
index_long index c size is same s = sym (s ∙ ap length same ∙ ap (λ (x : Index). length (index_message x)) is)

pub flags_sized : (r : Runs) (flags a b : ℕ) → IsPlainTruths r.values → flags ≡ length (column_bytes (column_of_runs r)) → a ≡ length (number_field 5 5) → b ≡ length (varint (16 * 8 + 2) ++ varint flags) → a + b + flags ≡ length (row_validity_field (runs_validity r))
flags_sized r flags a b h f p q =
    let message : List ℕ = column_bytes (column_of_runs r) in
    let sum : a + b + flags ≡ length (number_field 5 5 ++ bytes_field 16 message) = omega (arith, p, q, f, ap (λ (n : ℕ). length (varint (16 * 8 + 2) ++ varint n)) f, bytes_long 16 message, length-append (number_field 5 5) (bytes_field 16 message)) in
    sum ∙ ap length (flags_bytes r message h refl)

pub lists_sized : (l : Lists) (v : RowValidityForm) (rows header validity parts : ℕ) → v ≡ l.validity → rows ≡ list_count l → header ≡ length (header_bytes 13 4 rows) → validity ≡ length (row_validity_field v) → parts ≡ length (list_fields (leaf_message l.elements) (index_message l.offsets) (index_message l.sizes)) → header + validity + parts ≡ length (column_bytes (OfLists l))
lists_sized l v rows header validity parts is r h p q =
    let flags : List ℕ = row_validity_field l.validity in
    let fields : List ℕ = list_fields (leaf_message l.elements) (index_message l.offsets) (index_message l.sizes) in
    let sum : header + validity + parts ≡ length (header_bytes 13 4 (list_count l) ++ (flags ++ fields)) = omega (arith, h, p, q, ap (λ (n : ℕ). length (header_bytes 13 4 n)) r, ap (λ (x : RowValidityForm). length (row_validity_field x)) is, length-append (header_bytes 13 4 (list_count l)) (flags ++ fields), length-append flags fields) in
    sum ∙ ap (λ (x : List ℕ). length (header_bytes 13 4 (list_count l) ++ x)) (sym (lists_body_is l))

-- the fields are longer than each message in them
pub elements_within : (l : Lists) → length (leaf_message l.elements) ≤ length (list_fields (leaf_message l.elements) (index_message l.offsets) (index_message l.sizes))
elements_within l = omega (arith, list_fields_long (leaf_message l.elements) (index_message l.offsets) (index_message l.sizes), bytes_long 17 (leaf_message l.elements))

pub offsets_within : (l : Lists) → length (index_message l.offsets) ≤ length (list_fields (leaf_message l.elements) (index_message l.offsets) (index_message l.sizes))
offsets_within l = omega (arith, list_fields_long (leaf_message l.elements) (index_message l.offsets) (index_message l.sizes), bytes_long 18 (index_message l.offsets))

pub sizes_within : (l : Lists) → length (index_message l.sizes) ≤ length (list_fields (leaf_message l.elements) (index_message l.offsets) (index_message l.sizes))
sizes_within l = omega (arith, list_fields_long (leaf_message l.elements) (index_message l.offsets) (index_message l.sizes), bytes_long 19 (index_message l.sizes))

-- ---- written in place, after a key with their size

pub elements_written : (leaf shown : Leaf) (old new : List ℕ) → shown ≡ leaf → new ≡ old ++ column_bytes (OfLeaf shown) → new ≡ old ++ leaf_message leaf
elements_written leaf shown old new is p = p ∙ ap (λ (x : List ℕ). old ++ x) (leaf_bytes shown ∙ ap leaf_message is)

pub index_field : (field : ℕ) (index : Index) (c : Column) (old new : List ℕ) → IsIndex c → index_of c ≡ index → IsStored c → new ≡ old ++ bytes_field field (column_bytes c) → new ≡ old ++ bytes_field field (index_message index)
index_field field index c old new h is s p = p ∙ ap (λ (x : List ℕ). old ++ bytes_field field x) (index_same c h s ∙ ap index_message is)

pub flags_put : (r : Runs) (flags : ℕ) (old a b new : List ℕ) → IsPlainTruths r.values → flags ≡ length (column_bytes (column_of_runs r)) → a ≡ old ++ number_field 5 5 → b ≡ a ++ (varint (16 * 8 + 2) ++ varint flags) → new ≡ b ++ column_bytes (column_of_runs r) → new ≡ old ++ row_validity_field (runs_validity r)
flags_put r flags old a b new h f p q s =
    let message : List ℕ = column_bytes (column_of_runs r) in
    puts_bytes 16 flags message a b new f q s ∙ ap (λ (x : List ℕ). x ++ bytes_field 16 message) p ∙ append_assoc old (number_field 5 5) (bytes_field 16 message) ∙ ap (λ (x : List ℕ). old ++ x) (flags_bytes r message h refl)
