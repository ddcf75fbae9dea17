-- Messages are read as they are written, and in no other way.
use Rattle.std.proofs.Common.{◌≡◌, ℕ, pos, ◌+◌, ◌*◌, ◌^◌, ◌<◌, ◌≤◌, Bool, true, append_assoc, List, ◌++◌, length, refl, sym, ap, subst, ◌∙◌, arith}
use Rattle.std.proofs.lemmas.List.{length-append, length-map}
use Rattle.column_base.specs.declared.dtype.PType.{PType}
use Rattle.column_base.specs.declared.dtype.DType.{DType}
use Rattle.column_base.specs.declared.dtype.DType.TheVariants as dtype
use Rattle.column_base.specs.ValidityForm.{ValidityForm, NeverNull, HasLength, nullability_in}
use Rattle.column_core.specs.BoolForm.{bool_with}
use Rattle.column_core.specs.Leaf.{Leaf, OfNumbers, OfTruths, OfDecimals, OfVarBins}
use Rattle.column_fields.specs.Varint.{varint}
use Rattle.column_fields.specs.Field.{number_field, bytes_field}
use Rattle.column_fields.specs.Header.{header_bytes, HasNoHeader}
use Rattle.column_fields.specs.Lengths.{lengths_bytes, AreEndsOf, HasNoEndsOf}
use Rattle.column_fields.specs.RunFields.{run_fields, AreNoRunFields}
use Rattle.column_fields.specs.Types.{type_number}
use Rattle.column_fields.specs.ListFields.{list_fields}
use Rattle.column_fields.specs.Validity.{validity_field}
use Rattle.column_fields.proofs.FieldLaws.{number_field_same, bytes_field_same}
use Rattle.column_fields.proofs.ListFieldLaws.{lists_same}
use Rattle.column_fields.proofs.ValidityLaws.{other_kind, validity_same}
use Rattle.column_fields.proofs.EndReading.{lengths_same}
use Rattle.column_fields.proofs.HeaderLaws.{header_same}
use Rattle.column_fields.proofs.RunFieldLaws.{runs_same}
use Rattle.column_fields.proofs.TypeLaws.{type_small}
use Rattle.runend_windows.proofs.StoredNumbers.{naturals-of_pos}
use Rattle.runend_array.specs.Lists.{Index, PlainIndex, RunIndex, index_count, RowValidityForm, ByRows, ByRuns, HasRows, Lists, list_count}
use Rattle.runend_array.specs.Column.{Column, OfLeaf, OfConstant, OfLists, OfRuns, AreRuns, runs_with, column_dtype, depth, index_of, truths_of}
use Rattle.column_bytes.specs.Bytes.{kind_number, form_number, column_count, column_header, column_body, column_bytes, leaf_fields, leaf_message, leaf_runs_message, index_form, index_message, row_validity_field, lists_body}
use Rattle.column_bytes.specs.ListRead.{AreListsIn}
use Rattle.column_bytes.specs.Packed.{IsPacked, IsPackedLeaf}
use Rattle.column_bytes.specs.Stored.{IsStored, IsStoredLeaf, AreStoredRuns, IsStoredIndex, IsStoredValidity, AreStoredLists}
use Rattle.column_bytes.specs.Read.{IsMessage, IsNoMessage, IsBody, IsNoBody, AreRunsOf, AreNoRunsOf}
use Rattle.column_bytes.specs.Values.{constant_fields}
use Rattle.column_bytes.proofs.Scalars.{constant_at, constant_body, constant_one}
use Rattle.column_bytes.proofs.Ends.{ends_rise}
use Rattle.column_bytes.proofs.Leaves.{leaf_body, number_of_varbin, numbers_at, truths_at, decimals_at, texts_at, numbers_one, truths_one, decimals_one}
use Rattle.column_bytes.specs.TextReading.{AreTextsOf}
use Rattle.column_bytes.proofs.TextLaws.{texts_one}

-- ---- headers

kind_small : (t : DType) → kind_number t < 2 ^ 64
kind_small (dtype.Primitive t n) = type_small t
kind_small (dtype.Bool n) = omega arith
kind_small (dtype.Decimal d n) = omega arith
kind_small (dtype.Utf8 n) = omega arith
kind_small (dtype.Binary n) = omega arith
kind_small (dtype.List e n) = omega arith

form_small : (c : Column) → form_number c < 2 ^ 64
form_small (OfLeaf leaf) = omega arith
form_small (OfRuns ends_type ends values offset count) = omega arith
form_small (OfConstant constant) = omega arith
form_small (OfLists lists) = omega arith

index_small : (index : Index) → IsStoredIndex index → index_count index < 2 ^ 64
index_small (PlainIndex numbers) s = omega (arith, s.small, length-map numbers (λ (n : ℕ). pos n))
index_small (RunIndex ends_type ends numbers offset count) s = omega (arith, s.runs.window.small)

count_small : (c : Column) → IsStored c → column_count c < 2 ^ 64
count_small (OfLeaf (OfNumbers form)) s = s.small
count_small (OfLeaf (OfTruths form)) s = s.small
count_small (OfLeaf (OfDecimals form)) s = s.small
count_small (OfLeaf (OfVarBins form)) s = s.rows_small
count_small (OfRuns ends_type ends values offset count) s = omega (arith, s.1.window.small)
count_small (OfConstant constant) s = s.small
count_small (OfLists lists) s = index_small lists.offsets s.offsets

-- the body after a header that is read
pub body_of : (levels kind form rows : ℕ) (bytes rest : List ℕ) (c : Column) → kind < 2 ^ 64 → form < 2 ^ 64 → rows < 2 ^ 64 → bytes ≡ header_bytes kind form rows ++ rest → IsMessage levels bytes c → IsBody levels kind form rows rest c
body_of levels kind form rows bytes rest c p q r b m =
    let s = header_same kind form rows (kind_number (column_dtype c)) (form_number c) (column_count c) rest (column_body c) p q r (kind_small (column_dtype c)) (form_small c) (count_small c m.writable.stored) (sym b ∙ m.spelt) in
    record { writable = m.writable; packed = m.packed; kind_is = sym s.0; form_is = sym s.1; rows_is = sym s.2; spelt = s.3 }

pub no_header : (levels : ℕ) (bytes : List ℕ) → HasNoHeader bytes → IsNoMessage levels bytes
no_header levels bytes absent = record {
  none = λ c m. absent.none (kind_number (column_dtype c)) (form_number c) (column_count c) (column_body c) (kind_small (column_dtype c)) (form_small c) (count_small c m.writable.stored) m.spelt;
}

pub no_body : (levels kind form rows : ℕ) (bytes rest : List ℕ) → kind < 2 ^ 64 → form < 2 ^ 64 → rows < 2 ^ 64 → bytes ≡ header_bytes kind form rows ++ rest → IsNoBody levels kind form rows rest → IsNoMessage levels bytes
no_body levels kind form rows bytes rest p q r b absent = record { none = λ c m. absent.none c (body_of levels kind form rows bytes rest c p q r b m) }

pub is_message : (least levels kind form rows : ℕ) (bytes rest : List ℕ) (c : Column) → least ≤ levels → bytes ≡ header_bytes kind form rows ++ rest → IsBody least kind form rows rest c → IsMessage levels bytes c
is_message least levels kind form rows bytes rest c le b h = record {
  writable = record { stored = h.writable.stored; shallow = omega (arith, h.writable.shallow) };
  packed = h.packed;
  spelt = b ∙ ap (λ (n : ℕ). header_bytes n form rows ++ rest) (sym h.kind_is) ∙ ap (λ (n : ℕ). header_bytes (kind_number (column_dtype c)) n rows ++ rest) (sym h.form_is) ∙ ap (λ (n : ℕ). header_bytes (kind_number (column_dtype c)) (form_number c) n ++ rest) (sym h.rows_is) ∙ ap (λ (x : List ℕ). column_header c ++ x) h.spelt;
}

-- the forms that have bytes are four
other_form_at : (levels kind form rows : ℕ) (bytes : List ℕ) (c : Column) → (form ≡ 1 → ⊥) → (form ≡ 2 → ⊥) → (form ≡ 3 → ⊥) → (form ≡ 4 → ⊥) → IsBody levels kind form rows bytes c → ⊥
other_form_at levels kind form rows bytes (OfLeaf leaf) a b d e h = a (sym h.form_is)
other_form_at levels kind form rows bytes (OfRuns ends_type ends values offset count) a b d e h = b (sym h.form_is)
other_form_at levels kind form rows bytes (OfConstant constant) a b d e h = d (sym h.form_is)
other_form_at levels kind form rows bytes (OfLists lists) a b d e h = e (sym h.form_is)

pub other_form : (levels kind form rows : ℕ) (bytes : List ℕ) → (form ≡ 1 → ⊥) → (form ≡ 2 → ⊥) → (form ≡ 3 → ⊥) → (form ≡ 4 → ⊥) → IsNoBody levels kind form rows bytes
other_form levels kind form rows bytes a b d e = record { none = λ c h. other_form_at levels kind form rows bytes c a b d e h }

-- ---- runs

pub record RunsAt (levels kind rows : ℕ) (bytes : List ℕ) (c : Column) : Type 0 where
  pub ends_type : PType
  pub ends : List ℕ
  pub values : Column
  pub offset : ℕ
  pub is : c ≡ OfRuns ends_type ends values offset rows
  pub fit : AreEndsOf ends_type ends
  pub runs : AreRuns (runs_with ends_type ends values offset rows)
  pub stored : IsStored values
  pub packed : IsPacked values
  pub shallow : depth values + 1 ≤ levels
  pub kind_is : kind_number (column_dtype values) ≡ kind
  pub spelt : bytes ≡ run_fields offset ends_type (lengths_bytes 0 ends) (column_bytes values)

pub run_body : (ends_type : PType) (ends : List ℕ) (values : Column) (offset count : ℕ) → column_body (OfRuns ends_type ends values offset count) ≡ run_fields offset ends_type (lengths_bytes 0 ends) (column_bytes values)
unfolding column_body
run_body ends_type ends values offset count = refl

pub runs_at : (c : Column) (levels kind rows : ℕ) (bytes : List ℕ) → IsBody levels kind 2 rows bytes c → RunsAt levels kind rows bytes c
runs_at (OfLeaf leaf) levels kind rows bytes h = absurd (omega (arith, h.form_is))
runs_at (OfRuns ends_type ends values offset count) levels kind rows bytes h = record {
  ends_type = ends_type;
  ends = ends;
  values = values;
  offset = offset;
  is = ap (λ (n : ℕ). OfRuns ends_type ends values offset n) h.rows_is;
  fit = h.writable.stored.0;
  runs = subst (λ (n : ℕ). AreRuns (runs_with ends_type ends values offset n)) h.rows_is h.writable.stored.1;
  stored = h.writable.stored.2;
  packed = h.packed;
  shallow = h.writable.shallow;
  kind_is = h.kind_is;
  spelt = h.spelt ∙ run_body ends_type ends values offset count;
}
runs_at (OfConstant constant) levels kind rows bytes h = absurd (omega (arith, h.form_is))
runs_at (OfLists lists) levels kind rows bytes h = absurd (omega (arith, h.form_is))

pub lengths_long : (offset : ℕ) (t : PType) (lengths values : List ℕ) → length lengths ≤ length (run_fields offset t lengths values)
unfolding run_fields bytes_field
lengths_long offset t lengths values = omega (
  arith,
  length-append (number_field 8 offset) (number_field 9 (type_number t) ++ ((varint (10 * 8 + 2) ++ (varint (length lengths) ++ lengths)) ++ (varint (11 * 8 + 2) ++ (varint (length values) ++ values)))),
  length-append (number_field 9 (type_number t)) ((varint (10 * 8 + 2) ++ (varint (length lengths) ++ lengths)) ++ (varint (11 * 8 + 2) ++ (varint (length values) ++ values))),
  length-append (varint (10 * 8 + 2) ++ (varint (length lengths) ++ lengths)) (varint (11 * 8 + 2) ++ (varint (length values) ++ values)),
  length-append (varint (10 * 8 + 2)) (varint (length lengths) ++ lengths),
  length-append (varint (length lengths)) lengths,
)

pub values_long : (offset : ℕ) (t : PType) (lengths values : List ℕ) → length values ≤ length (run_fields offset t lengths values)
unfolding run_fields bytes_field
values_long offset t lengths values = omega (
  arith,
  length-append (number_field 8 offset) (number_field 9 (type_number t) ++ ((varint (10 * 8 + 2) ++ (varint (length lengths) ++ lengths)) ++ (varint (11 * 8 + 2) ++ (varint (length values) ++ values)))),
  length-append (number_field 9 (type_number t)) ((varint (10 * 8 + 2) ++ (varint (length lengths) ++ lengths)) ++ (varint (11 * 8 + 2) ++ (varint (length values) ++ values))),
  length-append (varint (10 * 8 + 2) ++ (varint (length lengths) ++ lengths)) (varint (11 * 8 + 2) ++ (varint (length values) ++ values)),
  length-append (varint (11 * 8 + 2)) (varint (length values) ++ values),
  length-append (varint (length values)) values,
)

pub no_levels : (levels kind rows : ℕ) (bytes : List ℕ) → levels ≡ 0 → IsNoBody levels kind 2 rows bytes
no_levels levels kind rows bytes z = record { none = λ c h. let at = runs_at c levels kind rows bytes h in omega (arith, at.shallow) }

pub no_fields : (levels kind rows : ℕ) (bytes : List ℕ) → length bytes < 2 ^ 64 → AreNoRunFields bytes → IsNoBody levels kind 2 rows bytes
no_fields levels kind rows bytes lt absent = record {
  none = λ c h.
      let at = runs_at c levels kind rows bytes h in
      absent.none at.offset at.ends_type (lengths_bytes 0 at.ends) (column_bytes at.values) (omega (arith, at.runs.window.small)) (omega (arith, ap length at.spelt, lengths_long at.offset at.ends_type (lengths_bytes 0 at.ends) (column_bytes at.values))) (omega (arith, ap length at.spelt, values_long at.offset at.ends_type (lengths_bytes 0 at.ends) (column_bytes at.values))) at.spelt;
}

-- the fields that are read are those of each run column with these bytes
pub fields_are : (levels kind rows offset : ℕ) (t : PType) (lengths values bytes : List ℕ) (c : Column) → length bytes < 2 ^ 64 → offset < 2 ^ 64 → length lengths < 2 ^ 64 → length values < 2 ^ 64 → bytes ≡ run_fields offset t lengths values → (at : RunsAt levels kind rows bytes c) → (offset ≡ at.offset) × (t ≡ at.ends_type) × (lengths ≡ lengths_bytes 0 at.ends) × (values ≡ column_bytes at.values)
fields_are levels kind rows offset t lengths values bytes c lt p q r b at =
    runs_same offset at.offset t at.ends_type lengths (lengths_bytes 0 at.ends) values (column_bytes at.values) p (omega (arith, at.runs.window.small)) q (omega (arith, ap length at.spelt, lengths_long at.offset at.ends_type (lengths_bytes 0 at.ends) (column_bytes at.values))) r (omega (arith, ap length at.spelt, values_long at.offset at.ends_type (lengths_bytes 0 at.ends) (column_bytes at.values))) (sym b ∙ at.spelt)

pub no_values : (levels below kind rows offset : ℕ) (t : PType) (lengths values bytes : List ℕ) → below + 1 ≡ levels → length bytes < 2 ^ 64 → offset < 2 ^ 64 → length lengths < 2 ^ 64 → length values < 2 ^ 64 → bytes ≡ run_fields offset t lengths values → IsNoMessage below values → IsNoBody levels kind 2 rows bytes
no_values levels below kind rows offset t lengths values bytes next lt p q r b absent = record {
  none = λ c h.
      let at = runs_at c levels kind rows bytes h in
      let s = fields_are levels kind rows offset t lengths values bytes c lt p q r b at in
      absent.none at.values (record { writable = record { stored = at.stored; shallow = omega (arith, at.shallow) }; packed = at.packed; spelt = s.3 });
}

-- ---- one column has these bytes

fields_long : (c : Column) → length (column_body c) ≤ length (column_bytes c)
fields_long c = omega (arith, length-append (column_header c) (column_body c))

own_body : (levels : ℕ) (c d : Column) → IsStored c → IsMessage levels (column_bytes c) d → IsBody levels (kind_number (column_dtype c)) (form_number c) (column_count c) (column_body c) d
own_body levels c d s m = body_of levels (kind_number (column_dtype c)) (form_number c) (column_count c) (column_bytes c) (column_body c) d (kind_small (column_dtype c)) (form_small c) (count_small c s) refl m

leaf_one : (levels : ℕ) (leaf : Leaf) (d : Column) → IsStoredLeaf leaf → IsPackedLeaf leaf → length (column_bytes (OfLeaf leaf)) < 2 ^ 64 → IsMessage levels (column_bytes (OfLeaf leaf)) d → OfLeaf leaf ≡ d
leaf_one levels (OfNumbers form) d s k lt m =
    let at = numbers_at d form.ptype levels (type_number form.ptype) (column_count (OfLeaf (OfNumbers form))) (leaf_fields (OfNumbers form)) refl (subst (λ (x : List ℕ). IsBody levels (type_number form.ptype) 1 (column_count (OfLeaf (OfNumbers form))) x d) (leaf_body (OfNumbers form)) (own_body levels (OfLeaf (OfNumbers form)) d s m)) in
    ap (λ f. OfLeaf (OfNumbers f)) (numbers_one form at.form s (omega (arith, fields_long (OfLeaf (OfNumbers form)), ap length (leaf_body (OfNumbers form)))) at.are) ∙ sym at.is
leaf_one levels (OfTruths form) d s k lt m =
    let at = truths_at d levels 9 (column_count (OfLeaf (OfTruths form))) (leaf_fields (OfTruths form)) refl (subst (λ (x : List ℕ). IsBody levels 9 1 (column_count (OfLeaf (OfTruths form))) x d) (leaf_body (OfTruths form)) (own_body levels (OfLeaf (OfTruths form)) d s m)) in
    ap (λ f. OfLeaf (OfTruths f)) (truths_one form at.form s (omega (arith, fields_long (OfLeaf (OfTruths form)), ap length (leaf_body (OfTruths form)))) at.are) ∙ sym at.is
leaf_one levels (OfDecimals form) d s k lt m =
    let at = decimals_at d levels 10 (column_count (OfLeaf (OfDecimals form))) (leaf_fields (OfDecimals form)) refl (subst (λ (x : List ℕ). IsBody levels 10 1 (column_count (OfLeaf (OfDecimals form))) x d) (leaf_body (OfDecimals form)) (own_body levels (OfLeaf (OfDecimals form)) d s m)) in
    ap (λ f. OfLeaf (OfDecimals f)) (decimals_one form at.form s (omega (arith, fields_long (OfLeaf (OfDecimals form)), ap length (leaf_body (OfDecimals form)))) at.are) ∙ sym at.is
leaf_one levels (OfVarBins form) d s k lt m =
    let number : ℕ = kind_number (column_dtype (OfLeaf (OfVarBins form))) in
    let fields : List ℕ = leaf_fields (OfVarBins form) in
    let at = texts_at d form.kind levels number (length form.views) fields (number_of_varbin form.kind (nullability_in form.validity)) (subst (λ (x : List ℕ). IsBody levels number 1 (length form.views) x d) (leaf_body (OfVarBins form)) (own_body levels (OfLeaf (OfVarBins form)) d s m)) in
    let own : AreTextsOf form.kind (length form.views) fields form = record { kind_is = refl; counted = refl; stored = s; packed_is = k; spelt = refl } in
    ap (λ f. OfLeaf (OfVarBins f)) (texts_one form.kind (length form.views) fields form at.form s.rows_small (omega (arith, fields_long (OfLeaf (OfVarBins form)), ap length (leaf_body (OfVarBins form)))) own at.are) ∙ sym at.is

runs_one : (levels : ℕ) (t : PType) (ends : List ℕ) (values : Column) (offset count : ℕ) (d : Column) → IsStored (OfRuns t ends values offset count) → length (column_bytes (OfRuns t ends values offset count)) < 2 ^ 64 → (length (column_bytes values) < 2 ^ 64 → (v : Column) → IsMessage levels (column_bytes values) v → values ≡ v) → IsMessage levels (column_bytes (OfRuns t ends values offset count)) d → OfRuns t ends values offset count ≡ d
runs_one levels t ends values offset count d s lt one m =
    let body : List ℕ = column_body (OfRuns t ends values offset count) in
    let is = run_body t ends values offset count in
    let at = runs_at d levels (kind_number (column_dtype values)) count body (own_body levels (OfRuns t ends values offset count) d s m) in
    let small : length body < 2 ^ 64 = omega (arith, fields_long (OfRuns t ends values offset count)) in
    let l-small : length (lengths_bytes 0 ends) < 2 ^ 64 = omega (arith, ap length is, lengths_long offset t (lengths_bytes 0 ends) (column_bytes values)) in
    let v-small : length (column_bytes values) < 2 ^ 64 = omega (arith, ap length is, values_long offset t (lengths_bytes 0 ends) (column_bytes values)) in
    let f = fields_are levels (kind_number (column_dtype values)) count offset t (lengths_bytes 0 ends) (column_bytes values) body d small (omega (arith, s.1.window.small)) l-small v-small is at in
    let ends-is : ends ≡ at.ends = lengths_same true 0 ends at.ends (ends_rise t ends values offset count s.0 s.1) (ends_rise at.ends_type at.ends at.values at.offset count at.fit at.runs) f.2 in
    let values-is : values ≡ at.values = one v-small at.values (record { writable = record { stored = at.stored; shallow = omega (arith, at.shallow) }; packed = at.packed; spelt = f.3 }) in
    ap (λ (x : PType). OfRuns x ends values offset count) f.1 ∙ ap (λ (x : List ℕ). OfRuns at.ends_type x values offset count) ends-is ∙ ap (λ (x : Column). OfRuns at.ends_type at.ends x offset count) values-is ∙ ap (λ (x : ℕ). OfRuns at.ends_type at.ends at.values x count) f.0 ∙ sym at.is

-- ---- lists: their parts as columns

pub leaf_bytes : (leaf : Leaf) → column_bytes (OfLeaf leaf) ≡ leaf_message leaf
leaf_bytes leaf = ap (λ (x : List ℕ). column_header (OfLeaf leaf) ++ x) (leaf_body leaf)

pub runs_bytes : (t : PType) (ends : List ℕ) (leaf : Leaf) (offset count : ℕ) → column_bytes (OfRuns t ends (OfLeaf leaf) offset count) ≡ leaf_runs_message t ends leaf offset count
runs_bytes t ends leaf offset count =
    ap (λ (x : List ℕ). column_header (OfRuns t ends (OfLeaf leaf) offset count) ++ x) (run_body t ends (OfLeaf leaf) offset count ∙ ap (λ (x : List ℕ). run_fields offset t (lengths_bytes 0 ends) x) (leaf_bytes leaf))

leaf_runs_one : (t : PType) (ends : List ℕ) (leaf : Leaf) (offset count : ℕ) (d : Column) → AreStoredRuns t ends leaf offset count → IsPackedLeaf leaf → length (column_bytes (OfRuns t ends (OfLeaf leaf) offset count)) < 2 ^ 64 → IsMessage 1 (column_bytes (OfRuns t ends (OfLeaf leaf) offset count)) d → OfRuns t ends (OfLeaf leaf) offset count ≡ d
leaf_runs_one t ends leaf offset count d s k lt m = runs_one 1 t ends (OfLeaf leaf) offset count d (s.fit, s.runs, s.stored) lt (λ small v h. leaf_one 1 leaf v s.stored k small h) m

-- the column of which these are the numbers
abbrev pub index_column : Index → Column
index_column (PlainIndex numbers) = OfLeaf (OfNumbers (index_form numbers))
index_column (RunIndex t ends numbers offset count) = OfRuns t ends (OfLeaf (OfNumbers (index_form numbers))) offset count

pub index_back : (index : Index) → index_of (index_column index) ≡ index
index_back (PlainIndex numbers) = ap PlainIndex (naturals-of_pos numbers)
index_back (RunIndex t ends numbers offset count) = ap (λ (ns : List ℕ). RunIndex t ends ns offset count) (naturals-of_pos numbers)

pub index_bytes : (index : Index) → column_bytes (index_column index) ≡ index_message index
index_bytes (PlainIndex numbers) = leaf_bytes (OfNumbers (index_form numbers))
index_bytes (RunIndex t ends numbers offset count) = runs_bytes t ends (OfNumbers (index_form numbers)) offset count

pub index_message_at : (bytes : List ℕ) (index : Index) → IsStoredIndex index → bytes ≡ index_message index → IsMessage 1 bytes (index_column index)
index_message_at bytes (PlainIndex numbers) s e = record {
  writable = record { stored = s; shallow = omega arith };
  packed = tt;
  spelt = e ∙ sym (index_bytes (PlainIndex numbers));
}
index_message_at bytes (RunIndex t ends numbers offset count) s e = record {
  writable = record { stored = (s.fit, s.runs, s.stored); shallow = omega arith };
  packed = tt;
  spelt = e ∙ sym (index_bytes (RunIndex t ends numbers offset count));
}

index_column_one : (a : Index) (d : Column) → IsStoredIndex a → length (column_bytes (index_column a)) < 2 ^ 64 → IsMessage 1 (column_bytes (index_column a)) d → index_column a ≡ d
index_column_one (PlainIndex numbers) d s lt m = leaf_one 1 (OfNumbers (index_form numbers)) d s tt lt m
index_column_one (RunIndex t ends numbers offset count) d s lt m = leaf_runs_one t ends (OfNumbers (index_form numbers)) offset count d s tt lt m

pub index_one : (a b : Index) → IsStoredIndex a → IsStoredIndex b → length (index_message a) < 2 ^ 64 → index_message a ≡ index_message b → a ≡ b
index_one a b p q lt e =
    let m : IsMessage 1 (column_bytes (index_column a)) (index_column b) = index_message_at (column_bytes (index_column a)) b q (index_bytes a ∙ e) in
    sym (index_back a) ∙ ap index_of (index_column_one a (index_column b) p (omega (arith, ap length (index_bytes a))) m) ∙ index_back b

-- ---- lists: their validity

abbrev pub flags_column : PType → List ℕ → List Bool → ℕ → ℕ → Column
flags_column t ends bits offset count = OfRuns t ends (OfLeaf (OfTruths (bool_with bits NeverNull))) offset count

-- the validity that runs of flags give
abbrev flags_of : Column → RowValidityForm
flags_of (OfLeaf leaf) = ByRows NeverNull
flags_of (OfConstant constant) = ByRows NeverNull
flags_of (OfLists lists) = ByRows NeverNull
flags_of (OfRuns t ends values offset count) = ByRuns t ends (truths_of values) offset count

flags_long : (message rest : List ℕ) → length message ≤ length ((number_field 5 5 ++ bytes_field 16 message) ++ rest)
unfolding bytes_field
flags_long message rest = omega (
  arith,
  length-append (number_field 5 5 ++ (varint (16 * 8 + 2) ++ (varint (length message) ++ message))) rest,
  length-append (number_field 5 5) (varint (16 * 8 + 2) ++ (varint (length message) ++ message)),
  length-append (varint (16 * 8 + 2)) (varint (length message) ++ message),
  length-append (varint (length message)) message,
)

rows_or_runs : (v : ValidityForm) (rows : ℕ) (message a b : List ℕ) → HasLength v rows → validity_field v ++ a ≡ (number_field 5 5 ++ bytes_field 16 message) ++ b → ⊥
rows_or_runs v rows message a b len e =
    (other_kind rows 5 (validity_field v ++ a) (bytes_field 16 message ++ b) (omega arith) (e ∙ append_assoc (number_field 5 5) (bytes_field 16 message) b) (λ x. omega (arith, x)) (λ x. omega (arith, x)) (λ x. omega (arith, x)) (λ x. omega (arith, x))).none v a len refl

pub validity_one : (v w : RowValidityForm) (rows : ℕ) (a b : List ℕ) → rows < 2 ^ 64 → IsStoredValidity v → IsStoredValidity w → HasRows v rows → HasRows w rows → length (row_validity_field v ++ a) < 2 ^ 64 → row_validity_field v ++ a ≡ row_validity_field w ++ b → (v ≡ w) × (a ≡ b)
validity_one (ByRows v) (ByRows w) rows a b small p q vr wr lt e = let s = validity_same v w rows a b small vr wr e in (ap ByRows s.0, s.1)
validity_one (ByRows v) (ByRuns t ends bits offset count) rows a b small p q vr wr lt e = absurd (rows_or_runs v rows (leaf_runs_message t ends (OfTruths (bool_with bits NeverNull)) offset count) a b vr e)
validity_one (ByRuns t ends bits offset count) (ByRows w) rows a b small p q vr wr lt e = absurd (rows_or_runs w rows (leaf_runs_message t ends (OfTruths (bool_with bits NeverNull)) offset count) b a wr (sym e))
validity_one (ByRuns t ends bits offset count) (ByRuns u others flags start number) rows a b small p q vr wr lt e =
    let first : List ℕ = leaf_runs_message t ends (OfTruths (bool_with bits NeverNull)) offset count in
    let second : List ℕ = leaf_runs_message u others (OfTruths (bool_with flags NeverNull)) start number in
    let own : Column = flags_column t ends bits offset count in
    let other : Column = flags_column u others flags start number in
    let first-small : length first < 2 ^ 64 = omega (arith, flags_long first a) in
    let second-small : length second < 2 ^ 64 = omega (arith, flags_long second b, ap length e) in
    let fields = number_field_same 5 5 5 (bytes_field 16 first ++ a) (bytes_field 16 second ++ b) (omega arith) (omega arith) (omega arith) (sym (append_assoc (number_field 5 5) (bytes_field 16 first) a) ∙ e ∙ append_assoc (number_field 5 5) (bytes_field 16 second) b) in
    let same = bytes_field_same 16 first second a b (omega arith) first-small second-small fields.1 in
    let is : column_bytes own ≡ first = runs_bytes t ends (OfTruths (bool_with bits NeverNull)) offset count in
    let m : IsMessage 1 (column_bytes own) other = record {
      writable = record { stored = (q.fit, q.runs, q.stored); shallow = omega arith };
      packed = tt;
      spelt = is ∙ same.0 ∙ sym (runs_bytes u others (OfTruths (bool_with flags NeverNull)) start number);
    } in
    (ap flags_of (leaf_runs_one t ends (OfTruths (bool_with bits NeverNull)) offset count other p tt (omega (arith, ap length is)) m), same.1)

-- ---- lists

abbrev leaf_in : Leaf → Column → Leaf
leaf_in other (OfLeaf leaf) = leaf
leaf_in other (OfConstant constant) = other
leaf_in other (OfLists lists) = other
leaf_in other (OfRuns t ends values offset count) = other

pub leaf_message_one : (a b : Leaf) → IsStoredLeaf a → IsPackedLeaf a → IsStoredLeaf b → IsPackedLeaf b → length (leaf_message a) < 2 ^ 64 → leaf_message a ≡ leaf_message b → a ≡ b
leaf_message_one a b p k q j lt e =
    let m : IsMessage 0 (column_bytes (OfLeaf a)) (OfLeaf b) = record { writable = record { stored = q; shallow = omega arith }; packed = j; spelt = leaf_bytes a ∙ e ∙ sym (leaf_bytes b) } in
    ap (leaf_in a) (leaf_one 0 a (OfLeaf b) p k (omega (arith, ap length (leaf_bytes a))) m)

pub lists_body_is : (lists : Lists) → column_body (OfLists lists) ≡ lists_body lists
unfolding column_body
lists_body_is lists = refl

pub record ListsAt (levels rows : ℕ) (bytes : List ℕ) (c : Column) : Type 0 where
  pub lists : Lists
  pub is : c ≡ OfLists lists
  pub are : AreListsIn levels rows bytes lists

pub lists_at : (c : Column) (levels kind rows : ℕ) (bytes : List ℕ) → IsBody levels kind 4 rows bytes c → ListsAt levels rows bytes c
lists_at (OfLeaf leaf) levels kind rows bytes h = absurd (omega (arith, h.form_is))
lists_at (OfRuns ends_type ends values offset count) levels kind rows bytes h = absurd (omega (arith, h.form_is))
lists_at (OfConstant constant) levels kind rows bytes h = absurd (omega (arith, h.form_is))
lists_at (OfLists lists) levels kind rows bytes h = record {
  lists = lists;
  is = refl;
  are = record { stored = h.writable.stored; packed = h.packed; shallow = h.writable.shallow; counted = h.rows_is; spelt = h.spelt ∙ lists_body_is lists };
}

pub parts_long : (v e o s : List ℕ) → (length e ≤ length (v ++ list_fields e o s)) × (length o ≤ length (v ++ list_fields e o s)) × (length s ≤ length (v ++ list_fields e o s))
unfolding list_fields bytes_field
parts_long v e o s =
    let sizes : List ℕ = varint (19 * 8 + 2) ++ (varint (length s) ++ s) in
    let offsets : List ℕ = varint (18 * 8 + 2) ++ (varint (length o) ++ o) in
    let elements : List ℕ = varint (17 * 8 + 2) ++ (varint (length e) ++ e) in
    let a = length-append v (elements ++ (offsets ++ sizes)) in
    let b = length-append elements (offsets ++ sizes) in
    let c = length-append offsets sizes in
    let d = length-append (varint (17 * 8 + 2)) (varint (length e) ++ e) in
    let f = length-append (varint (length e)) e in
    let g = length-append (varint (18 * 8 + 2)) (varint (length o) ++ o) in
    let h = length-append (varint (length o)) o in
    let i = length-append (varint (19 * 8 + 2)) (varint (length s) ++ s) in
    let j = length-append (varint (length s)) s in
    (omega (arith, a, b, d, f), omega (arith, a, b, c, g, h), omega (arith, a, b, c, i, j))

lists_one : (levels : ℕ) (l m : Lists) → AreStoredLists l → IsPackedLeaf l.elements → length (lists_body l) < 2 ^ 64 → AreListsIn levels (list_count l) (lists_body l) m → l ≡ m
lists_one levels l m s k lt h =
    let own = parts_long (row_validity_field l.validity) (leaf_message l.elements) (index_message l.offsets) (index_message l.sizes) in
    let other = parts_long (row_validity_field m.validity) (leaf_message m.elements) (index_message m.offsets) (index_message m.sizes) in
    let long = ap length h.spelt in
    let v = validity_one l.validity m.validity (list_count l) (list_fields (leaf_message l.elements) (index_message l.offsets) (index_message l.sizes)) (list_fields (leaf_message m.elements) (index_message m.offsets) (index_message m.sizes)) (index_small l.offsets s.offsets) s.validity h.stored.validity s.are.flagged (subst (λ (n : ℕ). HasRows m.validity n) h.counted h.stored.are.flagged) lt h.spelt in
    let parts = lists_same (leaf_message l.elements) (leaf_message m.elements) (index_message l.offsets) (index_message m.offsets) (index_message l.sizes) (index_message m.sizes) (omega (arith, own.0)) (omega (arith, other.0, long)) (omega (arith, own.1)) (omega (arith, other.1, long)) (omega (arith, own.2)) (omega (arith, other.2, long)) v.1 in
    let elements : l.elements ≡ m.elements = leaf_message_one l.elements m.elements s.elements k h.stored.elements h.packed (omega (arith, own.0)) parts.0 in
    let offsets : l.offsets ≡ m.offsets = index_one l.offsets m.offsets s.offsets h.stored.offsets (omega (arith, own.1)) parts.1 in
    let sizes : l.sizes ≡ m.sizes = index_one l.sizes m.sizes s.sizes h.stored.sizes (omega (arith, own.2)) parts.2 in
    λ i. record { elements = elements i; offsets = offsets i; sizes = sizes i; validity = v.0 i }

pub column_one : (levels : ℕ) (c d : Column) → IsStored c → IsPacked c → length (column_bytes c) < 2 ^ 64 → IsMessage levels (column_bytes c) d → c ≡ d
column_one levels (OfLeaf leaf) d s k lt m = leaf_one levels leaf d s k lt m
column_one levels (OfConstant constant) d s k lt m =
    let fields : List ℕ = constant_fields constant.dtype constant.value in
    let at = constant_at d levels (kind_number constant.dtype) constant.count fields (subst (λ (x : List ℕ). IsBody levels (kind_number constant.dtype) 3 constant.count x d) (constant_body constant) (own_body levels (OfConstant constant) d s m)) in
    ap OfConstant (constant_one constant at.constant s (omega (arith, fields_long (OfConstant constant), ap length (constant_body constant))) at.count at.value) ∙ sym at.is
column_one levels (OfLists lists) d s k lt m =
    let at = lists_at d levels 13 (list_count lists) (lists_body lists) (subst (λ (x : List ℕ). IsBody levels 13 4 (list_count lists) x d) (lists_body_is lists) (own_body levels (OfLists lists) d s m)) in
    ap OfLists (lists_one levels lists at.lists s k (omega (arith, fields_long (OfLists lists), ap length (lists_body_is lists))) at.are) ∙ sym at.is
column_one levels (OfRuns t ends values offset count) d s k lt m = runs_one levels t ends values offset count d s lt (λ small v h. column_one levels values v s.2 k small h) m

pub message_one : (m n : ℕ) (bytes : List ℕ) (c d : Column) → length bytes < 2 ^ 64 → IsMessage m bytes c → IsMessage n bytes d → c ≡ d
message_one m n bytes c d lt p q = column_one n c d p.writable.stored p.packed (omega (arith, ap length p.spelt)) (subst (λ (x : List ℕ). IsMessage n x d) p.spelt q)

-- ---- runs over values that are read

pub no_runs : (levels below kind rows offset : ℕ) (t : PType) (lengths values bytes : List ℕ) (c : Column) → below + 1 ≡ levels → length bytes < 2 ^ 64 → offset < 2 ^ 64 → length lengths < 2 ^ 64 → length values < 2 ^ 64 → bytes ≡ run_fields offset t lengths values → IsMessage below values c → AreNoRunsOf kind rows offset t lengths c → IsNoBody levels kind 2 rows bytes
no_runs levels below kind rows offset t lengths values bytes c next lt p q r b m absent = record {
  none = λ d h.
      let at = runs_at d levels kind rows bytes h in
      let s = fields_are levels kind rows offset t lengths values bytes d lt p q r b at in
      let one : c ≡ at.values = message_one below below values c at.values r m (record { writable = record { stored = at.stored; shallow = omega (arith, at.shallow) }; packed = at.packed; spelt = s.3 }) in
      absent.none (OfRuns t at.ends c offset rows) (record {
        ends = at.ends;
        is = refl;
        fit = subst (λ (x : PType). AreEndsOf x at.ends) (sym s.1) at.fit;
        runs = subst (λ (x : Column). AreRuns (runs_with t at.ends x offset rows)) (sym one) (subst (λ (x : PType). AreRuns (runs_with x at.ends at.values offset rows)) (sym s.1) (subst (λ (n : ℕ). AreRuns (runs_with at.ends_type at.ends at.values n rows)) (sym s.0) at.runs));
        kind_is = ap (λ (x : Column). kind_number (column_dtype x)) one ∙ at.kind_is;
        spelt = s.2;
      });
}

pub runs_body : (levels below kind rows offset : ℕ) (t : PType) (lengths values bytes : List ℕ) (v c : Column) → below + 1 ≡ levels → bytes ≡ run_fields offset t lengths values → IsMessage below values v → AreRunsOf kind rows offset t lengths v c → IsBody levels kind 2 rows bytes c
runs_body levels below kind rows offset t lengths values bytes v c next b m r =
    subst (λ (x : Column). IsBody levels kind 2 rows bytes x) (sym r.is) (record {
      writable = record { stored = (r.fit, r.runs, m.writable.stored); shallow = omega (arith, m.writable.shallow) };
      packed = m.packed;
      kind_is = r.kind_is;
      form_is = refl;
      rows_is = refl;
      spelt = b ∙ ap (λ (x : List ℕ). run_fields offset t x values) r.spelt ∙ ap (λ (x : List ℕ). run_fields offset t (lengths_bytes 0 r.ends) x) m.spelt ∙ sym (run_body t r.ends v offset rows);
    })

pub no_ends : (kind rows offset : ℕ) (t : PType) (lengths : List ℕ) (v : Column) → HasNoEndsOf t lengths → AreNoRunsOf kind rows offset t lengths v
no_ends kind rows offset t lengths v absent = record {
  none = λ c r. absent.none r.ends r.fit (ends_rise t r.ends v offset rows r.fit r.runs) r.spelt;
}
