-- Flat columns of a known type, runs over these, and the parts of lists that they are, are read as they are written.
use Rattle.std.proofs.Common.{◌≡◌, ℕ, ◌*◌, ◌+◌, ◌^◌, ◌<◌, ◌≤◌, Bool, List, ◌++◌, length, Result, Ok, Err, refl, sym, ap, subst, ◌∙◌, arith, append_assoc}
use Rattle.std.specs.Prelude.{IfOk, OnOk}
use Rattle.std.proofs.lemmas.List.{length-append}
use Rattle.column_base.specs.declared.dtype.DType.{DType}
use Rattle.column_base.specs.declared.dtype.DType.TheVariants as dtype
use Rattle.column_base.specs.declared.dtype.Nullability.TheVariants.{NonNullable}
use Rattle.column_base.specs.declared.dtype.PType.{PType}
use Rattle.column_base.specs.declared.dtype.PType.TheVariants.{U64}
use Rattle.column_base.specs.declared.error.VortexError.{VortexError}
use Rattle.column_base.specs.ValidityForm.{ValidityForm, NeverNull, HasLength}
use Rattle.column_core.specs.BoolForm.{bool_with}
use Rattle.column_core.specs.Leaf.{Leaf, OfNumbers, OfTruths}
use Rattle.column_fields.specs.Varint.{varint}
use Rattle.column_fields.specs.Field.{number_field, bytes_field, HasNoBytesField, HasNoConstantField}
use Rattle.column_fields.specs.Header.{header_bytes, HasNoHeader}
use Rattle.column_fields.specs.RunFields.{run_fields, AreNoRunFields}
use Rattle.column_fields.specs.Validity.{validity_field, HasNoValidity}
use Rattle.column_fields.proofs.FieldLaws.{number_field_same, bytes_field_same}
use Rattle.column_fields.proofs.ValidityLaws.{other_kind}
use Rattle.runend_array.specs.Lists.{Index, PlainIndex, RunIndex, RowValidityForm, ByRows, ByRuns}
use Rattle.runend_array.specs.Column.{Column, OfLeaf, OfConstant, OfLists, OfRuns, Runs, IsLeaf, IsIndex, IsPlainTruths, column_dtype, column_of_runs, index_of, runs_validity}
use Rattle.column_bytes.specs.Bytes.{column_bytes, form_number, index_form, leaf_runs_message}
use Rattle.column_bytes.specs.ListRead.{IsLeafMessage, IsNoLeafMessage, IsFlatMessage, IsNoFlatMessage, AreFlatRuns, AreNoFlatRuns, IsIndexMessage, IsNoIndexMessage, BeginsWithValidity, BeginsWithNoValidity}
use Rattle.column_bytes.specs.Read.{IsBody, IsMessage, IsNoMessage, AreRunsOf, AreNoRunsOf}
use Rattle.column_bytes.specs.Stored.{IsStored, AreStoredRuns}
use Rattle.column_bytes.proofs.ListColumns.{index_is, index_stored_at, flags_bytes, flags_stored}
use Rattle.column_bytes.proofs.Messages.{body_of, no_header, no_fields, no_runs, runs_body, message_one, runs_at, fields_are, leaf_bytes, runs_bytes, index_bytes, index_column, index_message_at, flags_column}
use Rattle.column_bytes.proofs.RunLaws.{no_body_of, body_message, rest_small}

-- what a result says, where it says two things
pub both_ok : {T : Type 0} (r : Result T VortexError) (P R : T → Type 0) (Q : Type 0) → ((x : T) → P x → Q → R x) → IfOk r P → OnOk r Q → IfOk r R
both_ok (Ok x) P R Q f p q = f x p q
both_ok (Err e) P R Q f p q = tt

-- a message with fewer levels of runs
raised : (m n : ℕ) (bytes : List ℕ) (c : Column) → m ≤ n → IsMessage m bytes c → IsMessage n bytes c
raised m n bytes c le h = record { writable = record { stored = h.writable.stored; shallow = omega (arith, le, h.writable.shallow) }; packed = h.packed; spelt = h.spelt }

-- ---- flat columns

pub record LeafAt (c : Column) : Type 0 where
  pub leaf : Leaf
  pub is : c ≡ OfLeaf leaf

pub leaf_at : (c : Column) (levels kind rows : ℕ) (bytes : List ℕ) → IsBody levels kind 1 rows bytes c → LeafAt c
leaf_at (OfLeaf leaf) levels kind rows bytes h = record { leaf = leaf; is = refl }
leaf_at (OfConstant constant) levels kind rows bytes h = absurd (omega (arith, h.form_is))
leaf_at (OfLists lists) levels kind rows bytes h = absurd (omega (arith, h.form_is))
leaf_at (OfRuns t ends values offset count) levels kind rows bytes h = absurd (omega (arith, h.form_is))

pub is_leaf : (c : Column) (levels kind rows : ℕ) (bytes : List ℕ) → IsBody levels kind 1 rows bytes c → IsLeaf c
is_leaf c levels kind rows bytes h = subst IsLeaf (sym (leaf_at c levels kind rows bytes h).is) tt

pub leaf_found : (kind form rows : ℕ) (bytes rest : List ℕ) (c : Column) (leaf : Leaf) → form ≡ 1 → bytes ≡ header_bytes kind form rows ++ rest → IsBody 0 kind 1 rows rest c → c ≡ OfLeaf leaf → IsLeafMessage bytes leaf
leaf_found kind form rows bytes rest c leaf known b h is =
    let m : IsMessage 0 bytes (OfLeaf leaf) = subst (λ (x : Column). IsMessage 0 bytes x) is (body_message 0 kind form 1 rows bytes rest c known b h) in
    record { stored = m.writable.stored; packed = m.packed; spelt = m.spelt ∙ leaf_bytes leaf }

leaf_message_at : (bytes : List ℕ) (leaf : Leaf) → IsLeafMessage bytes leaf → IsMessage 0 bytes (OfLeaf leaf)
leaf_message_at bytes leaf h = record { writable = record { stored = h.stored; shallow = omega arith }; packed = h.packed; spelt = h.spelt ∙ sym (leaf_bytes leaf) }

pub no_leaf : (bytes : List ℕ) → IsNoMessage 0 bytes → IsNoLeafMessage bytes
no_leaf bytes absent = record { none = λ leaf h. absent.none (OfLeaf leaf) (leaf_message_at bytes leaf h) }

pub no_leaf_form : (kind form rows : ℕ) (bytes rest : List ℕ) → kind < 2 ^ 64 → form < 2 ^ 64 → rows < 2 ^ 64 → bytes ≡ header_bytes kind form rows ++ rest → (form ≡ 1 → ⊥) → IsNoLeafMessage bytes
no_leaf_form kind form rows bytes rest p q r b other = record {
  none = λ leaf h. other (sym (body_of 0 kind form rows bytes rest (OfLeaf leaf) p q r b (leaf_message_at bytes leaf h)).form_is);
}

-- ---- flat columns of a type

pub flat_found : (t : DType) (kind form rows : ℕ) (bytes rest : List ℕ) (c d : Column) → form ≡ 1 → bytes ≡ header_bytes kind form rows ++ rest → IsBody 0 kind 1 rows rest c → d ≡ c → column_dtype c ≡ t → IsFlatMessage t bytes d
flat_found t kind form rows bytes rest c d known b h same typed =
    let at = leaf_at c 0 kind rows rest h in
    subst (λ (x : Column). IsFlatMessage t bytes x) (sym same) (record {
      leaf = at.leaf;
      is = at.is;
      typed = ap column_dtype (sym at.is) ∙ typed;
      message = body_message 0 kind form 1 rows bytes rest c known b h;
    })

pub no_flat : (t : DType) (bytes : List ℕ) → IsNoMessage 0 bytes → IsNoFlatMessage t bytes
no_flat t bytes absent = record { none = λ c h. absent.none c h.message }

pub no_flat_form : (t : DType) (kind form rows : ℕ) (bytes rest : List ℕ) → kind < 2 ^ 64 → form < 2 ^ 64 → rows < 2 ^ 64 → bytes ≡ header_bytes kind form rows ++ rest → (form ≡ 1 → ⊥) → IsNoFlatMessage t bytes
no_flat_form t kind form rows bytes rest p q r b other = record {
  none = λ c h. other (sym (body_of 0 kind form rows bytes rest c p q r b h.message).form_is ∙ ap form_number h.is);
}

pub other_type : (t : DType) (kind form rows : ℕ) (bytes rest : List ℕ) (c : Column) → length bytes < 2 ^ 64 → form ≡ 1 → bytes ≡ header_bytes kind form rows ++ rest → IsBody 0 kind 1 rows rest c → (column_dtype c ≡ t → ⊥) → IsNoFlatMessage t bytes
other_type t kind form rows bytes rest c lt known b h other = record {
  none = λ d k.
      let same : c ≡ d = message_one 0 0 bytes c d lt (body_message 0 kind form 1 rows bytes rest c known b h) k.message in
      other (ap column_dtype (same ∙ k.is) ∙ k.typed);
}

-- ---- runs over flat columns of a type

pub no_flat_runs : (t : DType) (bytes : List ℕ) → IsNoMessage 1 bytes → AreNoFlatRuns t bytes
no_flat_runs t bytes absent = record { none = λ c h. absent.none c h.message }

pub no_runs_form : (t : DType) (kind form rows : ℕ) (bytes rest : List ℕ) → kind < 2 ^ 64 → form < 2 ^ 64 → rows < 2 ^ 64 → bytes ≡ header_bytes kind form rows ++ rest → (form ≡ 2 → ⊥) → AreNoFlatRuns t bytes
no_runs_form t kind form rows bytes rest p q r b other = record {
  none = λ c h. other (sym (body_of 1 kind form rows bytes rest c p q r b h.message).form_is ∙ ap form_number h.is);
}

values_same : (t u : PType) (xs ys : List ℕ) (v w : Column) (a b m n : ℕ) → OfRuns t xs v a m ≡ OfRuns u ys w b n → v ≡ w
values_same t u xs ys v w a b m n e = cc

-- a message of runs whose header is read
module _ (t : DType) (kind form rows : ℕ) (bytes rest : List ℕ) (k-small : kind < 2 ^ 64) (f-small : form < 2 ^ 64) (r-small : rows < 2 ^ 64) (lt : length bytes < 2 ^ 64) (known : form ≡ 2) (b : bytes ≡ header_bytes kind form rows ++ rest) where
  small_rest : length rest < 2 ^ 64
  small_rest = rest_small kind form rows bytes rest lt b

  pub no_flat_fields : AreNoRunFields rest → AreNoFlatRuns t bytes
  no_flat_fields absent = no_flat_runs t bytes (no_body_of 1 kind form 2 rows bytes rest k-small f-small r-small known b (no_fields 1 kind rows rest small_rest absent))

  -- and whose fields are read
  module _ (offset : ℕ) (u : PType) (lengths values : List ℕ) (o-small : offset < 2 ^ 64) (l-small : length lengths < 2 ^ 64) (v-small : length values < 2 ^ 64) (f : rest ≡ run_fields offset u lengths values) where
    pub no_flat_values : IsNoFlatMessage t values → AreNoFlatRuns t bytes
    no_flat_values absent = record {
      none = λ c h.
          let own : IsBody 1 kind 2 rows rest c = subst (λ (n : ℕ). IsBody 1 kind n rows rest c) known (body_of 1 kind form rows bytes rest c k-small f-small r-small b h.message) in
          let at = runs_at c 1 kind rows rest own in
          let s = fields_are 1 kind rows offset u lengths values rest c small_rest o-small l-small v-small f at in
          let same : at.values ≡ OfLeaf h.leaf = values_same at.ends_type h.ends_type at.ends h.ends at.values (OfLeaf h.leaf) at.offset h.offset rows h.count (sym at.is ∙ h.is) in
          absent.none at.values (record {
            leaf = h.leaf;
            is = same;
            typed = h.typed;
            message = record { writable = record { stored = at.stored; shallow = omega (arith, at.shallow) }; packed = at.packed; spelt = s.3 };
          });
    }

    pub no_flat_run_column : (v : Column) → IsFlatMessage t values v → AreNoRunsOf kind rows offset u lengths v → AreNoFlatRuns t bytes
    no_flat_run_column v m absent =
        no_flat_runs t bytes (no_body_of 1 kind form 2 rows bytes rest k-small f-small r-small known b (no_runs 1 0 kind rows offset u lengths values rest v (omega arith) small_rest o-small l-small v-small f m.message absent))

    pub are_flat_runs : (v c : Column) → IsFlatMessage t values v → AreRunsOf kind rows offset u lengths v c → AreFlatRuns t bytes c
    are_flat_runs v c m r = record {
      ends_type = u;
      ends = r.ends;
      leaf = m.leaf;
      offset = offset;
      count = rows;
      is = r.is ∙ ap (λ (x : Column). OfRuns u r.ends x offset rows) m.is;
      typed = m.typed;
      message = body_message 1 kind form 2 rows bytes rest c known b (runs_body 1 0 kind rows offset u lengths values rest v c (omega arith) f m.message r);
    }

-- ---- offsets and sizes

index_read : (bytes : List ℕ) (c : Column) → IsIndex c → IsMessage 1 bytes c → IsIndexMessage bytes (index_of c)
index_read bytes c h m =
    let is : c ≡ index_column (index_of c) = index_is c h m.writable.stored in
    record {
      stored = index_stored_at (index_of c) (subst IsStored is m.writable.stored);
      spelt = m.spelt ∙ ap column_bytes is ∙ index_bytes (index_of c);
    }

pub flat_index : (bytes : List ℕ) (c : Column) → IsFlatMessage (dtype.Primitive U64 NonNullable) bytes c → IsIndex c
flat_index bytes c h = subst IsIndex (sym h.is) h.typed

pub flat_index_read : (bytes : List ℕ) (c : Column) → IsFlatMessage (dtype.Primitive U64 NonNullable) bytes c → IsIndexMessage bytes (index_of c)
flat_index_read bytes c h = index_read bytes c (flat_index bytes c h) (raised 0 1 bytes c (omega arith) h.message)

pub run_index : (bytes : List ℕ) (c d : Column) → d ≡ c → AreFlatRuns (dtype.Primitive U64 NonNullable) bytes c → IsIndex d
run_index bytes c d same h = subst IsIndex (sym (same ∙ h.is)) h.typed

pub run_index_read : (bytes : List ℕ) (c d : Column) → d ≡ c → AreFlatRuns (dtype.Primitive U64 NonNullable) bytes c → IsIndexMessage bytes (index_of d)
run_index_read bytes c d same h = index_read bytes d (run_index bytes c d same h) (subst (λ (x : Column). IsMessage 1 bytes x) (sym same) h.message)

pub no_index_header : (bytes : List ℕ) → HasNoHeader bytes → IsNoIndexMessage bytes
no_index_header bytes absent = record { none = λ index h. (no_header 1 bytes absent).none (index_column index) (index_message_at bytes index h.stored h.spelt) }

flat_at : (index : Index) (kind form rows : ℕ) (bytes rest : List ℕ) → kind < 2 ^ 64 → form < 2 ^ 64 → rows < 2 ^ 64 → form ≡ 1 → bytes ≡ header_bytes kind form rows ++ rest → IsIndexMessage bytes index → IsFlatMessage (dtype.Primitive U64 NonNullable) bytes (index_column index)
flat_at (PlainIndex numbers) kind form rows bytes rest p q r known b h = record {
  leaf = OfNumbers (index_form numbers);
  is = refl;
  typed = refl;
  message = record { writable = record { stored = h.stored; shallow = omega arith }; packed = tt; spelt = h.spelt ∙ sym (index_bytes (PlainIndex numbers)) };
}
flat_at (RunIndex t ends numbers offset count) kind form rows bytes rest p q r known b h =
    let own = body_of 1 kind form rows bytes rest (index_column (RunIndex t ends numbers offset count)) p q r b (index_message_at bytes (RunIndex t ends numbers offset count) h.stored h.spelt) in
    absurd (omega (arith, own.form_is, known))

pub no_flat_index : (kind form rows : ℕ) (bytes rest : List ℕ) → kind < 2 ^ 64 → form < 2 ^ 64 → rows < 2 ^ 64 → form ≡ 1 → bytes ≡ header_bytes kind form rows ++ rest → IsNoFlatMessage (dtype.Primitive U64 NonNullable) bytes → IsNoIndexMessage bytes
no_flat_index kind form rows bytes rest p q r known b absent = record { none = λ index h. absent.none (index_column index) (flat_at index kind form rows bytes rest p q r known b h) }

runs_in : (index : Index) (kind form rows : ℕ) (bytes rest : List ℕ) → kind < 2 ^ 64 → form < 2 ^ 64 → rows < 2 ^ 64 → (form ≡ 1 → ⊥) → bytes ≡ header_bytes kind form rows ++ rest → IsIndexMessage bytes index → AreFlatRuns (dtype.Primitive U64 NonNullable) bytes (index_column index)
runs_in (PlainIndex numbers) kind form rows bytes rest p q r other b h =
    let own = body_of 1 kind form rows bytes rest (index_column (PlainIndex numbers)) p q r b (index_message_at bytes (PlainIndex numbers) h.stored h.spelt) in
    absurd (other (sym own.form_is))
runs_in (RunIndex t ends numbers offset count) kind form rows bytes rest p q r other b h = record {
  ends_type = t;
  ends = ends;
  leaf = OfNumbers (index_form numbers);
  offset = offset;
  count = count;
  is = refl;
  typed = refl;
  message = index_message_at bytes (RunIndex t ends numbers offset count) h.stored h.spelt;
}

pub no_run_index : (kind form rows : ℕ) (bytes rest : List ℕ) → kind < 2 ^ 64 → form < 2 ^ 64 → rows < 2 ^ 64 → (form ≡ 1 → ⊥) → bytes ≡ header_bytes kind form rows ++ rest → AreNoFlatRuns (dtype.Primitive U64 NonNullable) bytes → IsNoIndexMessage bytes
no_run_index kind form rows bytes rest p q r other b absent = record { none = λ index h. absent.none (index_column index) (runs_in index kind form rows bytes rest p q r other b h) }

-- ---- validity by runs

flags_plain : (r : Runs) (message : List ℕ) → AreFlatRuns (dtype.Bool NonNullable) message (column_of_runs r) → IsPlainTruths r.values
flags_plain r message h =
    subst IsPlainTruths (sym (values_same r.ends_type h.ends_type r.ends h.ends r.values (OfLeaf h.leaf) r.offset h.offset r.count h.count h.is)) h.typed

pub flags_are_plain : (r s : Runs) (message : List ℕ) → s ≡ r → AreFlatRuns (dtype.Bool NonNullable) message (column_of_runs r) → IsPlainTruths s.values
flags_are_plain r s message same h = subst (λ (x : Runs). IsPlainTruths x.values) (sym same) (flags_plain r message h)

pub flags_found : (r s : Runs) (rows : ℕ) (message bytes rest : List ℕ) → s ≡ r → AreFlatRuns (dtype.Bool NonNullable) message (column_of_runs r) → r.count ≡ rows → bytes ≡ bytes_field 16 message ++ rest → BeginsWithValidity rows (number_field 5 5 ++ bytes) (runs_validity s) rest
flags_found r s rows message bytes rest same h counted b =
    let plain : IsPlainTruths r.values = flags_plain r message h in
    subst (λ (x : Runs). BeginsWithValidity rows (number_field 5 5 ++ bytes) (runs_validity x) rest) (sym same) (record {
      stored = flags_stored r plain h.message.writable.stored;
      counted = counted;
      spelt = ap (λ (x : List ℕ). number_field 5 5 ++ x) b ∙ sym (append_assoc (number_field 5 5) (bytes_field 16 message) rest) ∙ ap (λ (x : List ℕ). x ++ rest) (flags_bytes r message plain h.message.spelt);
    })

-- a validity after the field that says that it is in runs
pub record FlagsAt (rows : ℕ) (bytes rest : List ℕ) : Type 0 where
  pub ends_type : PType
  pub ends : List ℕ
  pub bits : List Bool
  pub offset : ℕ
  pub message : List ℕ
  pub small : length message < 2 ^ 64
  pub spelt : bytes ≡ bytes_field 16 message ++ rest
  pub runs : AreFlatRuns (dtype.Bool NonNullable) message (flags_column ends_type ends bits offset rows)

flags_short : (message rest : List ℕ) → length message ≤ length (bytes_field 16 message ++ rest)
unfolding bytes_field
flags_short message rest = omega (
  arith,
  length-append (varint (16 * 8 + 2) ++ (varint (length message) ++ message)) rest,
  length-append (varint (16 * 8 + 2)) (varint (length message) ++ message),
  length-append (varint (length message)) message,
)

flags_message : (t : PType) (ends : List ℕ) (bits : List Bool) (offset count : ℕ) → AreStoredRuns t ends (OfTruths (bool_with bits NeverNull)) offset count → AreFlatRuns (dtype.Bool NonNullable) (leaf_runs_message t ends (OfTruths (bool_with bits NeverNull)) offset count) (flags_column t ends bits offset count)
flags_message t ends bits offset count s = record {
  ends_type = t;
  ends = ends;
  leaf = OfTruths (bool_with bits NeverNull);
  offset = offset;
  count = count;
  is = refl;
  typed = refl;
  message = record {
    writable = record { stored = (s.fit, s.runs, s.stored); shallow = omega arith };
    packed = tt;
    spelt = sym (runs_bytes t ends (OfTruths (bool_with bits NeverNull)) offset count);
  };
}

pub flags_at : (form : RowValidityForm) (rows : ℕ) (bytes rest : List ℕ) → length bytes < 2 ^ 64 → BeginsWithValidity rows (number_field 5 5 ++ bytes) form rest → FlagsAt rows bytes rest
flags_at (ByRows v) rows bytes rest lt h =
    absurd ((other_kind rows 5 (number_field 5 5 ++ bytes) bytes (omega arith) refl (λ x. omega (arith, x)) (λ x. omega (arith, x)) (λ x. omega (arith, x)) (λ x. omega (arith, x))).none v rest h.counted h.spelt)
flags_at (ByRuns t ends bits offset count) rows bytes rest lt h =
    let message : List ℕ = leaf_runs_message t ends (OfTruths (bool_with bits NeverNull)) offset count in
    let own = number_field_same 5 5 5 bytes (bytes_field 16 message ++ rest) (omega arith) (omega arith) (omega arith) (h.spelt ∙ append_assoc (number_field 5 5) (bytes_field 16 message) rest) in
    record {
      ends_type = t;
      ends = ends;
      bits = bits;
      offset = offset;
      message = message;
      small = omega (arith, lt, ap length own.1, flags_short message rest);
      spelt = own.1;
      runs = subst (λ (n : ℕ). AreFlatRuns (dtype.Bool NonNullable) message (flags_column t ends bits offset n)) h.counted (flags_message t ends bits offset count h.stored);
    }

pub no_flags_field : (rows : ℕ) (bytes : List ℕ) → length bytes < 2 ^ 64 → HasNoBytesField 16 bytes → BeginsWithNoValidity rows (number_field 5 5 ++ bytes)
no_flags_field rows bytes lt absent = record {
  none = λ form rest h. let at = flags_at form rows bytes rest lt h in absent.none at.message rest at.small at.spelt;
}

pub no_flags : (rows : ℕ) (message bytes back : List ℕ) → length bytes < 2 ^ 64 → length message < 2 ^ 64 → bytes ≡ bytes_field 16 message ++ back → AreNoFlatRuns (dtype.Bool NonNullable) message → BeginsWithNoValidity rows (number_field 5 5 ++ bytes)
no_flags rows message bytes back lt small b absent = record {
  none = λ form rest h.
      let at = flags_at form rows bytes rest lt h in
      let same = bytes_field_same 16 message at.message back rest (omega arith) small at.small (sym b ∙ at.spelt) in
      absent.none (flags_column at.ends_type at.ends at.bits at.offset rows) (subst (λ (x : List ℕ). AreFlatRuns (dtype.Bool NonNullable) x (flags_column at.ends_type at.ends at.bits at.offset rows)) (sym same.0) at.runs);
}

count_same : (t u : PType) (xs ys : List ℕ) (v w : Column) (a b m n : ℕ) → OfRuns t xs v a m ≡ OfRuns u ys w b n → m ≡ n
count_same t u xs ys v w a b m n e = cc

pub other_rows : (r : Runs) (rows : ℕ) (message bytes back : List ℕ) → length bytes < 2 ^ 64 → length message < 2 ^ 64 → bytes ≡ bytes_field 16 message ++ back → AreFlatRuns (dtype.Bool NonNullable) message (column_of_runs r) → (r.count ≡ rows → ⊥) → BeginsWithNoValidity rows (number_field 5 5 ++ bytes)
other_rows r rows message bytes back lt small b found other = record {
  none = λ form rest h.
      let at = flags_at form rows bytes rest lt h in
      let same = bytes_field_same 16 message at.message back rest (omega arith) small at.small (sym b ∙ at.spelt) in
      let column : Column = flags_column at.ends_type at.ends at.bits at.offset rows in
      let one : column_of_runs r ≡ column = message_one 1 1 message (column_of_runs r) column small found.message (subst (λ (x : List ℕ). IsMessage 1 x column) (sym same.0) at.runs.message) in
      other (count_same r.ends_type at.ends_type r.ends at.ends r.values (OfLeaf (OfTruths (bool_with at.bits NeverNull))) r.offset at.offset r.count rows one);
}

-- ---- validity of either kind

pub keyed : (rows : ℕ) (bytes after : List ℕ) (form : RowValidityForm) (rest : List ℕ) → bytes ≡ number_field 5 5 ++ after → BeginsWithValidity rows (number_field 5 5 ++ after) form rest → BeginsWithValidity rows bytes form rest
keyed rows bytes after form rest b h = subst (λ (x : List ℕ). BeginsWithValidity rows x form rest) (sym b) h

pub not_keyed : (rows : ℕ) (bytes after : List ℕ) → bytes ≡ number_field 5 5 ++ after → BeginsWithNoValidity rows (number_field 5 5 ++ after) → BeginsWithNoValidity rows bytes
not_keyed rows bytes after b absent = subst (λ (x : List ℕ). BeginsWithNoValidity rows x) (sym b) absent

pub rows_found : (rows : ℕ) (bytes : List ℕ) (form : RowValidityForm) (v : ValidityForm) (rest : List ℕ) → form ≡ ByRows v → HasLength v rows → bytes ≡ validity_field v ++ rest → BeginsWithValidity rows bytes form rest
rows_found rows bytes form v rest is len b = subst (λ (x : RowValidityForm). BeginsWithValidity rows bytes x rest) (sym is) (record { stored = tt; counted = len; spelt = b })

neither_at : (form : RowValidityForm) (rows : ℕ) (bytes rest : List ℕ) → HasNoConstantField 5 5 bytes → HasNoValidity rows bytes → BeginsWithValidity rows bytes form rest → ⊥
neither_at (ByRows v) rows bytes rest key absent h = absent.none v rest h.counted h.spelt
neither_at (ByRuns t ends bits offset count) rows bytes rest key absent h =
    key.none (bytes_field 16 (leaf_runs_message t ends (OfTruths (bool_with bits NeverNull)) offset count) ++ rest) (h.spelt ∙ append_assoc (number_field 5 5) (bytes_field 16 (leaf_runs_message t ends (OfTruths (bool_with bits NeverNull)) offset count)) rest)

pub neither : (rows : ℕ) (bytes : List ℕ) → HasNoConstantField 5 5 bytes → HasNoValidity rows bytes → BeginsWithNoValidity rows bytes
neither rows bytes key absent = record { none = λ form rest h. neither_at form rows bytes rest key absent h }
