-- Flat columns without null, and runs over these, are seen as they are written, and in no other way.
use Rattle.std.proofs.Common.{◌≡◌, ℕ, ◌^◌, ◌<◌, true, List, ◌++◌, length, refl, sym, ap, subst, ◌∙◌, arith}
use Rattle.column_base.specs.declared.dtype.PType.{PType}
use Rattle.column_base.specs.ValidityForm.{NeverNull}
use Rattle.column_fields.specs.Field.{number_field, bytes_field, HasNoConstantField, IsNoBytesField}
use Rattle.column_fields.specs.FlatFields.{flat_fields}
use Rattle.column_fields.specs.Header.{header_bytes, HasNoHeader}
use Rattle.column_fields.specs.Lengths.{lengths_bytes, Rises, AreEndsOf, HasNoEndsOf}
use Rattle.column_fields.specs.RunFields.{run_fields, AreNoRunFields}
use Rattle.column_fields.specs.Validity.{validity_field}
use Rattle.column_fields.proofs.EndReading.{lengths_same}
use Rattle.column_fields.proofs.FieldLaws.{number_field_same}
use Rattle.column_fields.proofs.FlatFieldLaws.{flat_same}
use Rattle.column_fields.proofs.HeaderLaws.{header_same}
use Rattle.column_fields.proofs.RunFieldLaws.{runs_same}
use Rattle.runend_windows.specs.Window.{IsWindow}
use Rattle.column_bytes.specs.ListViews.{flat_message, runs_message, IsFlatOf, IsFlatOfNone, AreRunsOfNone}
use Rattle.column_bytes.proofs.Leaves.{items_small}
use Rattle.column_bytes.proofs.Messages.{lengths_long, values_long}
use Rattle.column_bytes.proofs.RunLaws.{rest_small}

-- ---- flat columns

required : (items : List ℕ) → flat_fields NeverNull items ≡ number_field 5 1 ++ bytes_field 7 items
unfolding flat_fields validity_field
required items = refl

pub no_flat_header : (kind : ℕ) (bytes : List ℕ) → kind < 2 ^ 64 → HasNoHeader bytes → IsFlatOfNone kind bytes
no_flat_header kind bytes k absent = record { none = λ rows items r i e. absent.none kind 1 rows (flat_fields NeverNull items) k (omega arith) r e }

-- the items of a flat message are shorter than it
pub message_items_small : (kind rows : ℕ) (items bytes : List ℕ) → length bytes < 2 ^ 64 → bytes ≡ flat_message kind rows items → length items < 2 ^ 64
message_items_small kind rows items bytes lt b = items_small NeverNull items (flat_fields NeverNull items) (rest_small kind 1 rows bytes (flat_fields NeverNull items) lt b) refl

-- a window's offset, and the parts of a message of runs, are counted in 64 bits
record Small (offset : ℕ) (lengths values : List ℕ) : Type 0 where
  pub offset_is : offset < 2 ^ 64
  pub lengths_are : length lengths < 2 ^ 64
  pub values_are : length values < 2 ^ 64

-- a message whose header is read
module _ (kind k form n : ℕ) (bytes body : List ℕ) (known-small : kind < 2 ^ 64) (k-small : k < 2 ^ 64) (f-small : form < 2 ^ 64) (n-small : n < 2 ^ 64) (b : bytes ≡ header_bytes k form n ++ body) where
  flat_at : (rows : ℕ) (items : List ℕ) → rows < 2 ^ 64 → bytes ≡ flat_message kind rows items → (k ≡ kind) × (form ≡ 1) × (n ≡ rows) × (body ≡ flat_fields NeverNull items)
  flat_at rows items r e = header_same k form n kind 1 rows body (flat_fields NeverNull items) k-small f-small n-small known-small (omega arith) r (sym b ∙ e)

  pub other_flat_kind : (k ≡ kind → ⊥) → IsFlatOfNone kind bytes
  other_flat_kind other = record { none = λ rows items r i e. other (flat_at rows items r e).0 }

  pub other_flat_form : (form ≡ 1 → ⊥) → IsFlatOfNone kind bytes
  other_flat_form other = record { none = λ rows items r i e. other (flat_at rows items r e).1 }

  pub not_required : HasNoConstantField 5 1 body → IsFlatOfNone kind bytes
  not_required absent = record { none = λ rows items r i e. absent.none (bytes_field 7 items) ((flat_at rows items r e).3 ∙ required items) }

  pub no_flat_items : (rest : List ℕ) → body ≡ number_field 5 1 ++ rest → IsNoBytesField 7 rest → IsFlatOfNone kind bytes
  no_flat_items rest v absent = record {
    none = λ rows items r i e. absent.none items i (number_field_same 5 1 1 rest (bytes_field 7 items) (omega arith) (omega arith) (omega arith) (sym v ∙ (flat_at rows items r e).3 ∙ required items)).1;
  }

  pub flat_seen : (rest items : List ℕ) → k ≡ kind → form ≡ 1 → body ≡ number_field 5 1 ++ rest → rest ≡ bytes_field 7 items → length items < 2 ^ 64 → IsFlatOf kind bytes n items
  flat_seen rest items known is v i short = record {
    small = n-small;
    short = short;
    spelt = b ∙ ap (λ (x : ℕ). header_bytes x form n ++ body) known ∙ ap (λ (x : ℕ). header_bytes kind x n ++ body) is ∙ ap (λ (x : List ℕ). header_bytes kind 1 n ++ x) (v ∙ ap (λ (x : List ℕ). number_field 5 1 ++ x) i ∙ sym (required items));
  }

  -- ---- runs

  module _ (lt : length bytes < 2 ^ 64) where
    body_small : length body < 2 ^ 64
    body_small = rest_small k form n bytes body lt b

    runs_at : (rows offset : ℕ) (t : PType) (ends items : List ℕ) → IsWindow ends offset rows → bytes ≡ runs_message kind rows offset t ends items → (k ≡ kind) × (form ≡ 2) × (n ≡ rows) × (body ≡ run_fields offset t (lengths_bytes 0 ends) (flat_message kind (length ends) items))
    runs_at rows offset t ends items w e = header_same k form n kind 2 rows body (run_fields offset t (lengths_bytes 0 ends) (flat_message kind (length ends) items)) k-small f-small n-small known-small (omega arith) (omega (arith, w.small)) (sym b ∙ e)

    pub other_runs_kind : (k ≡ kind → ⊥) → AreRunsOfNone kind bytes
    other_runs_kind other = record { none = λ rows offset t ends items fit rise w s e. other (runs_at rows offset t ends items w e).0 }

    pub other_runs_form : (form ≡ 2 → ⊥) → AreRunsOfNone kind bytes
    other_runs_form other = record { none = λ rows offset t ends items fit rise w s e. other (runs_at rows offset t ends items w e).1 }

    parts_small : (rows offset : ℕ) (t : PType) (ends values : List ℕ) → IsWindow ends offset rows → body ≡ run_fields offset t (lengths_bytes 0 ends) values → Small offset (lengths_bytes 0 ends) values
    parts_small rows offset t ends values w e = record {
      offset_is = omega (arith, w.small);
      lengths_are = omega (arith, body_small, ap length e, lengths_long offset t (lengths_bytes 0 ends) values);
      values_are = omega (arith, body_small, ap length e, values_long offset t (lengths_bytes 0 ends) values);
    }

    pub no_seen_fields : AreNoRunFields body → AreRunsOfNone kind bytes
    no_seen_fields absent = record {
      none = λ rows offset t ends items fit rise w s e.
          let message : List ℕ = flat_message kind (length ends) items in
          let at = runs_at rows offset t ends items w e in
          let p = parts_small rows offset t ends message w at.3 in
          absent.none offset t (lengths_bytes 0 ends) message p.offset_is p.lengths_are p.values_are at.3;
    }

    -- and whose fields are read
    module _ (o : ℕ) (u : PType) (lengths values : List ℕ) (o-small : o < 2 ^ 64) (l-small : length lengths < 2 ^ 64) (v-small : length values < 2 ^ 64) (f : body ≡ run_fields o u lengths values) where
      fields_at : (rows offset : ℕ) (t : PType) (ends items : List ℕ) → IsWindow ends offset rows → bytes ≡ runs_message kind rows offset t ends items → (o ≡ offset) × (u ≡ t) × (lengths ≡ lengths_bytes 0 ends) × (values ≡ flat_message kind (length ends) items)
      fields_at rows offset t ends items w e =
          let message : List ℕ = flat_message kind (length ends) items in
          let at = runs_at rows offset t ends items w e in
          let p = parts_small rows offset t ends message w at.3 in
          runs_same o offset u t lengths (lengths_bytes 0 ends) values message o-small p.offset_is l-small p.lengths_are v-small p.values_are (sym f ∙ at.3)

      pub no_seen_values : IsFlatOfNone kind values → AreRunsOfNone kind bytes
      no_seen_values absent = record {
        none = λ rows offset t ends items fit rise w s e.
            let at = fields_at rows offset t ends items w e in
            absent.none (length ends) items s (message_items_small kind (length ends) items values v-small at.3) at.3;
      }

      pub no_seen_ends : HasNoEndsOf u lengths → AreRunsOfNone kind bytes
      no_seen_ends absent = record {
        none = λ rows offset t ends items fit rise w s e.
            let at = fields_at rows offset t ends items w e in
            absent.none ends (subst (λ (x : PType). AreEndsOf x ends) (sym at.1) fit) rise at.2;
      }

      -- ends of which these are the lengths, over values that are seen
      module _ (ends items : List ℕ) (runs : ℕ) (fit : AreEndsOf u ends) (rise : Rises true 0 ends) (l : lengths ≡ lengths_bytes 0 ends) (flat : IsFlatOf kind values runs items) where
        pub no_seen_window : (IsWindow ends o n × (runs ≡ length ends) → ⊥) → AreRunsOfNone kind bytes
        no_seen_window absent = record {
          none = λ rows offset t others shown fits rises w s e.
              let at = fields_at rows offset t others shown w e in
              let same : others ≡ ends = lengths_same true 0 others ends rises rise (sym at.2 ∙ l) in
              let counted : runs ≡ length others = (header_same kind 1 runs kind 1 (length others) (flat_fields NeverNull items) (flat_fields NeverNull shown) known-small (omega arith) flat.small known-small (omega arith) s (sym flat.spelt ∙ at.3)).2 in
              let own : IsWindow others o n = subst (λ (x : ℕ). IsWindow others o x) (sym (runs_at rows offset t others shown w e).2) (subst (λ (x : ℕ). IsWindow others x rows) (sym at.0) w) in
              absent (subst (λ (x : List ℕ). IsWindow x o n × (runs ≡ length x)) same (own, counted));
        }

        pub seen_spelt : k ≡ kind → form ≡ 2 → runs ≡ length ends → bytes ≡ runs_message kind n o u ends items
        seen_spelt known is counted =
            b ∙ ap (λ (x : ℕ). header_bytes x form n ++ body) known ∙ ap (λ (x : ℕ). header_bytes kind x n ++ body) is ∙ ap (λ (x : List ℕ). header_bytes kind 2 n ++ x) (f ∙ ap (λ (x : List ℕ). run_fields o u x values) l ∙ ap (λ (x : List ℕ). run_fields o u (lengths_bytes 0 ends) x) (flat.spelt ∙ ap (λ (x : ℕ). flat_message kind x items) counted))

pub no_runs_header : (kind : ℕ) (bytes : List ℕ) → kind < 2 ^ 64 → HasNoHeader bytes → AreRunsOfNone kind bytes
no_runs_header kind bytes k absent = record {
  none = λ rows offset t ends items fit rise w s e. absent.none kind 2 rows (run_fields offset t (lengths_bytes 0 ends) (flat_message kind (length ends) items)) k (omega arith) (omega (arith, w.small)) e;
}

-- ---- one spelling each

pub flat_one : (kind m n : ℕ) (xs ys bytes : List ℕ) → kind < 2 ^ 64 → m < 2 ^ 64 → n < 2 ^ 64 → length xs < 2 ^ 64 → length ys < 2 ^ 64 → bytes ≡ flat_message kind m xs → bytes ≡ flat_message kind n ys → (m ≡ n) × (xs ≡ ys)
flat_one kind m n xs ys bytes k p q x y a b =
    let h = header_same kind 1 m kind 1 n (flat_fields NeverNull xs) (flat_fields NeverNull ys) k (omega arith) p k (omega arith) q (sym a ∙ b) in
    (h.2, (flat_same NeverNull NeverNull m xs ys p tt tt x y h.3).1)

pub runs_or_flat : (kind rows n offset : ℕ) (t : PType) (ends items shown bytes : List ℕ) → kind < 2 ^ 64 → n < 2 ^ 64 → IsWindow ends offset rows → bytes ≡ flat_message kind n shown → bytes ≡ runs_message kind rows offset t ends items → ⊥
runs_or_flat kind rows n offset t ends items shown bytes k small w a b =
    let h = header_same kind 1 n kind 2 rows (flat_fields NeverNull shown) (run_fields offset t (lengths_bytes 0 ends) (flat_message kind (length ends) items)) k (omega arith) small k (omega arith) (omega (arith, w.small)) (sym a ∙ b) in
    omega (arith, h.1)

-- runs have one spelling: these are all of it but the type of the ends
pub runs_one : (kind m n o p : ℕ) (t u : PType) (xs ys a c bytes : List ℕ) → kind < 2 ^ 64 → length bytes < 2 ^ 64 → length xs < 2 ^ 64 → length ys < 2 ^ 64 → Rises true 0 xs → Rises true 0 ys → IsWindow xs o m → IsWindow ys p n → bytes ≡ runs_message kind m o t xs a → bytes ≡ runs_message kind n p u ys c → (m ≡ n) × (xs ≡ ys) × (a ≡ c)
runs_one kind m n o p t u xs ys a c bytes k lt x-small y-small x-rise y-rise w v d e =
    let first : List ℕ = flat_message kind (length xs) a in
    let second : List ℕ = flat_message kind (length ys) c in
    let body : List ℕ = run_fields o t (lengths_bytes 0 xs) first in
    let other : List ℕ = run_fields p u (lengths_bytes 0 ys) second in
    let h = header_same kind 2 m kind 2 n body other k (omega arith) (omega (arith, w.small)) k (omega arith) (omega (arith, v.small)) (sym d ∙ e) in
    let body-small : length body < 2 ^ 64 = rest_small kind 2 m bytes body lt d in
    let first-small : length first < 2 ^ 64 = omega (arith, body-small, values_long o t (lengths_bytes 0 xs) first) in
    let second-small : length second < 2 ^ 64 = omega (arith, body-small, ap length h.3, values_long p u (lengths_bytes 0 ys) second) in
    let f = runs_same o p t u (lengths_bytes 0 xs) (lengths_bytes 0 ys) first second (omega (arith, w.small)) (omega (arith, v.small)) (omega (arith, body-small, lengths_long o t (lengths_bytes 0 xs) first)) (omega (arith, body-small, ap length h.3, lengths_long p u (lengths_bytes 0 ys) second)) first-small second-small h.3 in
    let flat = flat_one kind (length xs) (length ys) a c first k x-small y-small (message_items_small kind (length xs) a first first-small refl) (message_items_small kind (length ys) c second second-small refl) refl f.3 in
    (h.2, lengths_same true 0 xs ys x-rise y-rise f.2, flat.1)
