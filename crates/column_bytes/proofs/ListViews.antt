-- The parts of lists are seen as they are written, and in no other way.
use Rattle.std.proofs.Common.{◌≡◌, ℕ, ℤ, pos, ◌*◌, ◌^◌, ◌<◌, Bool, true, List, ◌++◌, length, map, refl, sym, ap, subst, ◌∙◌, arith, append_assoc}
use Rattle.std.specs.Prelude.{unsigned_abs}
use Rattle.std.specs.List.{All}
use Rattle.std.proofs.lemmas.List.{length-map}
use Rattle.std.proofs.lemmas.List.Elements.{recursion_from_All}
use Rattle.column_base.specs.declared.dtype.PType.{PType}
use Rattle.column_base.specs.declared.dtype.PType.TheVariants.{U64}
use Rattle.column_base.specs.Types.{HasNumber}
use Rattle.column_base.specs.ValidityForm.{NeverNull}
use Rattle.column_core.specs.BoolForm.{bool_with}
use Rattle.column_core.specs.Leaf.{Leaf, OfNumbers, OfTruths, leaf_count, leaf_rows}
use Rattle.column_fields.specs.BitBytes.{bit_bytes, bits_from, HasNoBits}
use Rattle.column_fields.specs.Field.{number_field, bytes_field}
use Rattle.column_fields.specs.Header.{header_bytes}
use Rattle.column_fields.specs.Held.{HeldNumbers, AreHeldBits}
use Rattle.column_fields.specs.Lengths.{lengths_bytes, Rises}
use Rattle.column_fields.specs.NumberBytes.{numbers_bytes, size_of}
use Rattle.column_fields.specs.RunFields.{run_fields}
use Rattle.column_fields.proofs.FieldLaws.{bytes_field_same}
use Rattle.column_fields.proofs.NumberSame.{length-numbers_bytes}
use Rattle.runend_array.specs.Column.{Column, OfLeaf}
use Rattle.runend_array.specs.Lists.{Index, PlainIndex, RunIndex, RowValidityForm, ByRuns}
use Rattle.column_bytes.specs.Bytes.{index_form, index_message, leaf_message, leaf_runs_message}
use Rattle.column_bytes.specs.ListRead.{IsLeafMessage, IsIndexMessage, IsNoIndexMessage, BeginsWithValidity, BeginsWithNoValidity}
use Rattle.column_bytes.specs.ListViews.{flat_message, runs_message, HasNumberBytes, IsFlatOf, IsFlatOfNone, AreRunsSeen, AreRunsOfNone}
use Rattle.column_bytes.specs.Read.{IsBody}
use Rattle.column_bytes.specs.Stored.{AreNumbers, AreStoredRuns, IsStoredLeaf}
use Rattle.column_bytes.specs.declared.run_views.RunsView.{RunsView}
use Rattle.column_bytes.proofs.Ends.{ends_rise}
use Rattle.column_bytes.proofs.FlatReads.{FlagsAt, flags_at, leaf_at, leaf_found}
use Rattle.column_bytes.proofs.ListColumns.{magnitudes}
use Rattle.column_bytes.proofs.Messages.{runs_bytes}
use Rattle.column_bytes.proofs.RunChecks.{leaf_counted, rows_counted}
use Rattle.column_bytes.proofs.RunViews.{flat_one, message_items_small, runs_one, runs_or_flat}

-- runs over a flat column without null, whose items have these bytes, are spelt by their parts
runs_spelt : (t : PType) (ends : List ℕ) (leaf : Leaf) (offset count kind : ℕ) (items : List ℕ) → length ends ≡ leaf_count leaf → leaf_message leaf ≡ flat_message kind (leaf_count leaf) items → header_bytes kind 2 count ++ run_fields offset t (lengths_bytes 0 ends) (leaf_message leaf) ≡ runs_message kind count offset t ends items
runs_spelt t ends leaf offset count kind items counted is =
    ap (λ (x : List ℕ). header_bytes kind 2 count ++ run_fields offset t (lengths_bytes 0 ends) x) (is ∙ ap (λ (n : ℕ). flat_message kind n items) (sym counted))

-- as many values as runs
values_paired : (t : PType) (ends : List ℕ) (leaf : Leaf) (offset count : ℕ) → AreStoredRuns t ends leaf offset count → length ends ≡ leaf_count leaf
values_paired t ends leaf offset count s = sym s.runs.paired ∙ rows_counted (OfLeaf leaf) s.stored

-- ---- offsets and sizes

plain_spelt : (numbers : List ℕ) → index_message (PlainIndex numbers) ≡ flat_message 4 (leaf_count (OfNumbers (index_form numbers))) (numbers_bytes U64 (map (λ (n : ℕ). pos n) numbers))
plain_spelt numbers = refl

runs_index_spelt : (t : PType) (ends numbers : List ℕ) (offset count : ℕ) → AreStoredRuns t ends (OfNumbers (index_form numbers)) offset count → index_message (RunIndex t ends numbers offset count) ≡ runs_message 4 count offset t ends (numbers_bytes U64 (map (λ (n : ℕ). pos n) numbers))
runs_index_spelt t ends numbers offset count s =
    runs_spelt t ends (OfNumbers (index_form numbers)) offset count 4 (numbers_bytes U64 (map (λ (n : ℕ). pos n) numbers)) (values_paired t ends (OfNumbers (index_form numbers)) offset count s) refl

-- bytes that are not flat, and not runs
no_plain_at : (bytes numbers : List ℕ) → length bytes < 2 ^ 64 → IsFlatOfNone 4 bytes → IsIndexMessage bytes (PlainIndex numbers) → ⊥
no_plain_at bytes numbers lt absent h =
    let items : List ℕ = numbers_bytes U64 (map (λ (n : ℕ). pos n) numbers) in
    let count : ℕ = leaf_count (OfNumbers (index_form numbers)) in
    let spelt : bytes ≡ flat_message 4 count items = h.spelt ∙ plain_spelt numbers in
    absent.none count items h.stored.small (message_items_small 4 count items bytes lt spelt) spelt

few_runs : (t : PType) (ends numbers : List ℕ) (offset count : ℕ) → AreStoredRuns t ends (OfNumbers (index_form numbers)) offset count → length ends < 2 ^ 64
few_runs t ends numbers offset count s = omega (arith, values_paired t ends (OfNumbers (index_form numbers)) offset count s, s.stored.small)

no_runs_at : (bytes : List ℕ) (t : PType) (ends numbers : List ℕ) (offset count : ℕ) → AreRunsOfNone 4 bytes → IsIndexMessage bytes (RunIndex t ends numbers offset count) → ⊥
no_runs_at bytes t ends numbers offset count absent h =
    absent.none count offset t ends (numbers_bytes U64 (map (λ (n : ℕ). pos n) numbers)) h.stored.fit (ends_rise t ends (OfLeaf (OfNumbers (index_form numbers))) offset count h.stored.fit h.stored.runs) h.stored.runs.window (few_runs t ends numbers offset count h.stored) (h.spelt ∙ runs_index_spelt t ends numbers offset count h.stored)

neither_at : (bytes : List ℕ) (i : Index) → length bytes < 2 ^ 64 → IsFlatOfNone 4 bytes → AreRunsOfNone 4 bytes → IsIndexMessage bytes i → ⊥
neither_at bytes (PlainIndex numbers) lt flat runs h = no_plain_at bytes numbers lt flat h
neither_at bytes (RunIndex t ends numbers offset count) lt flat runs h = no_runs_at bytes t ends numbers offset count runs h

pub no_index_seen : (bytes : List ℕ) → length bytes < 2 ^ 64 → IsFlatOfNone 4 bytes → AreRunsOfNone 4 bytes → IsNoIndexMessage bytes
no_index_seen bytes lt flat runs = record { none = λ i h. neither_at bytes i lt flat runs h }

-- flat items of another length
other_plain_at : (bytes : List ℕ) (i : Index) (rows : ℕ) (items : List ℕ) → length bytes < 2 ^ 64 → IsFlatOf 4 bytes rows items → (length items ≡ rows * size_of U64 → ⊥) → IsIndexMessage bytes i → ⊥
other_plain_at bytes (PlainIndex numbers) rows items lt f other h =
    let own : List ℕ = numbers_bytes U64 (map (λ (n : ℕ). pos n) numbers) in
    let count : ℕ = leaf_count (OfNumbers (index_form numbers)) in
    let spelt : bytes ≡ flat_message 4 count own = h.spelt ∙ plain_spelt numbers in
    let same = flat_one 4 count rows own items bytes (omega arith) h.stored.small f.small (message_items_small 4 count own bytes lt spelt) f.short spelt f.spelt in
    other (ap length (sym same.1) ∙ length-numbers_bytes U64 (map (λ (n : ℕ). pos n) numbers) ∙ ap (λ (n : ℕ). n * size_of U64) same.0)
other_plain_at bytes (RunIndex t ends numbers offset count) rows items lt f other h =
    runs_or_flat 4 count rows offset t ends (numbers_bytes U64 (map (λ (n : ℕ). pos n) numbers)) items bytes (omega arith) f.small h.stored.runs.window f.spelt (h.spelt ∙ runs_index_spelt t ends numbers offset count h.stored)

pub other_flat_length : (bytes : List ℕ) (rows : ℕ) (items : List ℕ) → length bytes < 2 ^ 64 → IsFlatOf 4 bytes rows items → (length items ≡ rows * size_of U64 → ⊥) → IsNoIndexMessage bytes
other_flat_length bytes rows items lt f other = record { none = λ i h. other_plain_at bytes i rows items lt f other h }

-- runs over items of another length
other_runs_at : (bytes : List ℕ) (i : Index) (u : PType) (seen : List ℕ) (view : RunsView) → length bytes < 2 ^ 64 → IsFlatOfNone 4 bytes → AreRunsSeen 4 bytes u seen view → (length view.items.now ≡ view.count * size_of U64 → ⊥) → IsIndexMessage bytes i → ⊥
other_runs_at bytes (PlainIndex numbers) u seen view lt flat r other h = no_plain_at bytes numbers lt flat h
other_runs_at bytes (RunIndex t ends numbers offset count) u seen view lt flat r other h =
    let own : List ℕ = numbers_bytes U64 (map (λ (n : ℕ). pos n) numbers) in
    let rise = ends_rise t ends (OfLeaf (OfNumbers (index_form numbers))) offset count h.stored.fit h.stored.runs in
    let same = runs_one 4 count view.rows offset view.offset t u ends seen own view.items.now bytes (omega arith) lt (few_runs t ends numbers offset count h.stored) r.has.few rise r.has.rise h.stored.runs.window r.has.window (h.spelt ∙ runs_index_spelt t ends numbers offset count h.stored) r.spelt in
    let counted : leaf_count (OfNumbers (index_form numbers)) ≡ view.count = sym (values_paired t ends (OfNumbers (index_form numbers)) offset count h.stored) ∙ ap length same.1 ∙ r.has.counted in
    other (ap length (sym same.2) ∙ length-numbers_bytes U64 (map (λ (n : ℕ). pos n) numbers) ∙ ap (λ (n : ℕ). n * size_of U64) counted)

pub other_runs_length : (bytes : List ℕ) (u : PType) (seen : List ℕ) (view : RunsView) → length bytes < 2 ^ 64 → IsFlatOfNone 4 bytes → AreRunsSeen 4 bytes u seen view → (length view.items.now ≡ view.count * size_of U64 → ⊥) → IsNoIndexMessage bytes
other_runs_length bytes u seen view lt flat r other = record { none = λ i h. other_runs_at bytes i u seen view lt flat r other h }

-- the numbers that bytes hold
record Naturals (count : ℕ) (items : List ℕ) : Type 0 where
  pub numbers : List ℕ
  pub counted : length numbers ≡ count
  pub fit : All (λ z. HasNumber U64 z) (map (λ (n : ℕ). pos n) numbers)
  pub spelt : HasNumberBytes numbers items

naturals : (count : ℕ) (items : List ℕ) → HeldNumbers U64 count items → Naturals count items
naturals count items h =
    let numbers : List ℕ = map unsigned_abs h.numbers in
    let back : map (λ (n : ℕ). pos n) numbers ≡ h.numbers = magnitudes h.numbers (recursion_from_All (λ z. HasNumber U64 z) h.numbers h.fit) in
    record {
      numbers = numbers;
      counted = length-map h.numbers unsigned_abs ∙ h.counted;
      fit = subst (λ (zs : List ℤ). All (λ z. HasNumber U64 z) zs) (sym back) h.fit;
      spelt = ap (numbers_bytes U64) back ∙ h.shows;
    }

index_stored : (numbers : List ℕ) (count : ℕ) → length numbers ≡ count → count < 2 ^ 64 → All (λ z. HasNumber U64 z) (map (λ (n : ℕ). pos n) numbers) → AreNumbers (index_form numbers)
index_stored numbers count counted small fit = record { fit = fit; counted = tt; small = omega (arith, length-map numbers (λ (n : ℕ). pos n), counted, small) }

-- flat offsets or sizes
module _ (bytes : List ℕ) (rows : ℕ) (f-items : List ℕ) (f : IsFlatOf 4 bytes rows f-items) (held : HeldNumbers U64 rows f-items) where
  flat_numbers : Naturals rows f-items
  flat_numbers = naturals rows f-items held

  flat_stored : AreNumbers (index_form flat_numbers.numbers)
  flat_stored = index_stored flat_numbers.numbers rows flat_numbers.counted f.small flat_numbers.fit

  flat_message_is : IsIndexMessage bytes (PlainIndex flat_numbers.numbers)
  flat_message_is =
      let counted : rows ≡ leaf_count (OfNumbers (index_form flat_numbers.numbers)) = sym (length-map flat_numbers.numbers (λ (n : ℕ). pos n) ∙ flat_numbers.counted) in
      record {
        stored = flat_stored;
        spelt = f.spelt ∙ ap (λ (n : ℕ). flat_message 4 n f-items) counted ∙ ap (λ (x : List ℕ). flat_message 4 (leaf_count (OfNumbers (index_form flat_numbers.numbers))) x) (sym flat_numbers.spelt);
      }

-- runs over flat values
module _ (kind : ℕ) (bytes : List ℕ) (t : PType) (ends : List ℕ) (view : RunsView) (leaf : Leaf) (r : AreRunsSeen kind bytes t ends view) (stored : IsStoredLeaf leaf) (counted : leaf_count leaf ≡ view.count) where
  runs_stored : AreStoredRuns t ends leaf view.offset view.rows
  runs_stored = record {
    fit = r.has.fit;
    runs = record { window = r.has.window; paired = rows_counted (OfLeaf leaf) stored ∙ counted ∙ sym r.has.counted };
    stored = stored;
  }

  runs_message_is : leaf_message leaf ≡ flat_message kind (leaf_count leaf) view.items.now → bytes ≡ header_bytes kind 2 view.rows ++ run_fields view.offset t (lengths_bytes 0 ends) (leaf_message leaf)
  runs_message_is is = r.spelt ∙ sym (runs_spelt t ends leaf view.offset view.rows kind view.items.now (values_paired t ends leaf view.offset view.rows runs_stored) is)

pub record NumbersSeen (bytes items : List ℕ) : Type 0 where
  pub numbers : List ℕ
  pub message : IsIndexMessage bytes (PlainIndex numbers)
  pub spelt : HasNumberBytes numbers items

pub flat_index_seen : (bytes : List ℕ) (rows : ℕ) (items : List ℕ) → IsFlatOf 4 bytes rows items → HeldNumbers U64 rows items → NumbersSeen bytes items
flat_index_seen bytes rows items f held = record {
  numbers = (flat_numbers bytes rows items f held).numbers;
  message = flat_message_is bytes rows items f held;
  spelt = (flat_numbers bytes rows items f held).spelt;
}

pub record RunNumbersSeen (bytes : List ℕ) (t : PType) (ends : List ℕ) (view : RunsView) : Type 0 where
  pub numbers : List ℕ
  pub message : IsIndexMessage bytes (RunIndex t ends numbers view.offset view.rows)
  pub counted : length numbers ≡ length ends
  pub spelt : HasNumberBytes numbers view.items.now

pub run_index_seen : (bytes : List ℕ) (t : PType) (ends : List ℕ) (view : RunsView) → AreRunsSeen 4 bytes t ends view → HeldNumbers U64 view.count view.items.now → RunNumbersSeen bytes t ends view
run_index_seen bytes t ends view r held =
    let n = naturals view.count view.items.now held in
    let leaf : Leaf = OfNumbers (index_form n.numbers) in
    let few : view.count < 2 ^ 64 = omega (arith, r.has.counted, r.has.few) in
    let stored : AreNumbers (index_form n.numbers) = index_stored n.numbers view.count n.counted few n.fit in
    let counted : leaf_count leaf ≡ view.count = length-map n.numbers (λ (x : ℕ). pos x) ∙ n.counted in
    record {
      numbers = n.numbers;
      message = record {
        stored = runs_stored 4 bytes t ends view leaf r stored counted;
        spelt = runs_message_is 4 bytes t ends view leaf r stored counted (ap (λ (x : List ℕ). flat_message 4 (leaf_count leaf) x) n.spelt);
      };
      counted = n.counted ∙ sym r.has.counted;
      spelt = n.spelt;
    }

-- ---- validity

truths_spelt : (t : PType) (ends : List ℕ) (bits : List Bool) (offset count : ℕ) → AreStoredRuns t ends (OfTruths (bool_with bits NeverNull)) offset count → leaf_runs_message t ends (OfTruths (bool_with bits NeverNull)) offset count ≡ runs_message 9 count offset t ends (bit_bytes bits)
truths_spelt t ends bits offset count s =
    runs_spelt t ends (OfTruths (bool_with bits NeverNull)) offset count 9 (bit_bytes bits) (values_paired t ends (OfTruths (bool_with bits NeverNull)) offset count s) refl

-- the message after the field that says that a validity is in runs
module _ (rows : ℕ) (bytes : List ℕ) (form : RowValidityForm) (rest : List ℕ) (lt : length bytes < 2 ^ 64) (h : BeginsWithValidity rows (number_field 5 5 ++ bytes) form rest) where
  flags_here : FlagsAt rows bytes rest
  flags_here = flags_at form rows bytes rest lt h

  flags_stored : AreStoredRuns flags_here.ends_type flags_here.ends (OfTruths (bool_with flags_here.bits NeverNull)) flags_here.offset rows
  flags_stored = let s = flags_here.runs.message.writable.stored in record { fit = s.0; runs = s.1; stored = s.2 }

  flags_message : flags_here.message ≡ runs_message 9 rows flags_here.offset flags_here.ends_type flags_here.ends (bit_bytes flags_here.bits)
  flags_message =
      flags_here.runs.message.spelt ∙ runs_bytes flags_here.ends_type flags_here.ends (OfTruths (bool_with flags_here.bits NeverNull)) flags_here.offset rows ∙ truths_spelt flags_here.ends_type flags_here.ends flags_here.bits flags_here.offset rows flags_stored

  flags_paired : length flags_here.ends ≡ length flags_here.bits
  flags_paired = values_paired flags_here.ends_type flags_here.ends (OfTruths (bool_with flags_here.bits NeverNull)) flags_here.offset rows flags_stored

  flags_few : length flags_here.ends < 2 ^ 64
  flags_few = omega (arith, flags_paired, flags_stored.stored.small)

  flags_rise : Rises true 0 flags_here.ends
  flags_rise = ends_rise flags_here.ends_type flags_here.ends (OfLeaf (OfTruths (bool_with flags_here.bits NeverNull))) flags_here.offset rows flags_stored.fit flags_stored.runs

-- bytes that are not such runs
module _ (rows : ℕ) (flags bytes back : List ℕ) (lt : length bytes < 2 ^ 64) (small : length flags < 2 ^ 64) (b : bytes ≡ bytes_field 16 flags ++ back) where
  own_message : (form : RowValidityForm) (rest : List ℕ) (h : BeginsWithValidity rows (number_field 5 5 ++ bytes) form rest) → flags ≡ (flags_here rows bytes form rest lt h).message
  own_message form rest h =
      let at = flags_here rows bytes form rest lt h in
      (bytes_field_same 16 flags at.message back rest (omega arith) small at.small (sym b ∙ at.spelt)).0

  pub no_runs_seen : AreRunsOfNone 9 flags → BeginsWithNoValidity rows (number_field 5 5 ++ bytes)
  no_runs_seen absent = record {
    none = λ form rest h.
        let at = flags_here rows bytes form rest lt h in
        let s = flags_stored rows bytes form rest lt h in
        absent.none rows at.offset at.ends_type at.ends (bit_bytes at.bits) s.fit (flags_rise rows bytes form rest lt h) s.runs.window (flags_few rows bytes form rest lt h) (own_message form rest h ∙ flags_message rows bytes form rest lt h);
  }

  -- runs that are seen: with other rows, or other bits
  module _ (t : PType) (ends : List ℕ) (view : RunsView) (r : AreRunsSeen 9 flags t ends view) where
    seen_same : (form : RowValidityForm) (rest : List ℕ) (h : BeginsWithValidity rows (number_field 5 5 ++ bytes) form rest) → (view.rows ≡ rows) × (ends ≡ (flags_here rows bytes form rest lt h).ends) × (view.items.now ≡ bit_bytes (flags_here rows bytes form rest lt h).bits)
    seen_same form rest h =
        let at = flags_here rows bytes form rest lt h in
        runs_one 9 view.rows rows view.offset at.offset t at.ends_type ends at.ends view.items.now (bit_bytes at.bits) flags (omega arith) small r.has.few (flags_few rows bytes form rest lt h) r.has.rise (flags_rise rows bytes form rest lt h) r.has.window (flags_stored rows bytes form rest lt h).runs.window r.spelt (own_message form rest h ∙ flags_message rows bytes form rest lt h)

    pub other_rows_seen : (view.rows ≡ rows → ⊥) → BeginsWithNoValidity rows (number_field 5 5 ++ bytes)
    other_rows_seen other = record { none = λ form rest h. other (seen_same form rest h).0 }

    pub other_bits_seen : HasNoBits view.count view.items.now → BeginsWithNoValidity rows (number_field 5 5 ++ bytes)
    other_bits_seen absent = record {
      none = λ form rest h.
          let at = flags_here rows bytes form rest lt h in
          let same = seen_same form rest h in
          absent.none at.bits (sym (flags_paired rows bytes form rest lt h) ∙ ap length (sym same.1) ∙ r.has.counted) (sym same.2);
    }

    pub flags_seen : AreHeldBits view.count view.items.now → view.rows ≡ rows → BeginsWithValidity rows (number_field 5 5 ++ bytes) (ByRuns t ends (bits_from view.count view.items.now) view.offset view.rows) back
    flags_seen held counted =
        let bits : List Bool = bits_from view.count view.items.now in
        let leaf : Leaf = OfTruths (bool_with bits NeverNull) in
        let few : length bits < 2 ^ 64 = omega (arith, held.counted, r.has.counted, r.has.few) in
        let stored : IsStoredLeaf leaf = record { counted = tt; small = few } in
        let message = runs_message_is 9 flags t ends view leaf r stored held.counted (ap (λ (x : List ℕ). flat_message 9 (length bits) x) held.shows) in
        record {
          stored = runs_stored 9 flags t ends view leaf r stored held.counted;
          counted = counted;
          spelt = ap (λ (x : List ℕ). number_field 5 5 ++ x) (b ∙ ap (λ (x : List ℕ). bytes_field 16 x ++ back) message) ∙ sym (append_assoc (number_field 5 5) (bytes_field 16 (leaf_runs_message t ends leaf view.offset view.rows)) back);
        }

-- ---- elements

pub record ElementsSeen (bytes : List ℕ) (count : ℕ) : Type 0 where
  pub leaf : Leaf
  pub message : IsLeafMessage bytes leaf
  pub counted : length (leaf_rows leaf) ≡ count

pub elements_seen : (kind form rows : ℕ) (bytes rest : List ℕ) (c : Column) → form ≡ 1 → bytes ≡ header_bytes kind form rows ++ rest → IsBody 0 kind 1 rows rest c → ElementsSeen bytes rows
elements_seen kind form rows bytes rest c is b h =
    let at = leaf_at c 0 kind rows rest h in
    let m = leaf_found kind form rows bytes rest c at.leaf is b h at.is in
    let own : IsBody 0 kind 1 rows rest (OfLeaf at.leaf) = subst (λ (x : Column). IsBody 0 kind 1 rows rest x) at.is h in
    record { leaf = at.leaf; message = m; counted = leaf_counted at.leaf m.stored ∙ own.rows_is }
