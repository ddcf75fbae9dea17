-- What is written spells the record.
use Rattle.std.proofs.Common.{length, ◌≡◌, ℕ, zero, suc, ◌+◌, ◌*◌, ◌^◌, ◌<◌, ◌≤◌, List, [], ◌∷◌, ◌++◌, ℤ, pos, ◌≤ℤ◌, refl, sym, ap, subst, ◌∙◌, arith, append_assoc}
use Rattle.std.proofs.lemmas.List.{append-nil, length-append}
use Rattle.std.proofs.lemmas.Int.{ints}
use Rattle.column_fields.specs.EndsType.{IsEndsTypeNumber}
use Rattle.column_fields.specs.Spelling.{Appends, FitsBehind, HasLength}
use Rattle.column_fields.specs.Varint.{IsShortestVarint, IsVarint}
use Rattle.column_fields.proofs.ShortestVarints.{compact_of, shortest, shortest_form}
use Rattle.column_fields.specs.RecordFields.{varint, Field, Spells, last_value, meaning, Means}
use Rattle.column_fields.specs.WrittenRecord.{IsWrittenField, IsWritten}
use Rattle.column_fields.specs.declared.metadata.RunEndMetadata.{RunEndMetadata}

-- ---- one field

pub writes_nothing : (old new : List ℕ) (n value : ℕ) → value ≡ 0 → new ≡ old → Appends (IsWrittenField n) old value new
writes_nothing old new n zero is e = record { added = []; spelt = refl; parts = e ∙ sym (append-nil old) }
writes_nothing old new n (suc value) is e = absurd (omega arith)

pub writes_field : (old between new : List ℕ) (n key value : ℕ) → 0 < value → key ≡ n * 8 → Appends IsShortestVarint old key between → Appends IsShortestVarint between value new → Appends (IsWrittenField n) old value new
writes_field old between new n key zero some e h k = absurd (omega arith)
writes_field old between new n key (suc value) some e h k = record {
  added = h.added ++ k.added;
  spelt = (h.added, k.added, subst (λ (x : ℕ). IsShortestVarint h.added x) e h.spelt, k.spelt, refl);
  parts = k.parts ∙ ap (λ (t : List ℕ). t ++ k.added) h.parts ∙ append_assoc old h.added k.added;
}

-- how many bytes a field has

pub no_bytes : (number value : ℕ) → value ≡ 0 → HasLength (IsWrittenField number) value 0
no_bytes number zero is = record { long = λ bytes h. ap length h }
no_bytes number (suc value) is = absurd (omega arith)

pub bytes_of_field : (number key value key_len value_len : ℕ) → 0 < value → key ≡ number * 8 → HasLength IsShortestVarint key key_len → HasLength IsShortestVarint value value_len → HasLength (IsWrittenField number) value (key_len + value_len)
bytes_of_field number key zero key_len value_len some e h k = absurd (omega arith)
bytes_of_field number key (suc value) key_len value_len some e h k = record {
  long = λ bytes (front, back, hf, hb, parts).
      omega (arith, ap length parts, length-append front back, h.long front (subst (λ (x : ℕ). IsShortestVarint front x) (sym e) hf), k.long back hb);
}

-- room for a field is room for its key, and then for its value

pub room_for_key : (number key value used capacity : ℕ) → 0 < value → value < 2 ^ 64 → key ≡ number * 8 → FitsBehind (IsWrittenField number) used capacity value → FitsBehind IsShortestVarint used capacity key
room_for_key number key zero used capacity some below e h = absurd (omega arith)
room_for_key number key (suc value) used capacity some below e h =
    let back = compact_of (suc value) below in
    record {
      fits = λ front hf.
          omega (arith, length-append front back.bytes, h.fits (front ++ back.bytes) (front, back.bytes, subst (λ (x : ℕ). IsShortestVarint front x) e hf, shortest back.bytes (suc value) below back.compact, refl));
    }

pub room_for_value : (number key value used later capacity : ℕ) (old between : List ℕ) → 0 < value → key ≡ number * 8 → FitsBehind (IsWrittenField number) used capacity value → used ≡ length old → later ≡ length between → Appends IsShortestVarint old key between → FitsBehind IsShortestVarint later capacity value
room_for_value number key zero used later capacity old between some e h u l k = absurd (omega arith)
room_for_value number key (suc value) used later capacity old between some e h u l k = record {
  fits = λ back hb.
      omega (arith, length-append k.added back, h.fits (k.added ++ back) (k.added, back, subst (λ (x : ℕ). IsShortestVarint k.added x) e k.spelt, hb, refl), ap length k.parts, length-append old k.added);
}

-- after what is written there is room for what was counted
pub room_behind : (number value used count capacity : ℕ) → HasLength (IsWrittenField number) value count → used + count ≤ capacity → FitsBehind (IsWrittenField number) used capacity value
room_behind number value used count capacity h le = record { fits = λ bytes k. omega (arith, h.long bytes k) }

pub bytes_used : (number value used later count : ℕ) (old new : List ℕ) → HasLength (IsWrittenField number) value count → used ≡ length old → later ≡ length new → Appends (IsWrittenField number) old value new → later ≡ used + count
bytes_used number value used later count old new h u l k = omega (arith, h.long k.added k.spelt, ap length k.parts, length-append old k.added)

-- ---- three fields

-- the fields of a value
fields_of : ℕ → ℕ → List Field
fields_of n zero = []
fields_of n (suc value) = record { number = n; payload = varint (suc value) } ∷ []

spells_one : (n value : ℕ) (bytes rest : List ℕ) (fields : List Field) → 0 < n → n ≤ 3 → IsWrittenField n bytes value → Spells rest fields → Spells (bytes ++ rest) (fields_of n value ++ fields)
unfolding fields_of
spells_one n zero bytes rest fields some le h k = rw h k
spells_one n (suc value) bytes rest fields some le (key, payload, hk, hp, parts) k = (
  bytes,
  rest,
  refl,
  record {
    key = key;
    payload = payload;
    parts = parts;
    key_spelt = subst (λ (x : ℕ). IsVarint key x) (omega arith) hk.varint;
    key_fits = omega arith;
    numbered = some;
    known = λ small. refl;
    payload_spelt = hp.varint;
  },
  k,
)

meaning_of : (e r o : ℕ) → meaning (fields_of 1 e ++ (fields_of 2 r ++ (fields_of 3 o ++ []))) ≡ record { ends_ptype = pos e; num_runs = r; offset = o }
unfolding fields_of
meaning_of zero zero zero = refl
meaning_of zero zero (suc o) = refl
meaning_of zero (suc r) zero = refl
meaning_of zero (suc r) (suc o) = refl
meaning_of (suc e) zero zero = refl
meaning_of (suc e) zero (suc o) = refl
meaning_of (suc e) (suc r) zero = refl
meaning_of (suc e) (suc r) (suc o) = refl

abbrev made : ℤ → RunEndMetadata → RunEndMetadata
made z m = record m { ends_ptype = z }

pos_le : (n : ℕ) → pos n ≤ℤ pos 3 → n ≤ 3
pos_le n h = omega (arith, ints)

ends_of : (m : RunEndMetadata) (fields : List Field) (e : ℕ) → m ≡ meaning fields → m.ends_ptype ≡ pos e → last_value 1 fields ≡ e
ends_of m fields e is ends = cc (ap (λ (x : RunEndMetadata). x.ends_ptype) is)

pub written_means : (bytes : List ℕ) (m : RunEndMetadata) → IsEndsTypeNumber m.ends_ptype → IsWritten bytes m → Means bytes m
written_means bytes m known w =
    let fields : List Field = fields_of 1 w.ends_type ++ (fields_of 2 m.num_runs ++ (fields_of 3 m.offset ++ [])) in
    let last = spells_one 3 m.offset w.third [] [] (omega arith) (omega arith) w.offset_written refl in
    let later = spells_one 2 m.num_runs w.second (w.third ++ []) (fields_of 3 m.offset ++ []) (omega arith) (omega arith) w.runs_written last in
    let all = spells_one 1 w.ends_type w.first (w.second ++ (w.third ++ [])) (fields_of 2 m.num_runs ++ (fields_of 3 m.offset ++ [])) (omega arith) (omega arith) w.ends_type_written later in
    let e : w.first ++ (w.second ++ (w.third ++ [])) ≡ bytes = ap (λ (t : List ℕ). w.first ++ (w.second ++ t)) (append-nil w.third) ∙ sym (append_assoc w.first w.second w.third) ∙ sym w.parts in
    let is : m ≡ meaning fields = ap (λ (z : ℤ). made z m) w.ends_type_is ∙ sym (meaning_of w.ends_type m.num_runs m.offset) in
    (fields, subst (λ (t : List ℕ). Spells t fields) e all, omega (arith, ends_of m fields w.ends_type is w.ends_type_is, pos_le w.ends_type (rw (← w.ends_type_is) known.high)), is)

pub written : (empty first second third : List ℕ) (m : RunEndMetadata) (ends : ℕ) → empty ≡ [] → m.ends_ptype ≡ pos ends → Appends (IsWrittenField 1) empty ends first → Appends (IsWrittenField 2) first m.num_runs second → Appends (IsWrittenField 3) second m.offset third → IsWritten third m
written empty first second third m ends nil e a b c = record {
  ends_type = ends;
  ends_type_is = e;
  first = a.added;
  second = b.added;
  third = c.added;
  parts = c.parts ∙ ap (λ (t : List ℕ). t ++ c.added) (b.parts ∙ ap (λ (t : List ℕ). t ++ b.added) (a.parts ∙ ap (λ (t : List ℕ). t ++ a.added) nil));
  ends_type_written = a.spelt;
  runs_written = b.spelt;
  offset_written = c.spelt;
}

-- ---- one written form

field_form : (n value : ℕ) (a b : List ℕ) → IsWrittenField n a value → IsWrittenField n b value → a ≡ b
field_form n zero a b h k = h ∙ sym k
field_form n (suc value) a b (key, payload, hk, hp, parts) (key', payload', hk', hp', parts') =
    parts ∙ ap (λ (t : List ℕ). t ++ payload) (shortest_form key key' (n * 8) hk hk') ∙ ap (λ (t : List ℕ). key' ++ t) (shortest_form payload payload' (suc value) hp hp') ∙ sym parts'

pos_is : (m n : ℕ) → pos m ≡ pos n → m ≡ n
pos_is m n e = cc

pub one_form : (a b : List ℕ) (m : RunEndMetadata) → IsWritten a m → IsWritten b m → a ≡ b
one_form a b m h k =
    let ends : h.ends_type ≡ k.ends_type = pos_is h.ends_type k.ends_type (sym h.ends_type_is ∙ k.ends_type_is) in
    let first = field_form 1 k.ends_type h.first k.first (subst (λ (n : ℕ). IsWrittenField 1 h.first n) ends h.ends_type_written) k.ends_type_written in
    let second = field_form 2 m.num_runs h.second k.second h.runs_written k.runs_written in
    let third = field_form 3 m.offset h.third k.third h.offset_written k.offset_written in
    h.parts ∙ ap (λ (t : List ℕ). t ++ h.second ++ h.third) first ∙ ap (λ (t : List ℕ). k.first ++ t ++ h.third) second ∙ ap (λ (t : List ℕ). k.first ++ k.second ++ t) third ∙ sym k.parts
