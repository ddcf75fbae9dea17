-- A payload or a field at the front of bytes is found, and it is the only one there.
use Rattle.std.proofs.Common.{Option, None, Some, ◌≡◌, ℕ, ◌+◌, ◌*◌, ◌/◌, ◌%◌, ◌^◌, ◌<◌, ◌≤◌, List, [], ◌∷◌, ◌++◌, length, take, drop, refl, sym, ap, subst, ◌∙◌, arith, append_assoc}
use Rattle.std.proofs.lemmas.List.{length-append, length-take, take-append-drop}
use Rattle.column_fields.specs.Spelling.{Begins, BeginsWithNone}
use Rattle.column_fields.specs.Varint.{IsVarint}
use Rattle.column_fields.specs.RecordFields.{Payload, varint, eight_bytes, delimited, four_bytes, Field, wire_type, SpellsPayload, key_of, SpellsField, IsPayload, BeginsWithField, BeginsWithPayload}
use Rattle.column_fields.proofs.Varints.{IsVarint-same, Begins-same, rest_same}

-- ---- fronts of one length

pub same_front : (a b x y : List ℕ) → length a ≡ length b → a ++ x ≡ b ++ y → a ≡ b
same_front [] [] x y len e = refl
same_front [] (d ∷ b) x y len e = absurd (omega arith)
same_front (c ∷ a) [] x y len e = absurd (omega arith)
same_front (c ∷ a) (d ∷ b) x y len e =
    let heads : c ≡ d = cc in
    let tails : a ++ x ≡ b ++ y = cc in
    let rest : a ≡ b = same_front a b x y (omega arith) tails in
    cc

-- ---- payloads

SpellsPayload-same : (p q : Payload) (a b x y : List ℕ) → wire_type p ≡ wire_type q → SpellsPayload a p → SpellsPayload b q → a ++ x ≡ b ++ y → (a ≡ b) × (p ≡ q)
SpellsPayload-same (varint m) (varint n) a b x y w h k e =
    let same = IsVarint-same a b x y m n h k e in (same.0, ap varint same.1)
SpellsPayload-same (varint m) (eight_bytes n) a b x y w h k e = absurd (omega arith)
SpellsPayload-same (varint m) (delimited n) a b x y w h k e = absurd (omega arith)
SpellsPayload-same (varint m) (four_bytes n) a b x y w h k e = absurd (omega arith)
SpellsPayload-same (eight_bytes m) (varint n) a b x y w h k e = absurd (omega arith)
SpellsPayload-same (eight_bytes m) (eight_bytes n) a b x y w (ha, hl) (ka, kl) e =
    let len : length a ≡ length b = rw (ha, ka) (omega arith) in
    let same : a ≡ b = same_front a b x y len e in
    (same, ap eight_bytes (sym ha ∙ same ∙ ka))
SpellsPayload-same (eight_bytes m) (delimited n) a b x y w h k e = absurd (omega arith)
SpellsPayload-same (eight_bytes m) (four_bytes n) a b x y w h k e = absurd (omega arith)
SpellsPayload-same (delimited m) (varint n) a b x y w h k e = absurd (omega arith)
SpellsPayload-same (delimited m) (eight_bytes n) a b x y w h k e = absurd (omega arith)
SpellsPayload-same (delimited m) (delimited n) a b x y w (hl, hv, hp) (kl, kv, kp) e =
    let whole : hl ++ (m ++ x) ≡ kl ++ (n ++ y) = sym (append_assoc hl m x) ∙ ap (λ (t : List ℕ). t ++ x) (sym hp) ∙ e ∙ ap (λ (t : List ℕ). t ++ y) kp ∙ append_assoc kl n y in
    let lens = IsVarint-same hl kl (m ++ x) (n ++ y) (length m) (length n) hv kv whole in
    let tails : m ++ x ≡ n ++ y = rest_same hl kl (m ++ x) (n ++ y) lens.0 whole in
    let texts : m ≡ n = same_front m n x y lens.1 tails in
    (hp ∙ ap (λ (t : List ℕ). t ++ m) lens.0 ∙ ap (λ (t : List ℕ). kl ++ t) texts ∙ sym kp, ap delimited texts)
SpellsPayload-same (delimited m) (four_bytes n) a b x y w h k e = absurd (omega arith)
SpellsPayload-same (four_bytes m) (varint n) a b x y w h k e = absurd (omega arith)
SpellsPayload-same (four_bytes m) (eight_bytes n) a b x y w h k e = absurd (omega arith)
SpellsPayload-same (four_bytes m) (delimited n) a b x y w h k e = absurd (omega arith)
SpellsPayload-same (four_bytes m) (four_bytes n) a b x y w (ha, hl) (ka, kl) e =
    let len : length a ≡ length b = rw (ha, ka) (omega arith) in
    let same : a ≡ b = same_front a b x y len e in
    (same, ap four_bytes (sym ha ∙ same ∙ ka))

-- ---- fields

wire_below : (p : Payload) → wire_type p < 8
wire_below (varint n) = omega arith
wire_below (eight_bytes b) = omega arith
wire_below (delimited b) = omega arith
wire_below (four_bytes b) = omega arith

abbrev make : ℕ → Payload → Field
make n p = record { number = n; payload = p }

field_same : (f g : Field) → f.number ≡ g.number → f.payload ≡ g.payload → f ≡ g
field_same f g n p = ap (λ (k : ℕ). make k f.payload) n ∙ ap (λ (q : Payload). make g.number q) p

pub SpellsField-same : (f g : Field) (a b x y : List ℕ) → SpellsField a f → SpellsField b g → a ++ x ≡ b ++ y → (a ≡ b) × (f ≡ g)
SpellsField-same f g a b x y h k e =
    let whole : h.key ++ (h.payload ++ x) ≡ k.key ++ (k.payload ++ y) = sym (append_assoc h.key h.payload x) ∙ ap (λ (t : List ℕ). t ++ x) (sym h.parts) ∙ e ∙ ap (λ (t : List ℕ). t ++ y) k.parts ∙ append_assoc k.key k.payload y in
    let keys = IsVarint-same h.key k.key (h.payload ++ x) (k.payload ++ y) (key_of f) (key_of g) h.key_spelt k.key_spelt whole in
    let wf = wire_below f.payload in
    let wg = wire_below g.payload in
    let numbers : f.number ≡ g.number = omega (arith, keys.1) in
    let wires : wire_type f.payload ≡ wire_type g.payload = omega (arith, keys.1) in
    let tails : h.payload ++ x ≡ k.payload ++ y = rest_same h.key k.key (h.payload ++ x) (k.payload ++ y) keys.0 whole in
    let payloads = SpellsPayload-same f.payload g.payload h.payload k.payload x y wires h.payload_spelt k.payload_spelt tails in
    let fronts : h.key ++ h.payload ≡ k.key ++ k.payload = ap (λ (t : List ℕ). t ++ h.payload) keys.0 ∙ ap (λ (t : List ℕ). k.key ++ t) payloads.0 in
    (h.parts ∙ fronts ∙ sym k.parts, field_same f g numbers payloads.1)

-- ---- what the reader finds

split : (n : ℕ) (bytes rest : List ℕ) → rest ≡ drop n bytes → bytes ≡ take n bytes ++ rest
split n bytes rest e = sym (take-append-drop n bytes) ∙ ap (λ (t : List ℕ). take n bytes ++ t) (sym e)

pub found_varint : (bytes rest : List ℕ) (n : ℕ) → Begins IsVarint bytes n rest → BeginsWithPayload 0 bytes (Some n) rest
found_varint bytes rest n h = record {
  payload = varint n;
  valued = refl;
  begins = record { front = h.front; spelt = record { wired = refl; spelt = h.spelt }; parts = h.parts };
}

pub found_eight : (bytes rest : List ℕ) → 8 ≤ length bytes → rest ≡ drop 8 bytes → BeginsWithPayload 1 bytes None rest
found_eight bytes rest le e = record {
  payload = eight_bytes (take 8 bytes);
  valued = refl;
  begins = record { front = take 8 bytes; spelt = record { wired = refl; spelt = (refl, omega (arith, length-take 8 bytes)) }; parts = split 8 bytes rest e };
}

pub found_four : (bytes rest : List ℕ) → 4 ≤ length bytes → rest ≡ drop 4 bytes → BeginsWithPayload 5 bytes None rest
found_four bytes rest le e = record {
  payload = four_bytes (take 4 bytes);
  valued = refl;
  begins = record { front = take 4 bytes; spelt = record { wired = refl; spelt = (refl, omega (arith, length-take 4 bytes)) }; parts = split 4 bytes rest e };
}

pub found_delimited : (bytes after rest : List ℕ) (n : ℕ) → Begins IsVarint bytes n after → n ≤ length after → rest ≡ drop n after → BeginsWithPayload 2 bytes None rest
found_delimited bytes after rest n h le e =
    let len : length (take n after) ≡ n = omega (arith, length-take n after) in
    record {
      payload = delimited (take n after);
      valued = refl;
      begins = record {
        front = h.front ++ take n after;
        spelt = record { wired = refl; spelt = (h.front, subst (λ (k : ℕ). IsVarint h.front k) (sym len) h.spelt, refl) };
        parts = h.parts ∙ ap (λ (t : List ℕ). h.front ++ t) (split n after rest e) ∙ sym (append_assoc h.front (take n after) rest);
      };
    }

-- ---- what the reader does not find

no_varint_at : (p : Payload) (bytes rest front : List ℕ) → BeginsWithNone IsVarint bytes → wire_type p ≡ 0 → SpellsPayload front p → bytes ≡ front ++ rest → ⊥
no_varint_at (varint n) bytes rest front none w h e = none.none n rest (record { front = front; spelt = h; parts = e })
no_varint_at (eight_bytes n) bytes rest front none w h e = omega arith
no_varint_at (delimited n) bytes rest front none w h e = omega arith
no_varint_at (four_bytes n) bytes rest front none w h e = omega arith

pub no_varint : (wire : ℕ) (bytes : List ℕ) → wire ≡ 0 → BeginsWithNone IsVarint bytes → BeginsWithNone (IsPayload wire) bytes
no_varint wire bytes is absent = record { none = λ p rest h. no_varint_at p bytes rest h.front absent (h.spelt.wired ∙ is) h.spelt.spelt h.parts }

no_eight_at : (p : Payload) (bytes rest front : List ℕ) → length bytes < 8 → wire_type p ≡ 1 → SpellsPayload front p → bytes ≡ front ++ rest → ⊥
no_eight_at (varint n) bytes rest front lt w h e = omega arith
no_eight_at (eight_bytes n) bytes rest front lt w (is, len) e = omega (arith, ap length e, length-append front rest, ap length is)
no_eight_at (delimited n) bytes rest front lt w h e = omega arith
no_eight_at (four_bytes n) bytes rest front lt w h e = omega arith

pub no_eight : (wire : ℕ) (bytes : List ℕ) → wire ≡ 1 → length bytes < 8 → BeginsWithNone (IsPayload wire) bytes
no_eight wire bytes is lt = record { none = λ p rest h. no_eight_at p bytes rest h.front lt (h.spelt.wired ∙ is) h.spelt.spelt h.parts }

no_four_at : (p : Payload) (bytes rest front : List ℕ) → length bytes < 4 → wire_type p ≡ 5 → SpellsPayload front p → bytes ≡ front ++ rest → ⊥
no_four_at (varint n) bytes rest front lt w h e = omega arith
no_four_at (eight_bytes n) bytes rest front lt w h e = omega arith
no_four_at (delimited n) bytes rest front lt w h e = omega arith
no_four_at (four_bytes n) bytes rest front lt w (is, len) e = omega (arith, ap length e, length-append front rest, ap length is)

pub no_four : (wire : ℕ) (bytes : List ℕ) → wire ≡ 5 → length bytes < 4 → BeginsWithNone (IsPayload wire) bytes
no_four wire bytes is lt = record { none = λ p rest h. no_four_at p bytes rest h.front lt (h.spelt.wired ∙ is) h.spelt.spelt h.parts }

no_count_at : (p : Payload) (bytes rest front : List ℕ) → BeginsWithNone IsVarint bytes → wire_type p ≡ 2 → SpellsPayload front p → bytes ≡ front ++ rest → ⊥
no_count_at (varint n) bytes rest front none w h e = omega arith
no_count_at (eight_bytes n) bytes rest front none w h e = omega arith
no_count_at (four_bytes n) bytes rest front none w h e = omega arith
no_count_at (delimited n) bytes rest front none w (len, spelt, is) e =
    none.none (length n) (n ++ rest) (record { front = len; spelt = spelt; parts = e ∙ ap (λ (t : List ℕ). t ++ rest) is ∙ append_assoc len n rest })

pub no_count : (wire : ℕ) (bytes : List ℕ) → wire ≡ 2 → BeginsWithNone IsVarint bytes → BeginsWithNone (IsPayload wire) bytes
no_count wire bytes is absent = record { none = λ p rest h. no_count_at p bytes rest h.front absent (h.spelt.wired ∙ is) h.spelt.spelt h.parts }

no_delimited_at : (p : Payload) (bytes after rest front : List ℕ) (m : ℕ) → Begins IsVarint bytes m after → length after < m → wire_type p ≡ 2 → SpellsPayload front p → bytes ≡ front ++ rest → ⊥
no_delimited_at (varint n) bytes after rest front m found lt w h e = omega arith
no_delimited_at (eight_bytes n) bytes after rest front m found lt w h e = omega arith
no_delimited_at (four_bytes n) bytes after rest front m found lt w h e = omega arith
no_delimited_at (delimited n) bytes after rest front m found lt w (len, spelt, is) e =
    let other : Begins IsVarint bytes (length n) (n ++ rest) = record { front = len; spelt = spelt; parts = e ∙ ap (λ (t : List ℕ). t ++ rest) is ∙ append_assoc len n rest } in
    let same = Begins-same bytes m (length n) after (n ++ rest) found other in
    omega (arith, same.0, ap length same.1, length-append n rest)

pub no_delimited : (wire m : ℕ) (bytes after : List ℕ) → wire ≡ 2 → Begins IsVarint bytes m after → length after < m → BeginsWithNone (IsPayload wire) bytes
no_delimited wire m bytes after is found lt = record { none = λ p rest h. no_delimited_at p bytes after rest h.front m found lt (h.spelt.wired ∙ is) h.spelt.spelt h.parts }

no_other_at : (p : Payload) (wire : ℕ) → wire_type p ≡ wire → (wire ≡ 0 → ⊥) → (wire ≡ 1 → ⊥) → (wire ≡ 2 → ⊥) → (wire ≡ 5 → ⊥) → ⊥
no_other_at (varint n) wire e a b c d = a (sym e)
no_other_at (eight_bytes n) wire e a b c d = b (sym e)
no_other_at (delimited n) wire e a b c d = c (sym e)
no_other_at (four_bytes n) wire e a b c d = d (sym e)

pub no_other : (wire : ℕ) (bytes : List ℕ) → (wire ≡ 0 → ⊥) → (wire ≡ 1 → ⊥) → (wire ≡ 2 → ⊥) → (wire ≡ 5 → ⊥) → BeginsWithNone (IsPayload wire) bytes
no_other wire bytes a b c d = record { none = λ p rest h. no_other_at p wire h.spelt.wired a b c d }

-- ---- fields

key_begins : (f : Field) (bytes rest : List ℕ) → (h : Begins SpellsField bytes f rest) → Begins IsVarint bytes (key_of f) (h.spelt.payload ++ rest)
key_begins f bytes rest h = record {
  front = h.spelt.key;
  spelt = h.spelt.key_spelt;
  parts = h.parts ∙ ap (λ (t : List ℕ). t ++ rest) h.spelt.parts ∙ append_assoc h.spelt.key h.spelt.payload rest;
}

pub no_key : (bytes : List ℕ) → BeginsWithNone IsVarint bytes → BeginsWithNone SpellsField bytes
no_key bytes absent = record { none = λ f rest h. absent.none (key_of f) (h.spelt.payload ++ rest) (key_begins f bytes rest h) }

record FieldAt (key : ℕ) (after : List ℕ) (f : Field) (rest : List ℕ) : Type 0 where
  key_is : key_of f ≡ key
  number_is : f.number ≡ key / 8
  wire_is : wire_type f.payload ≡ key % 8
  key_fits : key < 2 ^ 32
  numbered : 0 < f.number
  known : f.number ≤ 3 → wire_type f.payload ≡ 0
  payload : Begins (IsPayload (key % 8)) after f.payload rest

field_at : (key : ℕ) (bytes after rest : List ℕ) (f : Field) → Begins IsVarint bytes key after → Begins SpellsField bytes f rest → FieldAt key after f rest
field_at key bytes after rest f found h =
    let same = Begins-same bytes (key_of f) key (h.spelt.payload ++ rest) after (key_begins f bytes rest h) found in
    let w = wire_below f.payload in
    let e = same.0 in
    let wire : wire_type f.payload ≡ key % 8 = omega (arith, e) in
    record {
      key_is = e;
      number_is = omega (arith, e);
      wire_is = wire;
      key_fits = omega (arith, e, h.spelt.key_fits);
      numbered = h.spelt.numbered;
      known = h.spelt.known;
      payload = record { front = h.spelt.payload; spelt = record { wired = wire; spelt = h.spelt.payload_spelt }; parts = sym same.1 };
    }

pub no_large_key : (key : ℕ) (bytes after : List ℕ) → Begins IsVarint bytes key after → 2 ^ 32 ≤ key → BeginsWithNone SpellsField bytes
no_large_key key bytes after found large = record { none = λ f rest h. let at = field_at key bytes after rest f found h in omega arith }

pub no_zero_number : (key : ℕ) (bytes after : List ℕ) → Begins IsVarint bytes key after → key / 8 ≡ 0 → BeginsWithNone SpellsField bytes
no_zero_number key bytes after found zero-is = record { none = λ f rest h. let at = field_at key bytes after rest f found h in omega arith }

pub no_other_known : (key : ℕ) (bytes after : List ℕ) → Begins IsVarint bytes key after → key / 8 ≤ 3 → 0 < key % 8 → BeginsWithNone SpellsField bytes
no_other_known key bytes after found small wired = record { none = λ f rest h. let at = field_at key bytes after rest f found h in omega arith }

pub no_payload : (key : ℕ) (bytes after : List ℕ) → Begins IsVarint bytes key after → BeginsWithNone (IsPayload (key % 8)) after → BeginsWithNone SpellsField bytes
no_payload key bytes after found absent = record { none = λ f rest h. let at = field_at key bytes after rest f found h in absent.none f.payload rest at.payload }

pub found_field : (key : ℕ) (bytes after rest : List ℕ) (value : Option ℕ) → Begins IsVarint bytes key after → key < 2 ^ 32 → 0 < key / 8 → (key / 8 ≤ 3 → key % 8 ≡ 0) → BeginsWithPayload (key % 8) after value rest → BeginsWithField bytes (key / 8) value rest
found_field key bytes after rest value found fits some known h =
    let b = h.begins in
    let wire = b.spelt.wired in
    let key-is : key ≡ key / 8 * 8 + wire_type h.payload = omega (arith, wire) in
    record {
      field = record { number = key / 8; payload = h.payload };
      numbered = refl;
      valued = h.valued;
      begins = record {
        front = found.front ++ b.front;
        spelt = record {
          key = found.front;
          payload = b.front;
          parts = refl;
          key_spelt = subst (λ (k : ℕ). IsVarint found.front k) key-is found.spelt;
          key_fits = omega (arith, key-is);
          numbered = some;
          known = λ le. wire ∙ known le;
          payload_spelt = b.spelt.spelt;
        };
        parts = found.parts ∙ ap (λ (t : List ℕ). found.front ++ t) b.parts ∙ sym (append_assoc found.front b.front rest);
      };
    }
