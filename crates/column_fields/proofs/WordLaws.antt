-- Run lengths of one byte or two, read from a word.
use Rattle.std.proofs.Common.{◌≡◌, ℕ, ◌+◌, ◌-◌, ◌/◌, ◌%◌, ◌^◌, ◌<◌, ◌≤◌, pos, false, List, [], ◌∷◌, ◌++◌, length, get_or, take, drop, refl, sym, ap, ◌∙◌, arith, inl, inr, append_assoc}
use Rattle.std.specs.List.{All}
use Rattle.std.specs.Int.{w64, from_le_bytes}
use Rattle.std.proofs.lemmas.List.{append-nil, drop-drop, get_or-take, length-take-le}
use Rattle.std.proofs.lemmas.List.Elements.{All-from_recursion}
use Rattle.column_base.specs.declared.dtype.PType.{PType}
use Rattle.column_base.specs.Types.{HasNumber}
use Rattle.column_fields.specs.Varint.{varint}
use Rattle.column_fields.specs.Lengths.{lengths_bytes, Rises, BeginsWithLength}
use Rattle.column_fields.proofs.EightLaws.{cut_items, eight_of}
use Rattle.column_fields.proofs.EndReading.{rises_cons, rises_none}
use Rattle.column_fields.proofs.LengthBytes.{one_byte, two_bytes}
use Rattle.column_fields.proofs.LengthLaws.{lengths_cons, lengths_none}
use Rattle.column_fields.proofs.ShortLaws.{AreBytes, number_of, word_number, eight, has_less}

-- ---- bytes that begin with those of a word

pub record BeginsWithWord (word least : ℕ) (bytes : List ℕ) : Type 0 where
  pub front : List ℕ
  pub back : List ℕ
  pub is : bytes ≡ front ++ back
  pub number : word ≡ number_of front
  pub small : AreBytes front
  pub many : least ≤ length front

whole_word : (word : ℕ) (bytes front : List ℕ) → 8 ≤ length bytes → front ≡ take 8 bytes → ((i : ℕ) → get_or bytes i 0 < 256) → word ≡ from_le_bytes w64 front → BeginsWithWord word 8 bytes
whole_word word bytes front enough f small is =
    let len : length front ≡ 8 = ap length f ∙ length-take-le 8 bytes enough in
    let each : (i : ℕ) → i < 8 → get_or front i 0 < 256 = λ i lt. omega (arith, ap (λ (t : List ℕ). get_or t i 0) f, get_or-take 8 bytes i 0 lt, small i) in
    record {
      front = eight front;
      back = drop 8 bytes;
      is = cut_items 8 bytes front (drop 8 bytes) f refl ∙ ap (λ (t : List ℕ). t ++ drop 8 bytes) (eight_of 0 front len);
      number = word_number word front len is;
      small = (each 0 (omega arith), (each 1 (omega arith), (each 2 (omega arith), (each 3 (omega arith), (each 4 (omega arith), (each 5 (omega arith), (each 6 (omega arith), (each 7 (omega arith), tt))))))));
      many = omega arith;
    }

-- a length is read
pub record AfterLength (len size rest least : ℕ) (bytes : List ℕ) : Type 0 where
  pub found : bytes ≡ varint len ++ drop size bytes
  pub shorter : length (drop size bytes) + size ≡ length bytes
  pub next : BeginsWithWord rest least (drop size bytes)

after_length : (len size rest least word : ℕ) (bytes front back : List ℕ) → BeginsWithLength word len size rest → bytes ≡ front ++ back → word ≡ number_of front → AreBytes front → 2 + least ≤ length front → AfterLength len size rest least bytes
after_length len size rest least word bytes [] back h is number small many = absurd (omega (arith, many))
after_length len size rest least word bytes (a ∷ []) back h is number small many = absurd (omega (arith, many))
after_length len size rest least word bytes (a ∷ b ∷ front) back h is number small many =
    elim h.spelt [
      | inl one ↦
          let byte : a ≡ len = omega (arith, number, one.1, one.2, small.0) in
          let left : rest ≡ number_of (b ∷ front) = omega (arith, number, one.2, byte) in
          let cut : drop size bytes ≡ b ∷ front ++ back = ap (λ (k : ℕ). drop k bytes) one.0 ∙ ap (drop 1) is in
          record {
            found = one_byte a bytes (b ∷ front ++ back) (omega (arith, byte, one.1)) is ∙ (λ i. varint (byte i) ++ sym cut i);
            shorter = omega (arith, ap length cut, ap length is, one.0);
            next = record { front = b ∷ front; back = back; is = cut; number = left; small = small.1; many = omega (arith, many) };
          }
      | inr two ↦
          let low : a ≡ len % 128 + 128 = omega (arith, number, two.3, small.0, small.1.0, two.2) in
          let high : b ≡ len / 128 = omega (arith, number, two.3, small.0, small.1.0, two.2, low) in
          let left : rest ≡ number_of front = omega (arith, number, two.3, low, high) in
          let cut : drop size bytes ≡ front ++ back = ap (λ (k : ℕ). drop k bytes) two.0 ∙ ap (drop 2) is in
          record {
            found = two_bytes a b len bytes (b ∷ front ++ back) (drop size bytes) (omega (arith, low)) small.0 (omega (arith, high, two.1)) (omega (arith, high, two.2)) (omega (arith, low, high)) is (ap (λ (t : List ℕ). b ∷ t) (sym cut));
            shorter = omega (arith, ap length cut, ap length is, two.0);
            next = record { front = front; back = back; is = cut; number = left; small = small.1.1; many = omega (arith, many) };
          }
    ]

next_length : (len size rest least word : ℕ) (bytes : List ℕ) → BeginsWithLength word len size rest → BeginsWithWord word (2 + least) bytes → AfterLength len size rest least bytes
next_length len size rest least word bytes h w = after_length len size rest least word bytes w.front w.back h w.is w.number w.small w.many

-- ---- four lengths, one after the other

pub record FourLengths (start e1 e2 e3 e4 size : ℕ) (bytes : List ℕ) : Type 0 where
  pub found : bytes ≡ lengths_bytes start (e1 ∷ e2 ∷ e3 ∷ e4 ∷ []) ++ drop size bytes
  pub shorter : length (drop size bytes) + size ≡ length bytes
  pub enough : size ≤ length bytes
  pub four : 4 ≤ size
  pub l1 : start < e1
  pub l2 : e1 < e2
  pub l3 : e2 < e3
  pub l4 : e3 < e4

size_some : (word len size rest : ℕ) → BeginsWithLength word len size rest → 1 ≤ size
size_some word len size rest h = elim h.spelt [ inl one ↦ omega (arith, one.0) | inr two ↦ omega (arith, two.0) ]

four_cuts : (a b c d : ℕ) (bytes : List ℕ) → drop d (drop c (drop b (drop a bytes))) ≡ drop (a + b + c + d) bytes
four_cuts a b c d bytes =
    let two : drop b (drop a bytes) ≡ drop (a + b) bytes = drop-drop b a bytes in
    let three : drop c (drop (a + b) bytes) ≡ drop (a + b + c) bytes = drop-drop c (a + b) bytes in
    ap (λ (t : List ℕ). drop d (drop c t)) two ∙ ap (drop d) three ∙ drop-drop d (a + b + c) bytes

four_spelt : (start a b c d : ℕ) (after : List ℕ) → lengths_bytes start (a ∷ b ∷ c ∷ d ∷ []) ++ after ≡ varint (a - start) ++ (varint (b - a) ++ (varint (c - b) ++ (varint (d - c) ++ after)))
four_spelt start a b c d after =
    let last : lengths_bytes c (d ∷ []) ≡ varint (d - c) = lengths_cons c d [] ∙ ap (λ (t : List ℕ). varint (d - c) ++ t) (lengths_none d) ∙ append-nil (varint (d - c)) in
    let third : lengths_bytes b (c ∷ d ∷ []) ≡ varint (c - b) ++ varint (d - c) = lengths_cons b c (d ∷ []) ∙ ap (λ (t : List ℕ). varint (c - b) ++ t) last in
    let second : lengths_bytes a (b ∷ c ∷ d ∷ []) ≡ varint (b - a) ++ (varint (c - b) ++ varint (d - c)) = lengths_cons a b (c ∷ d ∷ []) ∙ ap (λ (t : List ℕ). varint (b - a) ++ t) third in
    let first : lengths_bytes start (a ∷ b ∷ c ∷ d ∷ []) ≡ varint (a - start) ++ (varint (b - a) ++ (varint (c - b) ++ varint (d - c))) = lengths_cons start a (b ∷ c ∷ d ∷ []) ∙ ap (λ (t : List ℕ). varint (a - start) ++ t) second in
    rw first (simp append_assoc)

pub four_lengths : (start e1 e2 e3 e4 s1 s2 s3 s4 w1 w2 w3 w4 w5 : ℕ) (bytes front : List ℕ) → 8 ≤ length bytes → front ≡ take 8 bytes → ((i : ℕ) → get_or bytes i 0 < 256) → w1 ≡ from_le_bytes w64 front → BeginsWithLength w1 (e1 - start) s1 w2 → BeginsWithLength w2 (e2 - e1) s2 w3 → BeginsWithLength w3 (e3 - e2) s3 w4 → BeginsWithLength w4 (e4 - e3) s4 w5 → FourLengths start e1 e2 e3 e4 (s1 + s2 + s3 + s4) bytes
four_lengths start e1 e2 e3 e4 s1 s2 s3 s4 w1 w2 w3 w4 w5 bytes front enough f small is h1 h2 h3 h4 =
    let a1 = next_length (e1 - start) s1 w2 6 w1 bytes h1 (whole_word w1 bytes front enough f small is) in
    let a2 = next_length (e2 - e1) s2 w3 4 w2 (drop s1 bytes) h2 a1.next in
    let a3 = next_length (e3 - e2) s3 w4 2 w3 (drop s2 (drop s1 bytes)) h3 a2.next in
    let a4 = next_length (e4 - e3) s4 w5 0 w4 (drop s3 (drop s2 (drop s1 bytes))) h4 a3.next in
    let left : List ℕ = drop s4 (drop s3 (drop s2 (drop s1 bytes))) in
    let cut : left ≡ drop (s1 + s2 + s3 + s4) bytes = four_cuts s1 s2 s3 s4 bytes in
    record {
      found = a1.found ∙ ap (λ (t : List ℕ). varint (e1 - start) ++ t) (a2.found ∙ ap (λ (t : List ℕ). varint (e2 - e1) ++ t) (a3.found ∙ ap (λ (t : List ℕ). varint (e3 - e2) ++ t) (a4.found ∙ ap (λ (t : List ℕ). varint (e4 - e3) ++ t) cut))) ∙ sym (four_spelt start e1 e2 e3 e4 (drop (s1 + s2 + s3 + s4) bytes));
      shorter = omega (arith, ap length cut, a1.shorter, a2.shorter, a3.shorter, a4.shorter);
      enough = omega (arith, a1.shorter, a2.shorter, a3.shorter, a4.shorter);
      four = omega (arith, size_some w1 (e1 - start) s1 w2 h1, size_some w2 (e2 - e1) s2 w3 h2, size_some w3 (e3 - e2) s3 w4 h3, size_some w4 (e4 - e3) s4 w5 h4);
      l1 = omega (arith, h1.some);
      l2 = omega (arith, h2.some);
      l3 = omega (arith, h3.some);
      l4 = omega (arith, h4.some);
    }

pub four_rise : (start e1 e2 e3 e4 size : ℕ) (bytes : List ℕ) → FourLengths start e1 e2 e3 e4 size bytes → e4 < 2 ^ 64 → Rises false start (e1 ∷ e2 ∷ e3 ∷ e4 ∷ [])
four_rise start e1 e2 e3 e4 size bytes h fits =
    rises_cons false start e1 (e2 ∷ e3 ∷ e4 ∷ []) (omega (arith, h.l1)) (omega (arith, h.l2, h.l3, h.l4)) (λ _. h.l1)
    (rises_cons false e1 e2 (e3 ∷ e4 ∷ []) (omega (arith, h.l2)) (omega (arith, h.l3, h.l4)) (λ _. h.l2)
    (rises_cons false e2 e3 (e4 ∷ []) (omega (arith, h.l3)) (omega (arith, h.l4)) (λ _. h.l3) (rises_cons false e3 e4 [] (omega (arith, h.l4)) fits (λ _. h.l4) (rises_none false e4))))

pub four_fit : (t : PType) (start e1 e2 e3 e4 size : ℕ) (bytes : List ℕ) → FourLengths start e1 e2 e3 e4 size bytes → HasNumber t (pos e4) → All (λ (e : ℕ). HasNumber t (pos e)) (e1 ∷ e2 ∷ e3 ∷ e4 ∷ [])
four_fit t start e1 e2 e3 e4 size bytes h fits =
    All-from_recursion (λ (e : ℕ). HasNumber t (pos e)) (e1 ∷ e2 ∷ e3 ∷ e4 ∷ []) (has_less t e1 e4 (omega (arith, h.l2, h.l3, h.l4)) fits, (has_less t e2 e4 (omega (arith, h.l3, h.l4)) fits, (has_less t e3 e4 (omega (arith, h.l4)) fits, (fits, tt))))
