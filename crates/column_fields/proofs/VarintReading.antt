-- The reader of varints: what it has read so far, and what the rest says of the whole.
use Rattle.std.proofs.Common.{◌≡◌, ℕ, ◌+◌, ◌-◌, ◌*◌, ◌^◌, ◌%◌, ◌<◌, ◌≤◌, List, [], ◌∷◌, ◌++◌, length, refl, sym, ap, subst, ◌∙◌, arith, inl, inr}
use Rattle.std.proofs.Math.Nat.{add-mul, mul_assoc, pow-le-pow_right}
use Rattle.std.proofs.lemmas.Nat.{pow-add, mul-add-lt}
use Rattle.column_fields.specs.Spelling.{Begins, BeginsWithNone}
use Rattle.column_fields.specs.Varint.{StandsFor, IsVarint}

-- a varint of n goes on in the rest, with high above the bits that are read
pub record GoesOn (rest : List ℕ) (value shift n : ℕ) (after : List ℕ) : Type 0 where
  pub high : ℕ
  pub front : List ℕ
  pub sum : n ≡ value + high * 2 ^ shift
  pub stands : StandsFor front high
  pub parts : rest ≡ front ++ after
  pub short : 7 * length front + shift ≤ 70

-- the value has the bits below shift, of whole bytes, and the varints of all bytes are those that go on in the rest
pub record Reading (bytes rest : List ℕ) (value shift : ℕ) : Type 0 where
  pub read : ℕ
  pub shift_is : shift ≡ 7 * read
  pub in_range : shift ≤ 63
  pub small : value < 2 ^ shift
  pub onward : (n : ℕ) (after : List ℕ) → n < 2 ^ 64 → GoesOn rest value shift n after → Begins IsVarint bytes n after
  pub only : (n : ℕ) (after : List ℕ) → Begins IsVarint bytes n after → GoesOn rest value shift n after

-- ---- powers of two

pow_next : (shift : ℕ) → 2 ^ (shift + 7) ≡ 2 ^ shift * 128
pow_next shift = pow-add 2 shift 7

pow_at_most : (shift limit : ℕ) → shift ≤ limit → 2 ^ shift ≤ 2 ^ limit
pow_at_most shift limit le = pow-le-pow_right {n = 2} (omega arith) le

-- seven more bits
grown : (value bits shift : ℕ) → bits < 128 → value < 2 ^ shift → value + bits * 2 ^ shift < 2 ^ (shift + 7)
grown value bits shift lt small = omega (arith, pow_next shift, mul-add-lt bits (2 ^ shift) value 128 lt small)

pub bits_fit : (value bits shift : ℕ) → bits < 128 → value < 2 ^ shift → shift ≤ 56 → value + bits * 2 ^ shift < 2 ^ 64
bits_fit value bits shift lt small le = omega (arith, grown value bits shift lt small, pow_at_most (shift + 7) 63 (omega arith))

-- the bits that a shift keeps
pub shifted_whole : (bits shift : ℕ) → bits * 2 ^ shift < 2 ^ 64 → (bits * 2 ^ shift) % 2 ^ 64 ≡ bits * 2 ^ shift
shifted_whole bits shift lt = omega arith

-- a number above the bits, from its low seven bits and those above them
regroup : (value low high shift : ℕ) → value + (low + 128 * high) * 2 ^ shift ≡ (value + low * 2 ^ shift) + high * 2 ^ (shift + 7)
regroup value low high shift =
    let more : high * 2 ^ (shift + 7) ≡ (high * 2 ^ shift) * 128 = ap (λ (w : ℕ). high * w) (pow_next shift) ∙ sym (mul_assoc high (2 ^ shift) 128) in
    omega (arith, add-mul low (128 * high) (2 ^ shift), mul_assoc 128 high (2 ^ shift), more)

-- ---- the loop

pub started : (bytes : List ℕ) → Reading bytes bytes 0 0
started bytes = record {
  read = 0;
  shift_is = refl;
  in_range = omega arith;
  small = omega arith;
  onward = λ n after fits g.
      let e : n ≡ g.high = omega (arith, g.sum) in
      record { front = g.front; spelt = record { stands = subst (λ (k : ℕ). StandsFor g.front k) (sym e) g.stands; short = omega (arith, g.short); fits = fits }; parts = g.parts };
  only = λ n after b. record { high = n; front = b.front; sum = omega arith; stands = b.spelt.stands; parts = b.parts; short = omega (arith, b.spelt.short) };
}

-- a byte of 128 or more is read, and more come
more_onward : (rest next after : List ℕ) (byte value shift n : ℕ) → rest ≡ byte ∷ next → 128 ≤ byte → byte < 256 → GoesOn next (value + (byte - 128) * 2 ^ shift) (shift + 7) n after → GoesOn rest value shift n after
more_onward rest next after byte value shift n e ge lt g = record {
  high = (byte - 128) + 128 * g.high;
  front = byte ∷ g.front;
  sum = g.sum ∙ sym (regroup value (byte - 128) g.high shift);
  stands = inr (byte - 128, g.high, omega arith, omega arith, refl, g.stands);
  parts = e ∙ ap (λ (t : List ℕ). byte ∷ t) g.parts;
  short = omega (arith, g.short);
}

more_only_at : (next after front : List ℕ) (byte value shift n high : ℕ) → 128 ≤ byte → n ≡ value + high * 2 ^ shift → StandsFor front high → byte ∷ next ≡ front ++ after → 7 * length front + shift ≤ 70 → GoesOn next (value + (byte - 128) * 2 ^ shift) (shift + 7) n after
more_only_at next after [] byte value shift n high ge sum stands parts short = absurd stands
more_only_at next after (c ∷ front) byte value shift n high ge sum (inl p) parts short =
    let heads : byte ≡ c = cc in absurd (omega (arith, p.0))
more_only_at next after (c ∷ front) byte value shift n high ge sum (inr (low, high', lt, is, high-is, stands)) parts short =
    let heads : byte ≡ c = cc in
    let tails : next ≡ front ++ after = cc in
    let low-is : low ≡ byte - 128 = omega arith in
    let whole : high ≡ (byte - 128) + 128 * high' = omega arith in
    record {
      high = high';
      front = front;
      sum = sum ∙ ap (λ (k : ℕ). value + k * 2 ^ shift) whole ∙ regroup value (byte - 128) high' shift;
      stands = stands;
      parts = tails;
      short = omega arith;
    }

more_only : (rest next after : List ℕ) (byte value shift n : ℕ) → rest ≡ byte ∷ next → 128 ≤ byte → GoesOn rest value shift n after → GoesOn next (value + (byte - 128) * 2 ^ shift) (shift + 7) n after
more_only rest next after byte value shift n e ge g = more_only_at next after g.front byte value shift n g.high ge g.sum g.stands (sym e ∙ g.parts) g.short

pub more_bytes : (bytes rest next : List ℕ) (byte value shift : ℕ) → Reading bytes rest value shift → shift < 63 → rest ≡ byte ∷ next → 128 ≤ byte → byte < 256 → Reading bytes next (value + (byte % 128) * 2 ^ shift) (shift + 7)
more_bytes bytes rest next byte value shift h below e ge lt =
    let low : byte % 128 ≡ byte - 128 = omega arith in
    rw low (record {
      read = h.read + 1;
      shift_is = omega arith;
      in_range = omega arith;
      small = grown value (byte - 128) shift (omega arith) h.small;
      onward = λ n after fits g. h.onward n after fits (more_onward rest next after byte value shift n e ge lt g);
      only = λ n after b. more_only rest next after byte value shift n e ge (h.only n after b);
    })

-- a byte below 128 is the last one
last_goes_on : (rest next : List ℕ) (byte value shift : ℕ) → rest ≡ byte ∷ next → byte < 128 → shift ≤ 63 → GoesOn rest value shift (value + byte * 2 ^ shift) next
last_goes_on rest next byte value shift e lt le = record { high = byte; front = byte ∷ []; sum = refl; stands = inl (lt, refl, refl); parts = e; short = omega arith }

pub last_byte : (bytes rest next : List ℕ) (byte value shift : ℕ) → Reading bytes rest value shift → shift < 63 → rest ≡ byte ∷ next → byte < 128 → Begins IsVarint bytes (value + (byte % 128) * 2 ^ shift) next
last_byte bytes rest next byte value shift h below e lt =
    let low : byte % 128 ≡ byte = omega arith in
    let aligned : shift ≤ 56 = omega (arith, h.shift_is) in
    rw low (h.onward _ next (bits_fit value byte shift lt h.small aligned) (last_goes_on rest next byte value shift e lt h.in_range))

-- the tenth byte has one bit
pub tenth_byte : (bytes rest next : List ℕ) (byte value shift : ℕ) → Reading bytes rest value shift → 63 ≤ shift → rest ≡ byte ∷ next → byte ≤ 1 → Begins IsVarint bytes (value + byte * 2 ^ 63) next
tenth_byte bytes rest next byte value shift h ge e le =
    let is : shift ≡ 63 = omega (arith, h.in_range) in
    let at : Reading bytes rest value 63 = subst (λ (k : ℕ). Reading bytes rest value k) is h in
    at.onward _ next (omega (arith, at.small)) (last_goes_on rest next byte value 63 e (omega arith) (omega arith))

tenth_at_most : (next after front : List ℕ) (byte value n high : ℕ) → 1 < byte → n ≡ value + high * 2 ^ 63 → n < 2 ^ 64 → StandsFor front high → byte ∷ next ≡ front ++ after → 7 * length front + 63 ≤ 70 → ⊥
tenth_at_most next after [] byte value n high gt sum fits stands parts short = stands
tenth_at_most next after (c ∷ front) byte value n high gt sum fits (inl p) parts short =
    let heads : byte ≡ c = cc in omega (arith, p.2)
tenth_at_most next after (c ∷ []) byte value n high gt sum fits (inr (low, high', lt, is, high-is, stands)) parts short = stands
tenth_at_most next after (c ∷ d ∷ front) byte value n high gt sum fits (inr p) parts short = omega arith

pub tenth_too_large : (bytes rest next : List ℕ) (byte value shift : ℕ) → Reading bytes rest value shift → 63 ≤ shift → rest ≡ byte ∷ next → 1 < byte → BeginsWithNone IsVarint bytes
tenth_too_large bytes rest next byte value shift h ge e gt =
    let is : shift ≡ 63 = omega (arith, h.in_range) in
    let at : Reading bytes rest value 63 = subst (λ (k : ℕ). Reading bytes rest value k) is h in
    record {
      none = λ n after b.
          let g = at.only n after b in
          tenth_at_most next after g.front byte value n g.high gt g.sum b.spelt.fits g.stands (sym e ∙ g.parts) g.short;
    }

ends_at : (after front : List ℕ) (high : ℕ) → StandsFor front high → [] ≡ front ++ after → ⊥
ends_at after [] high stands parts = stands
ends_at after (c ∷ front) high stands parts = cc

pub bytes_end : (bytes rest : List ℕ) (value shift : ℕ) → Reading bytes rest value shift → rest ≡ [] → BeginsWithNone IsVarint bytes
bytes_end bytes rest value shift h e = record {
  none = λ n after b. let g = h.only n after b in ends_at after g.front g.high g.stands (sym e ∙ g.parts);
}
