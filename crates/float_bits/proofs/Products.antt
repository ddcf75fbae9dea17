-- A product of a size and a number of rows, in two bins.
use Rattle.std.proofs.Common.{◌≡◌, ℕ, zero, suc, ◌+◌, ◌*◌, ◌/◌, ◌%◌, ◌^◌, ◌<◌, ◌≤◌, List, length, arith, ap, sym, ◌∙◌, mul-le-mul_left, mul-le-mul_right, pow_mono, mod-eq_of_lt, lit<}
use Rattle.std.proofs.lemmas.Nat.{pow-add, div-add-mod', mul-le, mul-lt}
use Rattle.float_bits.specs.declared.formats.FloatFormat.TheVariants.{F64}
use Rattle.float_bits.specs.Format.{exponent, fraction}
use Rattle.float_bits.specs.Number.{scaled, size}
use Rattle.float_bits.specs.Held.{IsFinite}
use Rattle.float_bits.specs.Places.{base, capacity, size_limit, value}
use Rattle.float_bits.proofs.PlaceValues.{base_is_two, base_pos}

-- 2 ^ z as places and a shift
pub places_and_shift : (z : ℕ) → 2 ^ (z % 32) * base ^ (z / 32) ≡ 2 ^ z
places_and_shift z =
    let whole : 32 * (z / 32) + z % 32 ≡ z = omega arith in
    let both : 2 ^ (32 * (z / 32)) * 2 ^ (z % 32) ≡ 2 ^ z = sym (pow-add 2 (32 * (z / 32)) (z % 32)) ∙ ap (λ e. 2 ^ e) whole in
    ap (λ e. 2 ^ (z % 32) * e) (base_is_two (z / 32)) ∙ omega (arith, both)

-- the lower and the upper word of m * n, shifted
abbrev pub word : ℕ
word = 0x1_0000_0000_0000_0000

pub record IsPair (m n z : ℕ) : Type 0 where
  pub low : m * n % word * 2 ^ (z % 32) < 2 ^ 96
  pub high : m * n / word * 2 ^ (z % 32) < 2 ^ 96
  pub low_whole : m * n % word * 2 ^ (z % 32) % 2 ^ 128 ≡ m * n % word * 2 ^ (z % 32)
  pub high_whole : m * n / word * 2 ^ (z % 32) % 2 ^ 128 ≡ m * n / word * 2 ^ (z % 32)

shifted_below : (a s : ℕ) → a < 2 ^ 64 → s < 32 → a * 2 ^ s < 2 ^ 96
shifted_below a s h l =
    let within : s ≤ 32 = omega arith in
    let most : a * 2 ^ s ≤ a * 2 ^ 32 = mul-le-mul_left a (pow_mono within) in
    omega arith

shifted_whole : (a s : ℕ) → a < 2 ^ 64 → s < 32 → a * 2 ^ s % 2 ^ 128 ≡ a * 2 ^ s
shifted_whole a s h l = let below = shifted_below a s h l in mod-eq_of_lt (omega arith)

pub pair : (m n z : ℕ) → m < 2 ^ 53 → n < 2 ^ 64 → IsPair m n z
pair m n z p q =
    let product : m * n < 2 ^ 53 * 2 ^ 64 = mul-lt m n (2 ^ 53) (2 ^ 64) p q in
    let shift : z % 32 < 32 = omega arith in
    let low : m * n % word < 2 ^ 64 = omega arith in
    let high : m * n / word < 2 ^ 64 = omega arith in
    record {
      low = shifted_below _ _ low shift;
      high = shifted_below _ _ high shift;
      low_whole = shifted_whole _ _ low shift;
      high_whole = shifted_whole _ _ high shift;
    }

collected : (low high s p v w : ℕ) → v + low * s * p + high * s * (p * w) ≡ v + (high * w + low) * (s * p)
collected low high s p v w = omega arith

turned : (m n q v : ℕ) → v + m * n * q ≡ v + n * (m * q)
turned m n q v = omega arith

-- what both words add
pub value_of_pair : (m n z v : ℕ) → v + m * n % word * 2 ^ (z % 32) * base ^ (z / 32) + m * n / word * 2 ^ (z % 32) * base ^ (z / 32 + 2) ≡ v + n * (m * 2 ^ z)
value_of_pair m n z v =
    ap (λ q. v + m * n % word * 2 ^ (z % 32) * base ^ (z / 32) + m * n / word * 2 ^ (z % 32) * q) (pow-add base (z / 32) 2)
    ∙ collected (m * n % word) (m * n / word) (2 ^ (z % 32)) (base ^ (z / 32)) v word
    ∙ ap (λ q. v + q * (2 ^ (z % 32) * base ^ (z / 32))) (div-add-mod' (m * n) word)
    ∙ ap (λ q. v + m * n * q) (places_and_shift z)
    ∙ turned m n (2 ^ z) v

-- a size is within the limit
pub within_limit : (m z : ℕ) → m < 2 ^ 53 → z ≤ 2045 → m * 2 ^ z ≤ size_limit
unfolding size_limit
within_limit m z p q =
    let most : m ≤ 2 ^ 53 = omega arith in
    mul-le m (2 ^ z) (2 ^ 53) (2 ^ 2045) most (pow_mono q)

fields_within : (x t : ℕ) → x < 2047 → t < 0x10_0000_0000_0000 → scaled 0x10_0000_0000_0000 x t ≤ size_limit
fields_within zero t p q = let w : t * 2 ^ 0 ≤ size_limit = within_limit t 0 (omega arith) (omega arith) in omega arith
fields_within (suc x) t p q = within_limit (0x10_0000_0000_0000 + t) x (omega arith) (omega arith)

pub size_within : (b : ℕ) → IsFinite b → size F64 b ≤ size_limit
size_within b h = fields_within (exponent F64 b) (fraction F64 b) (omega arith) (omega arith)

-- a number within the capacity is within 68 places
pub within_places : (xs : List ℕ) → length xs ≡ 68 → value xs < capacity → value xs < base ^ length xs
unfolding capacity
within_places xs e h = rw e h

pub zero_within : (xs : List ℕ) → value xs ≡ 0 → value xs < capacity
unfolding capacity
zero_within xs e = rw e (base_pos 68)

-- sizes of fewer than 2 ^ 64 rows have room
wide : (v rows p : ℕ) → 0 < p → v ≤ rows * (p * 2 ^ 18) → rows < 2 ^ 64 → v < p * 2 ^ 96
wide v rows p h l r =
    let most : (rows + 1) * (p * 2 ^ 18) ≤ 2 ^ 64 * (p * 2 ^ 18) = mul-le-mul_right (p * 2 ^ 18) (omega arith) in
    omega arith

pub has_room : (v rows : ℕ) → v ≤ rows * size_limit → rows < 2 ^ 64 → v < capacity
unfolding size_limit capacity
has_room v rows h r = wide v rows (base ^ 65) (lit< tt) h r

-- rows and further rows
pub more_rows : (v rows n s : ℕ) → v ≤ rows * size_limit → s ≤ size_limit → v + n * s ≤ (rows + n) * size_limit
more_rows v rows n s h l =
    let most : n * s ≤ n * size_limit = mul-le-mul_left n l in
    omega arith

pub other_rows : (v rows n : ℕ) → v ≤ rows * size_limit → v ≤ (rows + n) * size_limit
other_rows v rows n h =
    let most : rows * size_limit ≤ (rows + n) * size_limit = mul-le-mul_right size_limit (omega arith) in
    omega arith

pub joined_rows : (a b m n : ℕ) → a ≤ m * size_limit → b ≤ n * size_limit → a + b ≤ (m + n) * size_limit
joined_rows a b m n h k = omega arith
