-- Sizes of patterns with plus, from 0.0 to infinity.
use Rattle.std.proofs.Common.{◌≡◌, ℕ, suc, ◌+◌, ◌-◌, ◌*◌, ◌^◌, ◌<◌, ◌≤◌, inl, inr, arith, ap, ◌∙◌, sym}
use Rattle.std.proofs.lemmas.Bool.{cases_lt}
use Rattle.std.proofs.lemmas.Nat.{pow-add}
use Rattle.float_bits.specs.declared.formats.FloatFormat.TheVariants.{F64}
use Rattle.float_bits.specs.Format.{exponent, exponent_unit, fraction, infinity}
use Rattle.float_bits.specs.Number.{scaled, size}
use Rattle.float_bits.proofs.Neighbours.{Ascends}
use Rattle.float_bits.proofs.Sizes.{smaller_size}

pub sizes_ascend : (a b : ℕ) → a < b → b ≤ infinity F64 → size F64 a < size F64 b
sizes_ascend a b h l = smaller_size F64 a b (omega arith)

pub doubles_ascend : Ascends (size F64) (infinity F64)
doubles_ascend = record { up = sizes_ascend }

-- the pattern of 53 digits that are doubled k times
pub size_of_doubled : (k m : ℕ) → 2 ^ 52 ≤ m → m < 2 ^ 53 → k ≤ 2046 → size F64 (k * 0x10_0000_0000_0000 + m) ≡ m * 2 ^ k
size_of_doubled k m l h b =
    let e : exponent F64 (k * 0x10_0000_0000_0000 + m) ≡ suc k = omega arith in
    let t : fraction F64 (k * 0x10_0000_0000_0000 + m) ≡ m - 2 ^ 52 = omega arith in
    let whole : exponent_unit F64 + (m - 2 ^ 52) ≡ m = omega arith in
    ap (λ x. scaled (exponent_unit F64) x (fraction F64 (k * 0x10_0000_0000_0000 + m))) e
    ∙ ap (λ x. (exponent_unit F64 + x) * 2 ^ k) t ∙ ap (λ x. x * 2 ^ k) whole

twice : (p : ℕ) → 2 ^ 52 * (p * 2) ≡ 2 ^ 53 * p
twice p = omega arith

-- the pattern after it has one digit more, whether or not its exponent is the next one
pub size_after : (k m : ℕ) → 2 ^ 52 ≤ m → m < 2 ^ 53 → k ≤ 2045 → size F64 (k * 0x10_0000_0000_0000 + m + 1) ≡ (m + 1) * 2 ^ k
size_after k m l h b = elim (cases_lt (m + 1) (2 ^ 53)) [
  | inl t ↦
      let e : k * 0x10_0000_0000_0000 + m + 1 ≡ k * 0x10_0000_0000_0000 + (m + 1) = omega arith in
      ap (size F64) e ∙ size_of_doubled k (m + 1) (omega arith) t (omega arith)
  | inr t ↦
      let e : k * 0x10_0000_0000_0000 + m + 1 ≡ (k + 1) * 0x10_0000_0000_0000 + 2 ^ 52 = omega arith in
      let d : m + 1 ≡ 2 ^ 53 = omega arith in
      ap (size F64) e ∙ size_of_doubled (k + 1) (2 ^ 52) (omega arith) (omega arith) (omega arith)
      ∙ ap (λ z. 2 ^ 52 * z) (pow-add 2 k 1) ∙ twice (2 ^ k) ∙ ap (λ z. z * 2 ^ k) (sym d)
]

-- numbers of 53 digits at most are their own patterns
pub size_of_small : (m : ℕ) → m < 2 ^ 53 → size F64 m ≡ m
size_of_small m h = elim (cases_lt m (2 ^ 52)) [
  | inl t ↦
      let e : exponent F64 m ≡ 0 = omega arith in
      let f : fraction F64 m ≡ m = omega arith in
      ap (λ x. scaled (exponent_unit F64) x (fraction F64 m)) e ∙ f
  | inr t ↦ let e : m ≡ 0 * 0x10_0000_0000_0000 + m = omega arith in ap (size F64) e ∙ size_of_doubled 0 m t h (omega arith) ∙ omega arith
]
