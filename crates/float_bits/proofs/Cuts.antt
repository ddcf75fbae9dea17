-- A window cut after its 53 highest binary digits.
use Rattle.std.proofs.Common.{◌≡◌, ℕ, suc, ◌+◌, ◌-◌, ◌*◌, ◌/◌, ◌%◌, ◌^◌, ◌<◌, ◌≤◌, inl, inr, arith, ap, ◌∙◌, sym, subst, pow_mono, pow_pos, mod-eq_of_lt}
use Rattle.std.proofs.lemmas.Bool.{cases_lt}
use Rattle.std.proofs.lemmas.Nat.{pow-add, leading_top, le-div, div_below, mod_below, shr_split}
use lib.Count.{count_leading_zeros}
use Rattle.float_bits.specs.Window.{IsCut}

-- how many digits are past 53, by the zeros before the first one
pub record IsDigitsPast (w z : ℕ) : Type 0 where
  pub within : z ≤ 75
  pub some : 0 < 75 - z
  pub few : 75 - z ≤ 43
  pub low : 2 ^ 52 * 2 ^ (75 - z) ≤ w
  pub high : w < 2 ^ 53 * 2 ^ (75 - z)

digits_at : (w z j : ℕ) → z + suc j ≡ 128 → 2 ^ j ≤ w → w < 2 ^ suc j → 2 ^ 53 ≤ w → w < 2 ^ 96 → IsDigitsPast w z
digits_at w z j e l h a b =
    let least : 53 ≤ j = elim (cases_lt j 53) [ inl t ↦ let u : suc j ≤ 53 = omega arith in let v : 2 ^ suc j ≤ 2 ^ 53 = pow_mono u in absurd (omega arith) | inr t ↦ t ] in
    let most : j ≤ 95 = elim (cases_lt 95 j) [ inl t ↦ let u : 96 ≤ j = omega arith in let v : 2 ^ 96 ≤ 2 ^ j = pow_mono u in absurd (omega arith) | inr t ↦ t ] in
    let d : 52 + (75 - z) ≡ j = omega arith in
    let f : 53 + (75 - z) ≡ suc j = omega arith in
    record {
      within = omega arith;
      some = omega arith;
      few = omega arith;
      low = subst (λ x. x ≤ w) (sym (sym (pow-add 2 52 (75 - z)) ∙ ap (λ x. 2 ^ x) d)) l;
      high = subst (λ x. w < x) (sym (sym (pow-add 2 53 (75 - z)) ∙ ap (λ x. 2 ^ x) f)) h;
    }

pub digits_past_53 : (w : ℕ) → 2 ^ 53 ≤ w → w < 2 ^ 96 → IsDigitsPast w (count_leading_zeros 128 w)
digits_past_53 w a b = let t = leading_top 128 w (omega arith) (omega arith) in digits_at w (count_leading_zeros 128 w) t.0 t.1 t.2 t.3 a b

pub halved : (d : ℕ) → 0 < d → 2 * (2 ^ d / 2) ≡ 2 ^ d
halved d p =
    let e : 1 + (d - 1) ≡ d = omega arith in
    let twice : 2 ^ d ≡ 2 * 2 ^ (d - 1) = ap (λ x. 2 ^ x) (sym e) ∙ pow-add 2 1 (d - 1) in
    omega arith

pub is_cut : (w d : ℕ) → 0 < d → d ≤ 43 → 2 ^ 52 * 2 ^ d ≤ w → w < 2 ^ 53 * 2 ^ d → IsCut w (w / 2 ^ d) d (w % 2 ^ d) (2 ^ d / 2)
is_cut w d some few low high =
    let unit = halved d some in
    record {
      whole = sym (ap (λ x. w / 2 ^ d * x + w % 2 ^ d) unit ∙ shr_split w d);
      lost_below = subst (λ x. w % 2 ^ d < x) (sym unit) (mod_below w (2 ^ d) (pow_pos d));
      unit = unit;
      kept_low = le-div (2 ^ 52) w (2 ^ d) (pow_pos d) low;
      kept_high = div_below w (2 ^ d) (2 ^ 53) (pow_pos d) high;
      digits_few = few;
    }

-- a 1 that is shifted within 128 bits
pub shifted_one : (d : ℕ) → d ≤ 43 → 1 * 2 ^ d % 2 ^ 128 ≡ 2 ^ d
shifted_one d few =
    let most : 2 ^ d ≤ 2 ^ 43 = pow_mono few in
    mod-eq_of_lt (omega arith) ∙ omega arith
