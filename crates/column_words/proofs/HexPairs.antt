-- A byte as two hexadecimal digits.
use Rattle.std.proofs.Common.{◌≡◌, ◌<◌, ◌^◌, ◌-◌, [], ◌∷◌, ℕ, List, Bool, true, false, refl, subst, inl, inr, arith}
use Rattle.std.specs.Prelude.{◌&&◌, zero, suc}
use Rattle.std.proofs.lemmas.Bool.{cases_lt, false≢true}
use Rattle.std.proofs.lemmas.Slice.Eq.{bytes_eq-Decides}
use Rattle.std.specs.Str.{bytes_eq}
use Rattle.std.specs.Fmt.{char_count, digits, format_spec, padded_integral}
use Rattle.hex.specs.Hex.{encode_upper, encode_with}

and_left : (a b : Bool) → (a && b) ≡ true → a ≡ true
and_left true b e = refl
and_left false b e = absurd (false≢true e)

and_right : (a b : Bool) → (a && b) ≡ true → b ≡ true
and_right true b e = e
and_right false b e = absurd (false≢true e)

-- the test passes at each number below n
all_below : (ℕ → Bool) → ℕ → Bool
all_below p zero = true
all_below p (suc n) = p n && all_below p n

at_any : (p : ℕ → Bool) (n i : ℕ) → all_below p n ≡ true → i < n → p i ≡ true
unfolding all_below
at_any p zero i all below = absurd (omega arith)
at_any p (suc n) i all below =
    elim (cases_lt i n) [
      | inl less ↦ at_any p n i (and_right (p n) _ all) less
      | inr last ↦ let same : n ≡ i = omega arith in subst (λ k. p k ≡ true) same (and_left (p n) _ all)
    ]

-- what `{:02X}` writes of a byte
abbrev pub written : ℕ → List ℕ
written byte = padded_integral (format_spec 32 0 4 2 (2 ^ 64 - 1)) false [] (digits 16 true byte)

abbrev agrees : ℕ → Bool
agrees byte = bytes_eq (written byte) (encode_upper (byte ∷ []))

all_agree : all_below agrees 256 ≡ true
unfolding all_below padded_integral digits encode_with char_count
all_agree = refl

-- it is the two upper case digits of its encoding
pub two_digits : (byte : ℕ) → byte < 256 → written byte ≡ encode_upper (byte ∷ [])
two_digits byte small = (bytes_eq-Decides (written byte) (encode_upper (byte ∷ []))).0 (at_any agrees 256 byte all_agree small)
