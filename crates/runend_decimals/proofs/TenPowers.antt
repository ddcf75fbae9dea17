-- Powers of ten, and quotients without a rest.
use Rattle.std.proofs.Common.{◌≡◌, ◌∙◌, ℕ, zero, suc, ◌*◌, ◌^◌, ◌%◌, ◌<◌, ◌≤◌, ℤ, pos, negsuc, neg_ℤ, ◌*ℤ◌, ◌<ℤ◌, ◌≢◌, Option, Some, None, SomeIff, FitsSigned, int_rem, unsigned_abs, min, ap, sym, arith, add-zero, inl, inr}
use Rattle.std.specs.Int.{w128}
use Rattle.std.proofs.lemmas.Bool.{cases_lt}
use Rattle.std.proofs.lemmas.Int.{ints}
use Rattle.std.proofs.Math.IntN.{pos-*ℤ-pos, negsuc-*ℤ-pos}
use Rattle.std.proofs.Math.Nat.{mul-add-mod_self_right, mul-le-mul_right, one-le-pow, zero-mod, pow-le-pow_right}
use Rattle.runend_decimals.specs.Rescaling.{IsPowerValue}

-- a power of ten has at most 38 digits after the first, or at least 39
short_power : (k : ℕ) → k < 39 → 10 ^ k ≤ 10 ^ 38
short_power k h = pow-le-pow_right {n = 10} (omega arith) {i = k} {j = 38} (omega arith)

long_power : (k : ℕ) → 39 ≤ k → 10 ^ 39 ≤ 10 ^ k
long_power k h = pow-le-pow_right {n = 10} (omega arith) {i = 39} {j = k} h

-- a power of ten that an i128 has, or that is too large for one
pub power_value : (k : ℕ) (value : Option ℤ) → SomeIff value (FitsSigned w128 (pos (10 ^ k))) (pos (10 ^ k)) → IsPowerValue k value
power_value k None lacks = elim (cases_lt k 39) [
  | inl short ↦ let small = short_power k short in absurd (lacks (omega (arith, ints, small)))
  | inr long ↦ long_power k (omega arith)
]
power_value k (Some power) has = let fits : FitsSigned w128 (pos (10 ^ k)) = has.0 in (has.1, omega (arith, ints, fits))

-- it is more than 0
pub power_some : (k : ℕ) → 0 < 10 ^ k
power_some k = let some = one-le-pow k 10 (omega arith) in omega (arith, some)

-- 10 to the power of a precision, which is at most 38
pub short_precision : (p : ℕ) → 10 ^ min p 38 ≤ 10 ^ 38
short_precision p = short_power (min p 38) (omega arith)

pub precision_power : (p : ℕ) → 10 ^ min p 38 < 2 ^ 128
precision_power p = let small = short_precision p in omega (arith, small)

-- the size of a multiple
times_is : (m d : ℕ) → pos (suc m) *ℤ pos d ≡ pos (suc m * d)
times_is m d = pos-*ℤ-pos (suc m) d

more_than_once : (m d : ℕ) → d ≤ suc m * d
more_than_once m d = let law = mul-le-mul_right {m = 1} {n = suc m} d (omega arith) in omega (arith, law)

-- no multiple of a number that is too large is a number that is not 0
pub no_multiple : (n q : ℤ) (d : ℕ) → n ≢ pos 0 → unsigned_abs n < d → q *ℤ pos d ≡ n → ⊥
no_multiple n (pos zero) d some small is = some (sym is ∙ pos-*ℤ-pos 0 d ∙ ap (λ (k : ℕ). pos k) (omega arith))
no_multiple n (pos (suc m)) d some small is = omega (arith, ints, small, is, times_is m d, more_than_once m d)
no_multiple n (negsuc m) d some small is = omega (arith, ints, small, is, negsuc-*ℤ-pos m d, more_than_once m d)

-- a multiple of a number leaves no rest
multiple_mod : (m d : ℕ) → m * d % d ≡ 0
multiple_mod m d = ap (λ (w : ℕ). w % d) (sym (add-zero (m * d))) ∙ mul-add-mod_self_right m d 0 ∙ zero-mod d

rem_below_zero : (p d : ℕ) → p % d ≡ 0 → int_rem (neg_ℤ (pos p)) (pos d) ≡ pos 0
rem_below_zero zero d h = ap (λ (r : ℕ). pos r) h
rem_below_zero (suc k) d h = ap (λ (r : ℕ). neg_ℤ (pos r)) h

rem_of_multiple : (q : ℤ) (d : ℕ) → int_rem (q *ℤ pos d) (pos d) ≡ pos 0
rem_of_multiple (pos m) d = ap (λ (n : ℤ). int_rem n (pos d)) (pos-*ℤ-pos m d) ∙ ap (λ (r : ℕ). pos r) (multiple_mod m d)
rem_of_multiple (negsuc m) d = ap (λ (n : ℤ). int_rem n (pos d)) (negsuc-*ℤ-pos m d) ∙ rem_below_zero (suc m * d) d (multiple_mod (suc m) d)

-- a number that leaves a rest is not a multiple
pub rest_left : (n q power : ℤ) → pos 0 <ℤ power → int_rem n power ≢ pos 0 → q *ℤ power ≡ n → ⊥
rest_left n q (pos d) some rest is = rest (ap (λ (z : ℤ). int_rem z (pos d)) (sym is) ∙ rem_of_multiple q d)
rest_left n q (negsuc d) some rest is = omega (arith, ints, some)
