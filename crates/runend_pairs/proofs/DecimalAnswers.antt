-- Which scales an `i8` has, and which integers have a number of digits.
use Rattle.std.proofs.Common.{◌≡◌, ℕ, ◌<◌, ◌≤◌, ◌^◌, ℤ, pos, negsuc, Bool, true, false, FitsSigned, refl, arith}
use Rattle.std.specs.Int.{w8, w128}
use Rattle.std.specs.Prelude.{◌&&◌, not, int_lt}
use Rattle.std.proofs.lemmas.Bool.{false≢true}
use Rattle.std.proofs.lemmas.Int.{ints}
use Rattle.std.proofs.Math.Nat.{pow-le-pow_right}
use Rattle.runend_pairs.specs.Decimals.{is_scale, HasDigits}

-- a scale is what an `i8` has
fits_by : (n : ℤ) (low high : Bool) → int_lt n (negsuc 127) ≡ low → int_lt n (pos 128) ≡ high → FitsSigned w8 n → (not low && high) ≡ true
fits_by n false true e f fits = refl
fits_by n false false e f fits = absurd (omega (arith, ints, fits))
fits_by n true high e f fits = absurd (omega (arith, ints, fits))

pub scale_of_fitting : (n : ℤ) → FitsSigned w8 n → is_scale n ≡ true
scale_of_fitting n fits = fits_by n (int_lt n (negsuc 127)) (int_lt n (pos 128)) refl refl fits

scale_by : (n : ℤ) (low high : Bool) → int_lt n (negsuc 127) ≡ low → int_lt n (pos 128) ≡ high → (not low && high) ≡ true → FitsSigned w8 n
scale_by n false true e f is = omega (arith, ints)
scale_by n false false e f is = absurd (false≢true is)
scale_by n true high e f is = absurd (false≢true is)

pub fitting_of_scale : (n : ℤ) → is_scale n ≡ true → FitsSigned w8 n
fitting_of_scale n is = scale_by n (int_lt n (negsuc 127)) (int_lt n (pos 128)) refl refl is

-- integers of 38 digits have 128 bits
pub small_power : (digits : ℕ) → digits ≤ 38 → 10 ^ digits ≤ 10 ^ 38
small_power digits few = pow-le-pow_right {n = 10} (omega arith) {i = digits} {j = 38} few

pub fits_digits : (digits : ℕ) (n : ℤ) → digits ≤ 38 → HasDigits digits n → FitsSigned w128 n
fits_digits digits n few within = let small = small_power digits few in omega (arith, ints, small, within)

pub power_fits : (digits : ℕ) → digits ≤ 38 → 10 ^ digits < 2 ^ 128
power_fits digits few = let small = small_power digits few in omega (arith, small)
