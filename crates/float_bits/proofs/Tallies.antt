-- Tallies add up.
use Rattle.std.proofs.Common.{◌≡◌, ℕ, ℤ, zero, suc, ◌+◌, ◌<◌, ◌≤◌, ◌∙◌, sym, ap, refl, arith, Bool, true, false, inl, inr, List, [], ◌∷◌, ◌++◌, replicate, pos, neg_ℤ, nat_lt, lt-ltb, le-ltb, ne_eqb}
use Rattle.std.specs.Prelude.{if◌then◌else◌, ◌==◌, ◌+ℤ◌, ◌*ℤ◌}
use Rattle.std.proofs.lemmas.Bool.{cases_lt, eqb-true}
use Rattle.std.proofs.lemmas.Int.{ints}
use Rattle.float_bits.specs.declared.formats.FloatFormat.TheVariants.{F64}
use Rattle.float_bits.specs.Format.{infinity, magnitude, sign_bit}
use Rattle.float_bits.specs.Number.{number, size, with_sign}
use Rattle.float_bits.specs.Held.{IsFinite}
use Rattle.float_bits.specs.Tally.{Tally, joined, no_rows, row_of, tally, tally_of, times, total, with_infinities, with_minus, with_minus_infinities, with_minus_zeros, with_nans, with_plus}

same : (a b c d e f g a' b' c' d' e' f' g' : ℕ) → a ≡ a' → b ≡ b' → c ≡ c' → d ≡ d' → e ≡ e' → f ≡ f' → g ≡ g' → tally a b c d e f g ≡ tally a' b' c' d' e' f' g'
same a b c d e f g a' b' c' d' e' f' g' p q r s t u v = cc

pub same_tally : (t u : Tally) → t.rows ≡ u.rows → t.plus ≡ u.plus → t.minus ≡ u.minus → t.nans ≡ u.nans → t.infinities ≡ u.infinities → t.minus_infinities ≡ u.minus_infinities → t.minus_zeros ≡ u.minus_zeros → t ≡ u
same_tally t u p q r s v w x = same _ _ _ _ _ _ _ _ _ _ _ _ _ _ p q r s v w x

pub joined_swapped : (t u : Tally) → joined t u ≡ joined u t
joined_swapped t u = same_tally (joined t u) (joined u t) (omega arith) (omega arith) (omega arith) (omega arith) (omega arith) (omega arith) (omega arith)

pub joined_grouped : (t u v : Tally) → joined (joined t u) v ≡ joined t (joined u v)
joined_grouped t u v = same_tally (joined (joined t u) v) (joined t (joined u v)) (omega arith) (omega arith) (omega arith) (omega arith) (omega arith) (omega arith) (omega arith)

pub joined_none : (t : Tally) → joined no_rows t ≡ t
joined_none t = same_tally (joined no_rows t) t (omega arith) (omega arith) (omega arith) (omega arith) (omega arith) (omega arith) (omega arith)

pub times_none : (t : Tally) → times 0 t ≡ no_rows
times_none t = same_tally (times 0 t) no_rows (omega arith) (omega arith) (omega arith) (omega arith) (omega arith) (omega arith) (omega arith)

pub times_more : (n : ℕ) (t : Tally) → times (suc n) t ≡ joined t (times n t)
times_more n t = same_tally (times (suc n) t) (joined t (times n t)) (omega arith) (omega arith) (omega arith) (omega arith) (omega arith) (omega arith) (omega arith)

-- a run, row by row or at once
pub run_rows : (b n : ℕ) → tally_of (replicate n b) ≡ times n (row_of b)
run_rows b zero = sym (times_none (row_of b))
run_rows b (suc n) = ap (joined (row_of b)) (run_rows b n) ∙ sym (times_more n (row_of b))

pub chunks_joined : (xs ys : List ℕ) → tally_of (xs ++ ys) ≡ joined (tally_of xs) (tally_of ys)
chunks_joined [] ys = sym (joined_none (tally_of ys))
chunks_joined (x ∷ xs) ys = ap (joined (row_of x)) (chunks_joined xs ys) ∙ sym (joined_grouped (row_of x) (tally_of xs) (tally_of ys))

-- sums as integers
pub total_joined : (t u : Tally) → total (joined t u) ≡ total t +ℤ total u
total_joined t u = omega (arith, ints)

pub total_times : (n : ℕ) (t : Tally) → total (times n t) ≡ pos n *ℤ total t
total_times zero t = ap total (times_none t) ∙ omega (arith, ints)
total_times (suc n) t =
    let rest = total_times n t in
    ap total (times_more n t) ∙ total_joined t (times n t) ∙ ap (λ z. total t +ℤ z) rest ∙ one_more n (total t)
  where
    one_more : (n : ℕ) (z : ℤ) → z +ℤ pos n *ℤ z ≡ pos (suc n) *ℤ z
    one_more n z = omega (arith, ints)

-- one row by its sign, and by whether it is -0.0
finite_row : (positive is_zero : Bool) (s : ℕ) → (positive ≡ false → is_zero ≡ true → s ≡ 0) →
    total (if positive then tally 1 s 0 0 0 0 0 else (if is_zero then tally 1 0 0 0 0 0 1 else tally 1 0 s 0 0 0 0)) ≡ with_sign positive s
finite_row true is_zero s h = omega (arith, ints)
finite_row false true s h = sym (ap (λ x. neg_ℤ (pos x)) (h refl refl))
finite_row false false s h = omega (arith, ints)

other_row : (plus minus : Bool) → total (if plus then tally 1 0 0 0 1 0 0 else (if minus then tally 1 0 0 0 0 1 0 else tally 1 0 0 1 0 0 0)) ≡ pos 0
other_row true minus = refl
other_row false true = refl
other_row false false = refl

size_of_minus_zero : (b : ℕ) → (b == sign_bit F64) ≡ true → size F64 b ≡ 0
size_of_minus_zero b e = let h : b ≡ sign_bit F64 = eqb-true b (sign_bit F64) e in ap (size F64) h

pub row_total : (b : ℕ) → IsFinite b → total (row_of b) ≡ number F64 b
row_total b h =
    rw (lt-ltb (magnitude F64 b) (infinity F64) h)
    (finite_row (nat_lt b (sign_bit F64)) (b == sign_bit F64) (size F64 b) (λ q r. size_of_minus_zero b r))

pub other_total : (b : ℕ) → ¬ IsFinite b → total (row_of b) ≡ pos 0
other_total b h =
    let past : infinity F64 ≤ magnitude F64 b = elim (cases_lt (magnitude F64 b) (infinity F64)) [ inl x ↦ absurd (h x) | inr x ↦ x ] in
    rw (le-ltb (magnitude F64 b) (infinity F64) past) (other_row (b == infinity F64) (b == sign_bit F64 + infinity F64))

-- one row, by tests of its pattern
plus_row : (b : ℕ) → IsFinite b → b < sign_bit F64 → row_of b ≡ tally 1 (size F64 b) 0 0 0 0 0
plus_row b h l = rw (lt-ltb (magnitude F64 b) (infinity F64) h, lt-ltb b (sign_bit F64) l) refl

minus_row : (b : ℕ) → IsFinite b → sign_bit F64 ≤ b → (b ≡ sign_bit F64 → ⊥) → row_of b ≡ tally 1 0 (size F64 b) 0 0 0 0
minus_row b h l d = rw (lt-ltb (magnitude F64 b) (infinity F64) h, le-ltb b (sign_bit F64) l, ne_eqb b (sign_bit F64) d) refl

infinite : (b : ℕ) → infinity F64 ≤ magnitude F64 b → row_of b ≡ (if b == infinity F64 then tally 1 0 0 0 1 0 0 else (if b == sign_bit F64 + infinity F64 then tally 1 0 0 0 0 1 0 else tally 1 0 0 1 0 0 0))
infinite b h = rw (le-ltb (magnitude F64 b) (infinity F64) h) refl

nan_row : (b : ℕ) → infinity F64 ≤ magnitude F64 b → (b ≡ infinity F64 → ⊥) → (b ≡ sign_bit F64 + infinity F64 → ⊥) → row_of b ≡ tally 1 0 0 1 0 0 0
nan_row b h p q = infinite b h ∙ rw (ne_eqb b (infinity F64) p, ne_eqb b (sign_bit F64 + infinity F64) q) refl

-- a run added, by the same tests
pub adds_plus : (t : Tally) (b n : ℕ) → IsFinite b → b < sign_bit F64 → with_plus t n (size F64 b) ≡ joined t (times n (row_of b))
adds_plus t b n h l =
    same_tally (with_plus t n (size F64 b)) (joined t (times n (tally 1 (size F64 b) 0 0 0 0 0))) (omega arith) (omega arith) (omega arith) (omega arith) (omega arith) (omega arith) (omega arith)
    ∙ ap (λ r. joined t (times n r)) (sym (plus_row b h l))

pub adds_minus : (t : Tally) (b n : ℕ) → IsFinite b → sign_bit F64 ≤ b → (b ≡ sign_bit F64 → ⊥) → with_minus t n (size F64 b) ≡ joined t (times n (row_of b))
adds_minus t b n h l d =
    same_tally (with_minus t n (size F64 b)) (joined t (times n (tally 1 0 (size F64 b) 0 0 0 0))) (omega arith) (omega arith) (omega arith) (omega arith) (omega arith) (omega arith) (omega arith)
    ∙ ap (λ r. joined t (times n r)) (sym (minus_row b h l d))

pub adds_minus_zeros : (t : Tally) (b n : ℕ) → b ≡ sign_bit F64 → with_minus_zeros t n ≡ joined t (times n (row_of b))
adds_minus_zeros t b n e =
    same_tally (with_minus_zeros t n) (joined t (times n (tally 1 0 0 0 0 0 1))) (omega arith) (omega arith) (omega arith) (omega arith) (omega arith) (omega arith) (omega arith)
    ∙ ap (λ x. joined t (times n (row_of x))) (sym e)

pub adds_infinities : (t : Tally) (b n : ℕ) → b ≡ infinity F64 → with_infinities t n ≡ joined t (times n (row_of b))
adds_infinities t b n e =
    same_tally (with_infinities t n) (joined t (times n (tally 1 0 0 0 1 0 0))) (omega arith) (omega arith) (omega arith) (omega arith) (omega arith) (omega arith) (omega arith)
    ∙ ap (λ x. joined t (times n (row_of x))) (sym e)

pub adds_minus_infinities : (t : Tally) (b n : ℕ) → b ≡ sign_bit F64 + infinity F64 → with_minus_infinities t n ≡ joined t (times n (row_of b))
adds_minus_infinities t b n e =
    same_tally (with_minus_infinities t n) (joined t (times n (tally 1 0 0 0 0 1 0))) (omega arith) (omega arith) (omega arith) (omega arith) (omega arith) (omega arith) (omega arith)
    ∙ ap (λ x. joined t (times n (row_of x))) (sym e)

pub adds_nans : (t : Tally) (b n : ℕ) → infinity F64 ≤ magnitude F64 b → (b ≡ infinity F64 → ⊥) → (b ≡ sign_bit F64 + infinity F64 → ⊥) → with_nans t n ≡ joined t (times n (row_of b))
adds_nans t b n h p q =
    same_tally (with_nans t n) (joined t (times n (tally 1 0 0 1 0 0 0))) (omega arith) (omega arith) (omega arith) (omega arith) (omega arith) (omega arith) (omega arith)
    ∙ ap (λ r. joined t (times n r)) (sym (nan_row b h p q))
