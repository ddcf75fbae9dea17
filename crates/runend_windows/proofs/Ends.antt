-- Ends as they are stored, and as a column has them.
use Rattle.std.proofs.Common.{◌≡◌, ℕ, ℤ, pos, List, [], ◌∷◌, map, length, refl, sym, ap, subst, ◌∙◌, arith, false}
use Rattle.std.specs.List.Sorted.{IsStrictlyIncreasing}
use Rattle.std.specs.Prelude.{unsigned_abs, count_by, nat_lt, cond}
use Rattle.std.proofs.lemmas.Bool.{le-ltb}
use Rattle.std.proofs.lemmas.List.Sums.{sum_by-cons}
use Rattle.std.proofs.lemmas.List.{length-map}
use Rattle.column_core.specs.PrimitiveForm.{PrimitiveForm}
use Rattle.runend_windows.specs.Ends.{ends_of}

-- the ends of unsigned numbers are these numbers
pub ends_stored : (ns : List ℕ) → map unsigned_abs (map (λ (n : ℕ). pos n) ns) ≡ map (λ n. n) ns
ends_stored [] = refl
ends_stored (n ∷ ns) = ap (λ xs. n ∷ xs) (ends_stored ns)

-- also where the numbers are given
pub numbers_stored : (ns : List ℕ) (numbers : List ℤ) → map (λ (n : ℕ). pos n) ns ≡ numbers → map (λ n. n) ns ≡ map unsigned_abs numbers
numbers_stored ns numbers e = sym (ends_stored ns) ∙ ap (map unsigned_abs) e

-- and so they increase where the ends do
pub increasing_stored : (numbers : List ℤ) (ns : List ℕ) → numbers ≡ map (λ (n : ℕ). pos n) ns → IsStrictlyIncreasing (map unsigned_abs numbers) → IsStrictlyIncreasing (map (λ n. n) ns)
increasing_stored numbers ns e h = subst IsStrictlyIncreasing (ap (map unsigned_abs) e ∙ ends_stored ns) h

-- as many ends as numbers
pub length_ends_of : (form : PrimitiveForm) → length (ends_of form) ≡ length form.numbers
length_ends_of form = length-map form.numbers unsigned_abs

-- no end is below the first row
pub none_below_zero : (ends : List ℕ) → count_by (λ e. nat_lt e 0) ends ≡ 0
none_below_zero [] = refl
none_below_zero (e ∷ es) =
    let step = sum_by-cons (λ e. cond (nat_lt e 0) 1 0) e es in
    let none : nat_lt e 0 ≡ false = le-ltb e 0 (omega arith) in
    let zero : ◌≡◌ {A = ℕ} (cond (nat_lt e 0) 1 0) 0 = rw none refl in
    omega (arith, step, zero, none_below_zero es)
