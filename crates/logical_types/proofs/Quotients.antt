-- Multiples leave no remainder.
use Rattle.std.proofs.Common.{◌≡◌, ◌*◌, ◌%◌, ◌<◌, ℕ, ℤ, pos, negsuc, neg_ℤ, ap, arith}
use Rattle.std.specs.Prelude.{◌*ℤ◌, ◌<ℤ◌, unsigned_abs, int_rem}
use Rattle.std.proofs.lemmas.Int.{unsigned_abs-mul, ints}
use Rattle.std.proofs.lemmas.Nat.{mod-mul-add}

no_rest : (q n : ℕ) → 0 < n → (q * n) % n ≡ 0
no_rest q n some = let law = mod-mul-add q n 0 some in grind (arith, law)

rest_by_size : (a d : ℤ) → unsigned_abs a % unsigned_abs d ≡ 0 → int_rem a d ≡ pos 0
rest_by_size (pos n) d e = ap pos e
rest_by_size (negsuc n) d e = ap (λ m. neg_ℤ (pos m)) e

size_some : (d : ℤ) → pos 0 <ℤ d → 0 < unsigned_abs d
size_some (pos n) some = omega (arith, ints)
size_some (negsuc n) some = omega (arith, ints)

pub multiple : (q d : ℤ) → pos 0 <ℤ d → int_rem (q *ℤ d) d ≡ pos 0
multiple q d some =
    rest_by_size (q *ℤ d) d (rw (unsigned_abs-mul q d) (no_rest (unsigned_abs q) (unsigned_abs d) (size_some d some)))
