-- Products of integers with a natural number, and their order.
use Rattle.std.proofs.Common.{◌≡◌, ◌∙◌, ℕ, zero, suc, ◌*◌, ◌<◌, ◌≤◌, ℤ, pos, negsuc, neg_ℤ, ◌*ℤ◌, ◌<ℤ◌, ◌≤ℤ◌, true, false, refl, ap, sym, arith, cond, int_lt, mul-le-mul_right}
use Rattle.std.specs.Cmp.{int_cmp_is}
use Rattle.std.specs.Ordering.{int_cmp, MatchOrdering}
use Rattle.std.specs.declared.cmp.Ordering.{Ordering}
use Rattle.std.specs.declared.cmp.Ordering.TheVariants.{Less, Equal, Greater}
use Rattle.std.proofs.lemmas.Cmp.{int_ranked}
use Rattle.std.proofs.lemmas.Int.{by_lt_z, ints}
use lib.IntN.{suc_ℤ}
use Rattle.std.proofs.Math.IntN.{suc_ℤ-*ℤ, pos-*ℤ-pos, negsuc-*ℤ-pos}

-- they are in the order of the integers
pub times_at_most : (a b : ℤ) (d : ℕ) → a ≤ℤ b → (a *ℤ pos d) ≤ℤ (b *ℤ pos d)
times_at_most (pos m) (pos n) d h = let most : m * d ≤ n * d = mul-le-mul_right d (omega (arith, ints)) in omega (arith, ints, pos-*ℤ-pos m d, pos-*ℤ-pos n d)
times_at_most (pos m) (negsuc n) d h = omega (arith, ints)
times_at_most (negsuc m) (pos n) d h = omega (arith, ints, negsuc-*ℤ-pos m d, pos-*ℤ-pos n d)
times_at_most (negsuc m) (negsuc n) d h = let most : suc n * d ≤ suc m * d = mul-le-mul_right d (omega (arith, ints)) in omega (arith, ints, negsuc-*ℤ-pos m d, negsuc-*ℤ-pos n d)

next_at_most : (a b : ℤ) → a <ℤ b → suc_ℤ a ≤ℤ b
next_at_most (pos m) b h = omega (arith, ints)
next_at_most (negsuc zero) b h = omega (arith, ints)
next_at_most (negsuc (suc m)) b h = omega (arith, ints)

pub times_below : (a b : ℤ) (d : ℕ) → 0 < d → a <ℤ b → (a *ℤ pos d) <ℤ (b *ℤ pos d)
times_below a b d some h =
    let step = times_at_most (suc_ℤ a) b d (next_at_most a b h) in
    omega (arith, ints, suc_ℤ-*ℤ a (pos d), step)

pub times_natural : (n d : ℕ) → pos n *ℤ pos d ≡ pos (n * d)
times_natural n d = pos-*ℤ-pos n d

pub times_negative : (n d : ℕ) → neg_ℤ (pos n) *ℤ pos d ≡ neg_ℤ (pos (n * d))
times_negative zero d = pos-*ℤ-pos 0 d ∙ omega (arith, ints)
times_negative (suc n) d = negsuc-*ℤ-pos n d

-- what is known of each order is known of another's
pub ranks : (r : Ordering) {P Q R S T U : Type 0} → (P → S) → (Q → T) → (R → U) → MatchOrdering r P Q R → MatchOrdering r S T U
ranks Less f g h m = f m
ranks Equal f g h m = g m
ranks Greater f g h m = h m

-- so a factor on both sides changes no order
pub cmp_of_products : (a b : ℤ) (d : ℕ) → 0 < d → int_cmp (a *ℤ pos d) (b *ℤ pos d) ≡ int_cmp a b
cmp_of_products a b d some =
    sym (int_cmp_is (a *ℤ pos d) (b *ℤ pos d) (int_cmp a b)
    (ranks (int_cmp a b) (times_below a b d some) (λ (e : a ≡ b). ap (λ (z : ℤ). z *ℤ pos d) e) (times_below b a d some) (int_ranked a b (int_cmp a b) refl)))

pub cmp_less : (a b : ℤ) → a <ℤ b → int_cmp a b ≡ Less
cmp_less a b h = sym (int_cmp_is a b Less h)

pub cmp_greater : (a b : ℤ) → b <ℤ a → int_cmp a b ≡ Greater
cmp_greater a b h = sym (int_cmp_is a b Greater h)

pub test_less : (a b : ℤ) → a <ℤ b → int_lt a b ≡ true
test_less a b h = grind (arith, ints)

pub test_not_less : (a b : ℤ) → b ≤ℤ a → int_lt a b ≡ false
test_not_less a b h = grind (arith, ints)

-- a number that is above n and below the next integer
pub cmp_between : (n row p z : ℤ) → (n <ℤ row → z <ℤ p) → (row ≤ℤ n → p <ℤ z) → int_cmp p z ≡ cond (int_lt n row) Greater Less
cmp_between n row p z above below =
    by_lt_z n row
    (λ h. cmp_greater p z (above h) ∙ ap (λ b. cond b Greater Less) (sym (test_less n row h)))
    (λ h. cmp_less p z (below h) ∙ ap (λ b. cond b Greater Less) (sym (test_not_less n row h)))
