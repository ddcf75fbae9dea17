-- How many rows of one number a sum of 38 digits holds.
use Rattle.std.proofs.Common.{◌≡◌, ◌∙◌, ℕ, zero, suc, ◌+◌, ◌-◌, ◌*◌, ◌/◌, ◌^◌, ◌<◌, ◌≤◌, ℤ, pos, negsuc, neg_ℤ, ◌+ℤ◌, ◌-ℤ◌, ◌*ℤ◌, ◌<ℤ◌, ◌≤ℤ◌, ap, subst, sym, arith, inl, inr}
use Rattle.std.specs.Prelude.{unsigned_abs}
use Rattle.std.proofs.lemmas.Bool.{cases_lt}
use Rattle.std.proofs.lemmas.Int.{ints}
use Rattle.std.proofs.Math.IntN.{pos-*ℤ-pos, negsuc-*ℤ-pos}
use Rattle.std.proofs.Math.Nat.{le-div_iff_mul-le, mul_comm, mul-le-mul_left}
use Rattle.runend_decimals.specs.Digits.{HasDigits}
use Rattle.runend_decimals.specs.Totals.{IsHeld}

-- a sum moved up by as much as there is room for, and by more
up_fits : (sum : ℤ) (room way : ℕ) → HasDigits 38 sum → pos room ≡ pos (10 ^ 38 - 1) -ℤ sum → way ≤ room → HasDigits 38 (sum +ℤ pos way)
up_fits sum room way held is within = omega (arith, ints)

up_leaves : (sum : ℤ) (room way : ℕ) → HasDigits 38 sum → pos room ≡ pos (10 ^ 38 - 1) -ℤ sum → room < way → 10 ^ 38 ≤ unsigned_abs (sum +ℤ pos way)
up_leaves sum room way held is past = omega (arith, ints)

down_fits : (sum : ℤ) (room way : ℕ) → HasDigits 38 sum → pos room ≡ sum +ℤ pos (10 ^ 38 - 1) → way ≤ room → HasDigits 38 (sum +ℤ neg_ℤ (pos way))
down_fits sum room way held is within = omega (arith, ints)

down_leaves : (sum : ℤ) (room way : ℕ) → HasDigits 38 sum → pos room ≡ sum +ℤ pos (10 ^ 38 - 1) → room < way → 10 ^ 38 ≤ unsigned_abs (sum +ℤ neg_ℤ (pos way))
down_leaves sum room way held is past = omega (arith, ints)

-- a product with a negative number
times_down : (m k : ℕ) → negsuc m *ℤ pos k ≡ neg_ℤ (pos (suc m * k))
times_down m k = omega (arith, ints, negsuc-*ℤ-pos m k)

-- the way of the last row that is held, and of the next
module _ (size room : ℕ) (some : 0 < size) where
  way_within : size * (room / size) ≤ room
  way_within = let law = (le-div_iff_mul-le {k = size} {x = room / size} {y = room} some).0 (omega arith) in omega (arith, law, mul_comm size (room / size))

  way_past : room < size * (room / size + 1)
  way_past = elim (cases_lt room (size * (room / size + 1))) [
    | inl past ↦ past
    | inr within ↦
        let law = (le-div_iff_mul-le {k = size} {x = room / size + 1} {y = room} some).1 (omega (arith, within, mul_comm size (room / size + 1))) in
        absurd (omega (arith, law))
  ]

  -- where rows have a longer way than there is room for, fewer are held
  fewer : (rows : ℕ) → (size * rows ≤ room → ⊥) → room / size < rows
  fewer rows leaves = elim (cases_lt (room / size) rows) [
    | inl less ↦ less
    | inr more ↦
        let law = (le-div_iff_mul-le {k = size} {x = rows} {y = room} some).0 more in
        absurd (leaves (omega (arith, law, mul_comm size rows)))
  ]

held_up : (sum : ℤ) (m rows room : ℕ) → 0 < m → HasDigits 38 sum → (HasDigits 38 (sum +ℤ pos m *ℤ pos rows) → ⊥) → pos room ≡ pos (10 ^ 38 - 1) -ℤ sum → IsHeld sum (pos m) rows (room / m)
held_up sum m rows room some held leaves is = record {
  within = fewer m room some rows (λ short. leaves (subst (λ (w : ℤ). HasDigits 38 (sum +ℤ w)) (sym (pos-*ℤ-pos m rows)) (up_fits sum room (m * rows) held is short)));
  holds = subst (λ (w : ℤ). HasDigits 38 (sum +ℤ w)) (sym (pos-*ℤ-pos m (room / m))) (up_fits sum room (m * (room / m)) held is (way_within m room some));
  leaves = λ h.
      let more = up_leaves sum room (m * (room / m + 1)) held is (way_past m room some) in
      let less = subst (λ (w : ℤ). HasDigits 38 (sum +ℤ w)) (pos-*ℤ-pos m (room / m + 1)) h in
      omega (arith, more, less);
}

held_down : (sum : ℤ) (m rows room : ℕ) → HasDigits 38 sum → (HasDigits 38 (sum +ℤ negsuc m *ℤ pos rows) → ⊥) → pos room ≡ sum +ℤ pos (10 ^ 38 - 1) → IsHeld sum (negsuc m) rows (room / suc m)
held_down sum m rows room held leaves is =
    let some : 0 < suc m = omega arith in
    record {
      within = fewer (suc m) room some rows (λ short. leaves (subst (λ (w : ℤ). HasDigits 38 (sum +ℤ w)) (sym (times_down m rows)) (down_fits sum room (suc m * rows) held is short)));
      holds = subst (λ (w : ℤ). HasDigits 38 (sum +ℤ w)) (sym (times_down m (room / suc m))) (down_fits sum room (suc m * (room / suc m)) held is (way_within (suc m) room some));
      leaves = λ h.
          let more = down_leaves sum room (suc m * (room / suc m + 1)) held is (way_past (suc m) room some) in
          let less = subst (λ (w : ℤ). HasDigits 38 (sum +ℤ w)) (times_down m (room / suc m + 1)) h in
          omega (arith, more, less);
    }

-- the room on the side of a number by its size: as many rows are held, where not all are
pub held_is : (sum number : ℤ) (rows room size : ℕ) → HasDigits 38 sum → (HasDigits 38 (sum +ℤ number *ℤ pos rows) → ⊥) → (number <ℤ pos 0 → pos room ≡ sum +ℤ pos (10 ^ 38 - 1))
    → (pos 0 ≤ℤ number → pos room ≡ pos (10 ^ 38 - 1) -ℤ sum) → size ≡ unsigned_abs number → IsHeld sum number rows (room / size)
held_is sum (pos zero) rows room size held leaves down up is =
    let nothing : 0 * rows ≡ 0 = omega arith in
    let none : pos 0 *ℤ pos rows ≡ pos 0 = pos-*ℤ-pos 0 rows ∙ ap (λ (k : ℕ). pos k) nothing in
    absurd (leaves (subst (λ (w : ℤ). HasDigits 38 (sum +ℤ w)) (sym none) (omega (arith, ints, held))))
held_is sum (pos (suc m)) rows room size held leaves down up is =
    subst (λ (k : ℕ). IsHeld sum (pos (suc m)) rows (room / k)) (sym is) (held_up sum (suc m) rows room (omega arith) held leaves (up (omega (arith, ints))))
held_is sum (negsuc m) rows room size held leaves down up is =
    subst (λ (k : ℕ). IsHeld sum (negsuc m) rows (room / k)) (sym is) (held_down sum m rows room held leaves (down (omega (arith, ints))))

-- on the way to a sum of 38 digits each sum has them
pub held_between : (sum n : ℤ) (rows k : ℕ) → k ≤ rows → HasDigits 38 sum → HasDigits 38 (sum +ℤ n *ℤ pos rows) → HasDigits 38 (sum +ℤ n *ℤ pos k)
held_between sum (pos m) rows k within held reached =
    omega (arith, ints, pos-*ℤ-pos m k, pos-*ℤ-pos m rows, mul-le-mul_left {m = k} {n = rows} m within)
held_between sum (negsuc m) rows k within held reached =
    omega (arith, ints, negsuc-*ℤ-pos m k, negsuc-*ℤ-pos m rows, mul-le-mul_left {m = k} {n = rows} (suc m) within)
