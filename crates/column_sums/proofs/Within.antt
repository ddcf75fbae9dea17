-- Lemmas on the range of a sum.
use Rattle.std.proofs.Common.{◌≡◌, ℕ, suc, ◌-◌, ◌*◌, ◌<◌, ◌≤◌, ◌^◌, ℤ, pos, negsuc, neg_ℤ, ◌+ℤ◌, ◌*ℤ◌, ◌≤ℤ◌, ◌&&◌, true, false, refl, arith, w64, FitsSigned, to_z, of_z}
use Rattle.std.specs.Prelude.{int_le}
use Rattle.std.proofs.lemmas.Int.{ints, to_z-of_z}
use mir.Syntax.{w32, w128}
use Rattle.std.proofs.Math.IntN.{pos-*ℤ-pos, negsuc-*ℤ-pos}
use Rattle.std.proofs.Math.Nat.{mul-suc, mul-le-mul_right}
use Rattle.column_sums.specs.Room.{HasRoom}
use Rattle.column_sums.specs.SumRange.{SumRange, SignedRange, UnsignedRange, is_within, least, greatest}

at_least : (low high n : ℤ) → (int_le low n && int_le n high) ≡ true → low ≤ℤ n
at_least low high n h = grind (arith, ints)

at_most : (low high n : ℤ) → (int_le low n && int_le n high) ≡ true → n ≤ℤ high
at_most low high n h = grind (arith, ints)

both : (low high n : ℤ) → low ≤ℤ n → n ≤ℤ high → (int_le low n && int_le n high) ≡ true
both low high n l h = grind (arith, ints)

-- one time more is one more of the number
pub times-suc : (n : ℤ) (count : ℕ) → n *ℤ pos (suc count) ≡ n +ℤ n *ℤ pos count
times-suc (pos m) count = omega (arith, ints, pos-*ℤ-pos m count, pos-*ℤ-pos m (suc count), mul-suc m count)
times-suc (negsuc m) count = omega (arith, ints, negsuc-*ℤ-pos m count, negsuc-*ℤ-pos m (suc count), mul-suc (suc m) count)

above : (low sum n : ℤ) (count : ℕ) → low ≤ℤ sum → low ≤ℤ (sum +ℤ n *ℤ pos (suc count)) → low ≤ℤ (sum +ℤ n)
above low sum (pos m) count f g = omega (arith, ints, times-suc (pos m) count, pos-*ℤ-pos m count)
above low sum (negsuc m) count f g = omega (arith, ints, times-suc (negsuc m) count, negsuc-*ℤ-pos m count)

below : (high sum n : ℤ) (count : ℕ) → sum ≤ℤ high → (sum +ℤ n *ℤ pos (suc count)) ≤ℤ high → (sum +ℤ n) ≤ℤ high
below high sum (pos m) count f g = omega (arith, ints, times-suc (pos m) count, pos-*ℤ-pos m count)
below high sum (negsuc m) count f g = omega (arith, ints, times-suc (negsuc m) count, negsuc-*ℤ-pos m count)

-- within a run the sums go one way: where the sums at its two ends are in the range, so is the one after its first row
pub is_within-first : (range : SumRange) (sum n : ℤ) (count : ℕ) → is_within range sum ≡ true → is_within range (sum +ℤ n *ℤ pos (suc count)) ≡ true
    → is_within range (sum +ℤ n) ≡ true
is_within-first range sum n count f g =
    let low = least range in let high = greatest range in let end = sum +ℤ n *ℤ pos (suc count) in
    both low high (sum +ℤ n) (above low sum n count (at_least low high sum f) (at_least low high end g))
    (below high sum n count (at_most low high sum f) (at_most low high end g))

-- a number from the least to the greatest is in the range
pub is_within-between : (range : SumRange) (n : ℤ) → least range ≤ℤ n → n ≤ℤ greatest range → is_within range n ≡ true
is_within-between range n low high = both (least range) (greatest range) n low high

-- 0 is in each range
pub is_within-zero : (range : SumRange) → is_within range (pos 0) ≡ true
is_within-zero SignedRange = refl
is_within-zero UnsignedRange = refl

-- the range of i64, as the casts to it say it
pub is_within-signed : (n : ℤ) → FitsSigned w64 n → is_within SignedRange n ≡ true
is_within-signed n h = both (least SignedRange) (greatest SignedRange) n (omega (arith, ints)) (omega (arith, ints))

pub signed-is_within : (n : ℤ) → is_within SignedRange n ≡ true → FitsSigned w64 n
signed-is_within n h =
    let l = at_least (least SignedRange) (greatest SignedRange) n h in
    let m = at_most (least SignedRange) (greatest SignedRange) n h in omega (arith, ints)

pub not-is_within-signed : (n : ℤ) → (FitsSigned w64 n → ⊥) → is_within SignedRange n ≡ false
not-is_within-signed n h =
    elim (is_within SignedRange n) as (λ b. is_within SignedRange n ≡ b → b ≡ false) [ true ↦ λ e. absurd (h (signed-is_within n e)) | false ↦ λ e. refl ] refl

-- the range of u64
pub is_within-unsigned : (n : ℕ) → n < 2 ^ 64 → is_within UnsignedRange (pos n) ≡ true
is_within-unsigned n h = both (pos 0) (pos (2 ^ 64 - 1)) (pos n) (omega (arith, ints)) (omega (arith, ints))

pub not-is_within-unsigned : (n : ℕ) → 2 ^ 64 ≤ n → is_within UnsignedRange (pos n) ≡ false
not-is_within-unsigned n h =
    elim (is_within UnsignedRange (pos n)) as (λ b. is_within UnsignedRange (pos n) ≡ b → b ≡ false) [
      | true ↦ λ e. let m = at_most (pos 0) (pos (2 ^ 64 - 1)) (pos n) e in absurd (omega (arith, ints))
      | false ↦ λ e. refl
    ] refl

product_bounds : (n : ℤ) (count : ℕ) → FitsSigned w64 n → (neg_ℤ (pos (2 ^ 63 * count)) ≤ℤ (n *ℤ pos count)) × ((n *ℤ pos count) ≤ℤ pos (2 ^ 63 * count))
product_bounds (pos m) count f =
    let k : m ≤ 2 ^ 63 = omega (arith, ints) in
    let h : m * count ≤ 2 ^ 63 * count = mul-le-mul_right count k in
    rw (pos-*ℤ-pos m count) (omega (arith, ints), omega (arith, ints))
product_bounds (negsuc m) count f =
    let k : suc m ≤ 2 ^ 63 = omega (arith, ints) in
    let h : suc m * count ≤ 2 ^ 63 * count = mul-le-mul_right count k in
    rw (negsuc-*ℤ-pos m count) (omega (arith, ints), omega (arith, ints))

-- a sum and a product of a number and as many rows as there can be fit i128
pub widened : (sum n p q : ℤ) (count : ℕ) → FitsSigned w64 sum → FitsSigned w64 n → count < 2 ^ 64 → p ≡ sum → q ≡ n
    → to_z w128 (of_z w128 (to_z w128 (of_z w128 p) +ℤ to_z w128 (of_z w128 (to_z w128 (of_z w128 q) *ℤ to_z w128 count)))) ≡ sum +ℤ n *ℤ pos count
widened sum n p q count f g h sum_is n_is =
    let b = product_bounds n count g in let low = b.0 in let high = b.1 in
    let sum_fits : FitsSigned w128 sum = omega (arith, ints) in
    let n_fits : FitsSigned w128 n = omega (arith, ints) in
    let count_is : to_z w128 count ≡ pos count = omega (arith, ints) in
    let product_fits : FitsSigned w128 (n *ℤ pos count) = omega (arith, ints) in
    let end_fits : FitsSigned w128 (sum +ℤ n *ℤ pos count) = omega (arith, ints) in
    rw (sum_is, n_is) (simp (to_z-of_z, count_is))

-- as many rows of a value of 32 bits
short_bounds : (n : ℤ) (count : ℕ) → FitsSigned w32 n → (neg_ℤ (pos (2 ^ 31 * count)) ≤ℤ (n *ℤ pos count)) × ((n *ℤ pos count) ≤ℤ pos (2 ^ 31 * count))
short_bounds (pos m) count f =
    let k : m ≤ 2 ^ 31 = omega (arith, ints) in
    let h : m * count ≤ 2 ^ 31 * count = mul-le-mul_right count k in
    rw (pos-*ℤ-pos m count) (omega (arith, ints), omega (arith, ints))
short_bounds (negsuc m) count f =
    let k : suc m ≤ 2 ^ 31 = omega (arith, ints) in
    let h : suc m * count ≤ 2 ^ 31 * count = mul-le-mul_right count k in
    rw (negsuc-*ℤ-pos m count) (omega (arith, ints), omega (arith, ints))

-- `count` rows fit where there is room for them, and what is left is room for the rest
pub room-rows : (sum : ℤ) (room count : ℕ) → HasRoom sum room → count ≤ room → count < 2 ^ 32
room-rows sum room count r h = let low = r.down in let high = r.up in omega (arith, ints)

pub room-product : (sum n : ℤ) (room count : ℕ) → FitsSigned w32 n → HasRoom sum room → count ≤ room → FitsSigned w64 (n *ℤ pos count)
room-product sum n room count f r h =
    let b = short_bounds n count f in let p = b.0 in let q = b.1 in let low = r.down in let high = r.up in omega (arith, ints)

pub room-sum : (sum n : ℤ) (room count : ℕ) → FitsSigned w32 n → HasRoom sum room → count ≤ room → FitsSigned w64 (sum +ℤ n *ℤ pos count)
room-sum sum n room count f r h =
    let b = short_bounds n count f in let p = b.0 in let q = b.1 in let low = r.down in let high = r.up in omega (arith, ints)

pub room-left : (sum n : ℤ) (room count : ℕ) → FitsSigned w32 n → HasRoom sum room → count ≤ room → HasRoom (sum +ℤ n *ℤ pos count) (room - count)
room-left sum n room count f r h =
    let b = short_bounds n count f in let p = b.0 in let q = b.1 in let low = r.down in let high = r.up in
    record { down = omega (arith, ints); up = omega (arith, ints) }

-- product and sum as they are computed in 64 bits
pub product-computed : (n : ℤ) (count : ℕ) → FitsSigned w64 n → count < 2 ^ 32 → to_z w64 (of_z w64 n) *ℤ to_z w64 count ≡ n *ℤ pos count
product-computed n count f h =
    let count_is : to_z w64 count ≡ pos count = omega (arith, ints) in
    rw (to_z-of_z w64 n f, count_is) refl

pub sum-computed : (sum n : ℤ) (count : ℕ) → FitsSigned w64 sum → FitsSigned w64 n → count < 2 ^ 32 → FitsSigned w64 (n *ℤ pos count)
    → to_z w64 (of_z w64 sum) +ℤ to_z w64 (of_z w64 (to_z w64 (of_z w64 n) *ℤ to_z w64 count)) ≡ sum +ℤ n *ℤ pos count
sum-computed sum n count s f h p =
    rw (product-computed n count f h, to_z-of_z w64 (n *ℤ pos count) p, to_z-of_z w64 sum s) refl

-- a sum as it is computed in 64 bits
pub sum-of : (sum product : ℤ) → FitsSigned w64 sum → FitsSigned w64 product → FitsSigned w64 (sum +ℤ product)
    → to_z w64 (of_z w64 (to_z w64 (of_z w64 sum) +ℤ to_z w64 (of_z w64 product))) ≡ sum +ℤ product
sum-of sum product s p both_fit = rw (to_z-of_z w64 sum s, to_z-of_z w64 product p) (to_z-of_z w64 (sum +ℤ product) both_fit)
