-- Totals of rows that grow by a run.
use Rattle.std.proofs.Common.{◌≡◌, ℕ, zero, suc, ◌+◌, ◌-◌, ◌*◌, ◌^◌, ◌<◌, ◌≤◌, w64, FitsSigned, to_z, of_z, ℤ, pos, negsuc, ◌+ℤ◌, ◌*ℤ◌, ◌&&◌, Bool, true, false, List, [], ◌∷◌, ◌++◌, Option, Some, None, length, replicate, refl, sym, ◌∙◌, ap, arith, zero-add}
use Rattle.std.specs.Int.{w128}
use Rattle.std.specs.Prelude.{not, unsigned_abs}
use Rattle.std.proofs.Math.IntN.{*ℤ-zero}
use Rattle.std.proofs.Math.Nat.{mul-le-mul_right}
use Rattle.std.proofs.lemmas.Int.{fits_signed_from_abs, ints, to_z-of_z}
use Rattle.std.specs.Int.Signed.{nat_abs-le}
use Rattle.std.proofs.lemmas.List.{length-replicate}
use Rattle.std.proofs.lemmas.List.Folds.{list_all-append}
use Rattle.column_sums.specs.RowSum.{are_null}
use Rattle.column_sums.proofs.Within.{times-suc}
use Rattle.runend_pairs.specs.Sums.{total_of, IsSignedTotal, IsUnsignedTotal}

total_of-append : (xs ys : List (Option ℤ)) → total_of (xs ++ ys) ≡ total_of xs +ℤ total_of ys
total_of-append [] ys = omega (arith, ints)
total_of-append (None ∷ xs) ys = total_of-append xs ys
total_of-append (Some n ∷ xs) ys = rw (total_of-append xs ys) (omega (arith, ints))

total_of-copies : (n : ℤ) (count : ℕ) → total_of (replicate count (Some n)) ≡ n *ℤ pos count
total_of-copies n zero = sym (*ℤ-zero n)
total_of-copies n (suc count) = rw (times-suc n count, total_of-copies n count) refl

total_of-nulls : (count : ℕ) → total_of (replicate count None) ≡ pos 0
total_of-nulls zero = refl
total_of-nulls (suc count) = total_of-nulls count

are_null-nulls : (count : ℕ) → are_null (replicate count None) ≡ true
are_null-nulls zero = refl
are_null-nulls (suc count) = are_null-nulls count

are_null-copies : (n : ℤ) (count : ℕ) → 0 < count → are_null (replicate count (Some n)) ≡ false
are_null-copies n zero h = absurd (omega arith)
are_null-copies n (suc count) h = refl

and_true : (b : Bool) → (b && true) ≡ b
and_true true = refl
and_true false = refl

and_false : (b : Bool) → (b && false) ≡ false
and_false true = refl
and_false false = refl

are_null-append : (xs ys : List (Option ℤ)) → are_null (xs ++ ys) ≡ (are_null xs && are_null ys)
are_null-append xs ys = list_all-append _ xs ys

-- rows of null change nothing
total_with_nulls : (rows : List (Option ℤ)) (count : ℕ) → total_of (rows ++ replicate count None) ≡ total_of rows
total_with_nulls rows count = rw (total_of-append rows (replicate count None), total_of-nulls count) (omega (arith, ints))

null_with_nulls : (rows : List (Option ℤ)) (count : ℕ) → are_null (rows ++ replicate count None) ≡ are_null rows
null_with_nulls rows count = rw (are_null-append rows (replicate count None), are_null-nulls count) (and_true (are_null rows))

-- rows of a number add it as often
total_with_copies : (rows : List (Option ℤ)) (n : ℤ) (count : ℕ) → total_of (rows ++ replicate count (Some n)) ≡ total_of rows +ℤ n *ℤ pos count
total_with_copies rows n count = rw (total_of-append rows (replicate count (Some n)), total_of-copies n count) refl

null_with_copies : (rows : List (Option ℤ)) (n : ℤ) (count : ℕ) → 0 < count → are_null (rows ++ replicate count (Some n)) ≡ false
null_with_copies rows n count some = rw (are_null-append rows (replicate count (Some n)), are_null-copies n count some) (and_false (are_null rows))

pub longer : {X : Type 0} (xs : List X) (x : X) (count : ℕ) → length (xs ++ replicate count x) ≡ length xs + count
longer [] x count = length-replicate count x ∙ sym (zero-add count)
longer (y ∷ xs) x count = let rest = longer xs x count in omega arith

-- how large sums and products are
abs-add : (x y : ℤ) → unsigned_abs (x +ℤ y) ≤ unsigned_abs x + unsigned_abs y
abs-add (pos m) (pos n) = omega (arith, ints)
abs-add (pos m) (negsuc n) = grind (arith, ints)
abs-add (negsuc m) (pos n) = grind (arith, ints)
abs-add (negsuc m) (negsuc n) = omega (arith, ints)

abs-times : (a : ℤ) (b m : ℕ) → unsigned_abs a ≤ b → unsigned_abs (a *ℤ pos m) ≤ b * m
abs-times a b zero h = rw *ℤ-zero (omega arith)
abs-times a b (suc m) h =
    let before = abs-times a b m h in
    let more = abs-add a (a *ℤ pos m) in
    rw (times-suc a m) (omega arith)

pub abs-more : (total n : ℤ) (p q : ℕ) → unsigned_abs total ≤ 2 ^ 63 * p → unsigned_abs n ≤ 2 ^ 63 → unsigned_abs (total +ℤ n *ℤ pos q) ≤ 2 ^ 63 * (p + q)
abs-more total n p q before each =
    let more = abs-times n (2 ^ 63) q each in
    let most = abs-add total (n *ℤ pos q) in
    omega arith

-- a signed total
pub IsSignedTotal-none : IsSignedTotal [] (pos 0) false
IsSignedTotal-none = record { is = refl; found = refl; bound = omega arith }

pub IsSignedTotal-nulls : (rows : List (Option ℤ)) (total : ℤ) (some : Bool) (count : ℕ) → IsSignedTotal rows total some → IsSignedTotal (rows ++ replicate count None) total some
IsSignedTotal-nulls rows total some count before =
    let long = longer rows None count in
    let bound = before.bound in
    record {
      is = before.is ∙ sym (total_with_nulls rows count);
      found = before.found ∙ ap not (sym (null_with_nulls rows count));
      bound = rw (total_with_nulls rows count, long) (omega arith);
    }

-- it stays below the bound of 128 bits
pub signed_room : (rows : List (Option ℤ)) (total n : ℤ) (some : Bool) (count : ℕ) → unsigned_abs n ≤ 2 ^ 63 → length rows + count < 2 ^ 64 → IsSignedTotal rows total some
    → unsigned_abs (total +ℤ n *ℤ pos count) < 2 ^ 127
signed_room rows total n some count each short before =
    let most = abs-more (total_of rows) n (length rows) count before.bound each in
    rw (before.is) (omega arith)

pub IsSignedTotal-more : (rows : List (Option ℤ)) (total n next : ℤ) (some : Bool) (count : ℕ) → 0 < count → unsigned_abs n ≤ 2 ^ 63 → next ≡ total +ℤ n *ℤ pos count
    → IsSignedTotal rows total some → IsSignedTotal (rows ++ replicate count (Some n)) next true
IsSignedTotal-more rows total n next some count more each added before =
    let most = abs-more (total_of rows) n (length rows) count before.bound each in
    record {
      is = added ∙ ap (λ (t : ℤ). t +ℤ n *ℤ pos count) before.is ∙ sym (total_with_copies rows n count);
      found = ap not (sym (null_with_copies rows n count more));
      bound = rw (total_with_copies rows n count, longer rows (Some n) count) most;
    }

-- as the sum that is computed, of numbers in 128 bits
pub signed_added : (rows : List (Option ℤ)) (total n next : ℤ) (some : Bool) (count : ℕ) → 0 < count → length rows + count < 2 ^ 64 → FitsSigned w64 n
    → (FitsSigned w128 (to_z w128 (of_z w128 total) +ℤ to_z w64 (of_z w64 n) *ℤ pos count) → next ≡ to_z w128 (of_z w128 total) +ℤ to_z w64 (of_z w64 n) *ℤ pos count)
    → IsSignedTotal rows total some → IsSignedTotal (rows ++ replicate count (Some n)) (to_z w128 (of_z w128 next)) true
signed_added rows total n next some count more short fits added before =
    let each : unsigned_abs n ≤ 2 ^ 63 = nat_abs-le n fits.sfits in
    let bound = before.bound in
    let small : unsigned_abs total < 2 ^ 127 = rw (before.is) (omega arith) in
    let total_is = to_z-of_z w128 total (fits_signed_from_abs w128 total small) in
    let n_is = to_z-of_z w64 n fits in
    let room : FitsSigned w128 (total +ℤ n *ℤ pos count) = fits_signed_from_abs w128 (total +ℤ n *ℤ pos count) (signed_room rows total n some count each short before) in
    let is : next ≡ total +ℤ n *ℤ pos count = (rw (total_is, n_is) at added) room in
    let next_is : to_z w128 (of_z w128 next) ≡ total +ℤ n *ℤ pos count = rw is (to_z-of_z w128 (total +ℤ n *ℤ pos count) room) in
    IsSignedTotal-more rows total n (to_z w128 (of_z w128 next)) some count more each next_is before

-- an unsigned total
pub IsUnsignedTotal-none : IsUnsignedTotal [] 0 false
IsUnsignedTotal-none = record { is = refl; found = refl; bound = omega arith }

pub IsUnsignedTotal-nulls : (rows : List (Option ℤ)) (total : ℕ) (some : Bool) (count : ℕ) → IsUnsignedTotal rows total some → IsUnsignedTotal (rows ++ replicate count None) total some
IsUnsignedTotal-nulls rows total some count before =
    let long = longer rows None count in
    let bound = before.bound in
    record {
      is = before.is ∙ sym (total_with_nulls rows count);
      found = before.found ∙ ap not (sym (null_with_nulls rows count));
      bound = rw long (omega arith);
    }

pub unsigned_room : (rows : List (Option ℤ)) (total n : ℕ) (some : Bool) (count : ℕ) → n < 2 ^ 64 → length rows + count < 2 ^ 64 → IsUnsignedTotal rows total some
    → total + n * count < 2 ^ 128
unsigned_room rows total n some count each short before =
    let bound = before.bound in
    let le : n ≤ 2 ^ 64 - 1 = omega arith in
    let more : n * count ≤ (2 ^ 64 - 1) * count = mul-le-mul_right count le in
    omega arith

pub IsUnsignedTotal-more : (rows : List (Option ℤ)) (total n next : ℕ) (some : Bool) (count : ℕ) → 0 < count → n < 2 ^ 64 → next ≡ total + n * count
    → IsUnsignedTotal rows total some → IsUnsignedTotal (rows ++ replicate count (Some (pos n))) next true
IsUnsignedTotal-more rows total n next some count more each added before =
    let bound = before.bound in
    let le : n ≤ 2 ^ 64 - 1 = omega arith in
    let most : n * count ≤ (2 ^ 64 - 1) * count = mul-le-mul_right count le in
    record {
      is = ap pos added ∙ sym (total_with_copies rows (pos n) count ∙ ap (λ (t : ℤ). t +ℤ pos n *ℤ pos count) (sym before.is));
      found = ap not (sym (null_with_copies rows (pos n) count more));
      bound = rw (longer rows (Some (pos n)) count) (omega arith);
    }
