-- What rows add to a sum, as they grow by a run, and of joined rows.
use Rattle.std.proofs.Common.{◌≡◌, ◌∙◌, ℕ, zero, suc, ◌+◌, ◌-◌, ◌*◌, ◌^◌, ◌<◌, ◌≤◌, w64, FitsSigned, to_z, of_z, ℤ, pos, negsuc, ◌+ℤ◌, ◌*ℤ◌, ◌≤ℤ◌, List, [], ◌∷◌, ◌++◌, Option, Some, None, append-nil, length, replicate, slice_index, refl, sym, ap, arith}
use Rattle.std.specs.Prelude.{fold, unsigned_abs}
use Rattle.std.specs.Int.{int_max, int_min, w128}
use Rattle.std.specs.Int.Signed.{nat_abs-le}
use Rattle.std.proofs.Math.IntN.{*ℤ-zero, negsuc-*ℤ-pos, pos-*ℤ-pos}
use Rattle.std.proofs.Math.Nat.{mul-le-mul_right}
use Rattle.std.proofs.lemmas.Int.{clamps, fits_signed_from_abs, ints, to_z-of_z}
use Rattle.std.proofs.lemmas.List.Sums.{fold-append}
use Rattle.column_sums.specs.RowSum.{last_after, partial_sums}
use Rattle.column_sums.proofs.Within.{times-suc}
use Rattle.runend_windows.specs.Window.{last_end}
use Rattle.runend_builder.proofs.JoinedSums.{joined_sums, last_of_joined, moved_total}
use Rattle.runend_pairs.specs.Groups.{first_row}
use Rattle.runend_pairs.specs.SumParts.{AreSignedParts, AreSumParts, AreUnsignedParts, JoinsParts}
use Rattle.runend_pairs.proofs.RowTotals.{abs-more, longer}

-- ---- Sums on the way ----

-- the last sum is between the least and the greatest
least-last : (low n : ℤ) (ns : List ℤ) → low ≤ℤ n → fold int_min low ns ≤ℤ last_after n ns
least-last low n [] le = le
least-last low n (m ∷ ns) le = least-last (int_min low m) m ns (omega (arith, ints, clamps))

last-greatest : (high n : ℤ) (ns : List ℤ) → n ≤ℤ high → last_after n ns ≤ℤ fold int_max high ns
last-greatest high n [] le = le
last-greatest high n (m ∷ ns) le = last-greatest (int_max high m) m ns (omega (arith, ints, clamps))

-- ---- Rows of one number ----

one_more : (sum n : ℤ) (count : ℕ) → (sum +ℤ n) +ℤ n *ℤ pos count ≡ sum +ℤ n *ℤ pos (suc count)
one_more sum n count = omega (arith, ints, times-suc n count)

last_of_copies : (sum n : ℤ) (count : ℕ) → last_after sum (partial_sums sum (replicate count (Some n))) ≡ sum +ℤ n *ℤ pos count
last_of_copies sum n zero = rw (*ℤ-zero n) (omega (arith, ints))
last_of_copies sum n (suc count) = last_of_copies (sum +ℤ n) n count ∙ one_more sum n count

-- on the way the sums only rise or only fall
min_on_way : (low sum n : ℤ) (count : ℕ) → low ≤ℤ sum → int_min (int_min low (sum +ℤ n)) ((sum +ℤ n) +ℤ n *ℤ pos count) ≡ int_min low ((sum +ℤ n) +ℤ n *ℤ pos count)
min_on_way low sum (pos m) count le = omega (arith, ints, clamps, pos-*ℤ-pos m count)
min_on_way low sum (negsuc m) count le = omega (arith, ints, clamps, negsuc-*ℤ-pos m count)

max_on_way : (high sum n : ℤ) (count : ℕ) → sum ≤ℤ high → int_max (int_max high (sum +ℤ n)) ((sum +ℤ n) +ℤ n *ℤ pos count) ≡ int_max high ((sum +ℤ n) +ℤ n *ℤ pos count)
max_on_way high sum (pos m) count le = omega (arith, ints, clamps, pos-*ℤ-pos m count)
max_on_way high sum (negsuc m) count le = omega (arith, ints, clamps, negsuc-*ℤ-pos m count)

least_of_copies : (low sum n : ℤ) (count : ℕ) → low ≤ℤ sum → fold int_min low (partial_sums sum (replicate count (Some n))) ≡ int_min low (sum +ℤ n *ℤ pos count)
least_of_copies low sum n zero le = rw (*ℤ-zero n) (omega (arith, ints, clamps))
least_of_copies low sum n (suc count) le =
    least_of_copies (int_min low (sum +ℤ n)) (sum +ℤ n) n count (omega (arith, ints, clamps))
    ∙ min_on_way low sum n count le ∙ ap (int_min low) (one_more sum n count)

greatest_of_copies : (high sum n : ℤ) (count : ℕ) → sum ≤ℤ high → fold int_max high (partial_sums sum (replicate count (Some n))) ≡ int_max high (sum +ℤ n *ℤ pos count)
greatest_of_copies high sum n zero le = rw (*ℤ-zero n) (omega (arith, ints, clamps))
greatest_of_copies high sum n (suc count) le =
    greatest_of_copies (int_max high (sum +ℤ n)) (sum +ℤ n) n count (omega (arith, ints, clamps))
    ∙ max_on_way high sum n count le ∙ ap (int_max high) (one_more sum n count)

sums_of_nulls : (sum : ℤ) (count : ℕ) → partial_sums sum (replicate count None) ≡ []
sums_of_nulls sum zero = refl
sums_of_nulls sum (suc count) = sums_of_nulls sum count

-- ---- Rows that grow by a run ----

none : AreSumParts [] (pos 0) (pos 0) (pos 0)
none = record { last = refl; low = refl; high = refl }

sums_with_nulls : (rows : List (Option ℤ)) (count : ℕ) → partial_sums (pos 0) (rows ++ replicate count None) ≡ partial_sums (pos 0) rows
sums_with_nulls rows count =
    let sums = partial_sums (pos 0) rows in
    joined_sums (pos 0) rows (replicate count None) ∙ ap (λ (ns : List ℤ). sums ++ ns) (sums_of_nulls (last_after (pos 0) sums) count) ∙ append-nil sums

with_nulls : (rows : List (Option ℤ)) (total least greatest : ℤ) (count : ℕ) → AreSumParts rows total least greatest → AreSumParts (rows ++ replicate count None) total least greatest
with_nulls rows total least greatest count before = record {
  last = before.last ∙ sym (ap (last_after (pos 0)) (sums_with_nulls rows count));
  low = before.low ∙ sym (ap (fold int_min (pos 0)) (sums_with_nulls rows count));
  high = before.high ∙ sym (ap (fold int_max (pos 0)) (sums_with_nulls rows count));
}

with_copies : (rows : List (Option ℤ)) (total least greatest n : ℤ) (count : ℕ) → AreSumParts rows total least greatest
    → AreSumParts (rows ++ replicate count (Some n)) (total +ℤ n *ℤ pos count) (int_min least (total +ℤ n *ℤ pos count)) (int_max greatest (total +ℤ n *ℤ pos count))
with_copies rows total least greatest n count before =
    let sums = partial_sums (pos 0) rows in
    let last = last_after (pos 0) sums in
    let copies = replicate count (Some n) in
    let joined : partial_sums (pos 0) (rows ++ copies) ≡ sums ++ partial_sums last copies = joined_sums (pos 0) rows copies in
    let moved : last +ℤ n *ℤ pos count ≡ total +ℤ n *ℤ pos count = ap (λ (t : ℤ). t +ℤ n *ℤ pos count) (sym before.last) in
    record {
      last = sym (ap (last_after (pos 0)) joined ∙ last_of_joined (pos 0) sums (partial_sums last copies) ∙ last_of_copies last n count ∙ moved);
      low = sym (ap (fold int_min (pos 0)) joined ∙ fold-append int_min (pos 0) sums (partial_sums last copies)
          ∙ least_of_copies (fold int_min (pos 0) sums) last n count (least-last (pos 0) (pos 0) sums (omega (arith, ints)))
          ∙ ap (λ (l : ℤ). int_min l (last +ℤ n *ℤ pos count)) (sym before.low) ∙ ap (int_min least) moved);
      high = sym (ap (fold int_max (pos 0)) joined ∙ fold-append int_max (pos 0) sums (partial_sums last copies)
          ∙ greatest_of_copies (fold int_max (pos 0) sums) last n count (last-greatest (pos 0) (pos 0) sums (omega (arith, ints)))
          ∙ ap (λ (l : ℤ). int_max l (last +ℤ n *ℤ pos count)) (sym before.high) ∙ ap (int_max greatest) moved);
    }

-- ---- Joined rows ----

moved_least : (d low m t : ℤ) (rows : List (Option ℤ)) → fold int_min (int_min low (d +ℤ m)) (partial_sums (d +ℤ t) rows) ≡ int_min low (d +ℤ fold int_min m (partial_sums t rows))
moved_least d low m t [] = refl
moved_least d low m t (None ∷ rows) = moved_least d low m t rows
moved_least d low m t (Some n ∷ rows) =
    let same : (d +ℤ t) +ℤ n ≡ d +ℤ (t +ℤ n) = omega (arith, ints) in
    let one : int_min (int_min low (d +ℤ m)) ((d +ℤ t) +ℤ n) ≡ int_min low (d +ℤ int_min m (t +ℤ n)) = omega (arith, ints, clamps) in
    ap (λ (l : ℤ). fold int_min l (partial_sums ((d +ℤ t) +ℤ n) rows)) one
    ∙ ap (λ (s : ℤ). fold int_min (int_min low (d +ℤ int_min m (t +ℤ n))) (partial_sums s rows)) same
    ∙ moved_least d low (int_min m (t +ℤ n)) (t +ℤ n) rows

moved_greatest : (d high m t : ℤ) (rows : List (Option ℤ)) → fold int_max (int_max high (d +ℤ m)) (partial_sums (d +ℤ t) rows) ≡ int_max high (d +ℤ fold int_max m (partial_sums t rows))
moved_greatest d high m t [] = refl
moved_greatest d high m t (None ∷ rows) = moved_greatest d high m t rows
moved_greatest d high m t (Some n ∷ rows) =
    let same : (d +ℤ t) +ℤ n ≡ d +ℤ (t +ℤ n) = omega (arith, ints) in
    let one : int_max (int_max high (d +ℤ m)) ((d +ℤ t) +ℤ n) ≡ int_max high (d +ℤ int_max m (t +ℤ n)) = omega (arith, ints, clamps) in
    ap (λ (l : ℤ). fold int_max l (partial_sums ((d +ℤ t) +ℤ n) rows)) one
    ∙ ap (λ (s : ℤ). fold int_max (int_max high (d +ℤ int_max m (t +ℤ n))) (partial_sums s rows)) same
    ∙ moved_greatest d high (int_max m (t +ℤ n)) (t +ℤ n) rows

pub joins_parts : JoinsParts
joins_parts before after total least greatest more_total more_least more_greatest first second =
    let sums = partial_sums (pos 0) before in
    let last = last_after (pos 0) sums in
    let low = fold int_min (pos 0) sums in
    let high = fold int_max (pos 0) sums in
    let joined : partial_sums (pos 0) (before ++ after) ≡ sums ++ partial_sums last after = joined_sums (pos 0) before after in
    let begin : last ≡ last +ℤ pos 0 = omega (arith, ints) in
    let below : low ≡ int_min low (last +ℤ pos 0) = let le = least-last (pos 0) (pos 0) sums (omega (arith, ints)) in omega (arith, ints, clamps, le) in
    let above : high ≡ int_max high (last +ℤ pos 0) = let le = last-greatest (pos 0) (pos 0) sums (omega (arith, ints)) in omega (arith, ints, clamps, le) in
    record {
      last = sym (ap (last_after (pos 0)) joined ∙ last_of_joined (pos 0) sums (partial_sums last after) ∙ moved_total last after ∙ ap (λ (s : ℤ). s +ℤ last_after (pos 0) (partial_sums (pos 0) after)) (sym first.last) ∙ ap (λ (s : ℤ). total +ℤ s) (sym second.last));
      low = sym (ap (fold int_min (pos 0)) joined ∙ fold-append int_min (pos 0) sums (partial_sums last after) ∙ ap (λ (l : ℤ). fold int_min l (partial_sums last after)) below
          ∙ ap (λ (s : ℤ). fold int_min (int_min low (last +ℤ pos 0)) (partial_sums s after)) begin ∙ moved_least last low (pos 0) (pos 0) after
          ∙ ap (λ (l : ℤ). int_min l (last +ℤ fold int_min (pos 0) (partial_sums (pos 0) after))) (sym first.low)
          ∙ ap (λ (s : ℤ). int_min least (s +ℤ fold int_min (pos 0) (partial_sums (pos 0) after))) (sym first.last) ∙ ap (λ (s : ℤ). int_min least (total +ℤ s)) (sym second.low));
      high = sym (ap (fold int_max (pos 0)) joined ∙ fold-append int_max (pos 0) sums (partial_sums last after) ∙ ap (λ (l : ℤ). fold int_max l (partial_sums last after)) above
          ∙ ap (λ (s : ℤ). fold int_max (int_max high (last +ℤ pos 0)) (partial_sums s after)) begin ∙ moved_greatest last high (pos 0) (pos 0) after
          ∙ ap (λ (l : ℤ). int_max l (last +ℤ fold int_max (pos 0) (partial_sums (pos 0) after))) (sym first.high)
          ∙ ap (λ (s : ℤ). int_max greatest (s +ℤ fold int_max (pos 0) (partial_sums (pos 0) after))) (sym first.last) ∙ ap (λ (s : ℤ). int_max greatest (total +ℤ s)) (sym second.high));
    }

-- ---- How large sums and products are ----

abs-min : (a b : ℤ) (most : ℕ) → unsigned_abs a ≤ most → unsigned_abs b ≤ most → unsigned_abs (int_min a b) ≤ most
abs-min a b most f g = grind (arith, ints)

abs-max : (a b : ℤ) (most : ℕ) → unsigned_abs a ≤ most → unsigned_abs b ≤ most → unsigned_abs (int_max a b) ≤ most
abs-max a b most f g = grind (arith, ints)

-- ---- Signed numbers ----

pub signed_none : AreSignedParts [] (pos 0) (pos 0) (pos 0)
signed_none = record { parts = none; total_bound = omega arith; least_bound = omega arith; greatest_bound = omega arith }

pub signed_nulls : (rows : List (Option ℤ)) (total least greatest : ℤ) (count : ℕ) → AreSignedParts rows total least greatest → AreSignedParts (rows ++ replicate count None) total least greatest
signed_nulls rows total least greatest count before =
    let long = longer rows None count in
    let first = before.total_bound in
    let second = before.least_bound in
    let third = before.greatest_bound in
    record {
      parts = with_nulls rows total least greatest count before.parts;
      total_bound = rw long (omega arith);
      least_bound = rw long (omega arith);
      greatest_bound = rw long (omega arith);
    }

signed_next : (rows : List (Option ℤ)) (total least greatest n : ℤ) (count : ℕ) → unsigned_abs n ≤ 2 ^ 63 → AreSignedParts rows total least greatest
    → AreSignedParts (rows ++ replicate count (Some n)) (total +ℤ n *ℤ pos count) (int_min least (total +ℤ n *ℤ pos count)) (int_max greatest (total +ℤ n *ℤ pos count))
signed_next rows total least greatest n count each before =
    let long = longer rows (Some n) count in
    let second = before.least_bound in
    let third = before.greatest_bound in
    let most = abs-more total n (length rows) count before.total_bound each in
    record {
      parts = with_copies rows total least greatest n count before.parts;
      total_bound = rw long most;
      least_bound = rw long (abs-min least (total +ℤ n *ℤ pos count) (2 ^ 63 * (length rows + count)) (omega arith) most);
      greatest_bound = rw long (abs-max greatest (total +ℤ n *ℤ pos count) (2 ^ 63 * (length rows + count)) (omega arith) most);
    }

abbrev In128 : ℤ → ℤ
In128 n = to_z w128 (of_z w128 n)

same_in : (n : ℤ) (count : ℕ) → unsigned_abs n ≤ 2 ^ 63 * count → count < 2 ^ 64 → In128 n ≡ n
same_in n count bound short = let small : unsigned_abs n < 2 ^ 127 = omega arith in to_z-of_z w128 n (fits_signed_from_abs w128 n small)

-- as it is computed, of numbers in 128 bits
pub signed_added : (rows : List (Option ℤ)) (total least greatest n next low high : ℤ) (count : ℕ) → length rows + count < 2 ^ 64 → FitsSigned w64 n
    → (FitsSigned w128 (In128 total +ℤ to_z w64 (of_z w64 n) *ℤ pos count) → next ≡ In128 total +ℤ to_z w64 (of_z w64 n) *ℤ pos count)
    → low ≡ int_min (In128 least) (In128 next) → high ≡ int_max (In128 greatest) (In128 next)
    → AreSignedParts rows total least greatest → AreSignedParts (rows ++ replicate count (Some n)) (In128 next) (In128 low) (In128 high)
signed_added rows total least greatest n next low high count short fits added lesser greater before =
    let each : unsigned_abs n ≤ 2 ^ 63 = nat_abs-le n fits.sfits in
    let total_is = same_in total (length rows) before.total_bound (omega (arith, short)) in
    let least_is = same_in least (length rows) before.least_bound (omega (arith, short)) in
    let greatest_is = same_in greatest (length rows) before.greatest_bound (omega (arith, short)) in
    let n_is = to_z-of_z w64 n fits in
    let most = abs-more total n (length rows) count before.total_bound each in
    let small : unsigned_abs (total +ℤ n *ℤ pos count) < 2 ^ 127 = omega (arith, short, most) in
    let room : FitsSigned w128 (total +ℤ n *ℤ pos count) = fits_signed_from_abs w128 (total +ℤ n *ℤ pos count) small in
    let is : next ≡ total +ℤ n *ℤ pos count = (rw (total_is, n_is) at added) room in
    let next_is : In128 next ≡ total +ℤ n *ℤ pos count = rw is (to_z-of_z w128 (total +ℤ n *ℤ pos count) room) in
    let low_is : low ≡ int_min least (total +ℤ n *ℤ pos count) = rw (least_is, next_is) at lesser in
    let high_is : high ≡ int_max greatest (total +ℤ n *ℤ pos count) = rw (greatest_is, next_is) at greater in
    let whole = signed_next rows total least greatest n count each before in
    let long = longer rows (Some n) count in
    let low_bound : unsigned_abs (int_min least (total +ℤ n *ℤ pos count)) ≤ 2 ^ 63 * (length rows + count) = rw long at whole.least_bound in
    let high_bound : unsigned_abs (int_max greatest (total +ℤ n *ℤ pos count)) ≤ 2 ^ 63 * (length rows + count) = rw long at whole.greatest_bound in
    let low_in : In128 low ≡ int_min least (total +ℤ n *ℤ pos count) = ap (λ (x : ℤ). In128 x) low_is ∙ same_in (int_min least (total +ℤ n *ℤ pos count)) (length rows + count) low_bound short in
    let high_in : In128 high ≡ int_max greatest (total +ℤ n *ℤ pos count) = ap (λ (x : ℤ). In128 x) high_is ∙ same_in (int_max greatest (total +ℤ n *ℤ pos count)) (length rows + count) high_bound short in
    rw (next_is, low_in, high_in) whole

-- ---- Unsigned numbers ----

pub unsigned_none : AreUnsignedParts [] 0
unsigned_none = record { parts = none; bound = omega arith }

pub unsigned_nulls : (rows : List (Option ℤ)) (total count : ℕ) → AreUnsignedParts rows total → AreUnsignedParts (rows ++ replicate count None) total
unsigned_nulls rows total count before =
    let long = longer rows None count in
    let first = before.bound in
    record { parts = with_nulls rows (pos total) (pos 0) (pos total) count before.parts; bound = rw long (omega arith) }

pub unsigned_added : (rows : List (Option ℤ)) (total n next count : ℕ) → length rows + count < 2 ^ 64 → n < 2 ^ 64 → (total + n * count < 2 ^ 128 → next ≡ total + n * count)
    → AreUnsignedParts rows total → AreUnsignedParts (rows ++ replicate count (Some (pos n))) next
unsigned_added rows total n next count short each added before =
    let bound = before.bound in
    let le : n ≤ 2 ^ 64 - 1 = omega arith in
    let most : n * count ≤ (2 ^ 64 - 1) * count = mul-le-mul_right count le in
    let is : next ≡ total + n * count = added (omega (arith, short, most, bound)) in
    let sum : ℤ = pos total +ℤ pos n *ℤ pos count in
    let total_is : sum ≡ pos next = omega (arith, ints, pos-*ℤ-pos n count, is) in
    let least_is : int_min (pos 0) sum ≡ pos 0 = omega (arith, ints, clamps, pos-*ℤ-pos n count) in
    let greatest_is : int_max (pos total) sum ≡ pos next = omega (arith, ints, clamps, pos-*ℤ-pos n count, is) in
    let whole = with_copies rows (pos total) (pos 0) (pos total) (pos n) count before.parts in
    let long = longer rows (Some (pos n)) count in
    record {
      parts = record { last = sym total_is ∙ whole.last; low = sym least_is ∙ whole.low; high = sym greatest_is ∙ whole.high };
      bound = rw long (omega (arith, is, most, bound));
    }

-- ---- The end of the last run ----

pub first_row-last : (ends : List ℕ) → first_row ends (length ends) ≡ last_end ends
first_row-last [] = refl
first_row-last (end ∷ ends) = let same : length ends ≡ suc (length ends) - 1 = omega arith in ap (slice_index (end ∷ ends)) same
