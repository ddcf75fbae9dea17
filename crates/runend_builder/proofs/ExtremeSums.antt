-- Sums of joined rows, by three numbers of each part.
use Rattle.std.proofs.Common.{◌≡◌, ◌∙◌, ◌+◌, ◌-◌, ◌<◌, ◌≤◌, ◌++◌, ◌&&◌, ◌+ℤ◌, ◌≤ℤ◌, ℕ, ℤ, pos, Bool, true, false, List, [], ◌∷◌, Option, Some, None, if◌then◌else◌, length, map, get_or, refl, sym, ap, arith, subst, inl, inr}
use Rattle.std.specs.Prelude.{All, Contains, cond, int_lt}
use Rattle.std.specs.Int.{int_max, int_min}
use Rattle.std.specs.List.{list_all}
use Rattle.std.proofs.lemmas.Bool.{and_from, and_parts}
use Rattle.std.proofs.lemmas.Int.{ints}
use Rattle.std.proofs.lemmas.List.{append-nil, get_or-map, length-map}
use Rattle.std.proofs.lemmas.List.Elements.{All-append, All-contains, All-map, All-weaker, Contains-append_left, Contains-append_right}
use Rattle.std.proofs.lemmas.List.Sums.{AllPass-from_list_all, list_all-from_AllPass}
use Rattle.column_sums.specs.RowSum.{last_after, partial_sums, sum_from}
use Rattle.column_sums.specs.SumRange.{SumRange, is_within}
use Rattle.runend_builder.specs.Sums.{AreExtremes, NumbersOfJoined, SumFromExtremes, SumFromThreeNumbers, ThreeNumbersOfJoined, sums_alone, total}
use Rattle.runend_builder.proofs.JoinedSums.{between, joined_sums, last_of_joined, moved_sums, moved_total, sum_from_any_sum}

-- two answers that are yes together are the same
agree : (a b : Bool) → (a ≡ true → b ≡ true) → (b ≡ true → a ≡ true) → a ≡ b
agree true b to from = sym (to refl)
agree false true to from = from refl
agree false false to from = refl

-- a test that each number passes is passed by one of them
passed : (test : ℤ → Bool) (ns : List ℤ) (n : ℤ) → list_all test ns ≡ true → Contains ns n → test n ≡ true
passed test ns n all among = All-contains (λ (m : ℤ). test m ≡ true) ns n (AllPass-from_list_all test ns all) among

-- numbers that are moved by a sum are in the range exactly where the least and the greatest of them are
within_extremes : (range : SumRange) (sum : ℤ) (ns : List ℤ) (low high : ℤ) → AreExtremes ns low high
    → list_all (λ n. is_within range (sum +ℤ n)) ns ≡ (is_within range (sum +ℤ low) && is_within range (sum +ℤ high))
within_extremes range sum ns low high extremes =
    let test = λ (n : ℤ). is_within range (sum +ℤ n) in
    agree (list_all test ns) (test low && test high)
    (λ all. and_from (test low) (test high) (passed test ns low all extremes.low_among) (passed test ns high all extremes.high_among))
    (λ ends.
    let parts = and_parts (test low) (test high) ends in
    list_all-from_AllPass test ns (λ k d h.
    let here = extremes.between k d h in
    let from = here.0 in
    let to = here.1 in
    between range (sum +ℤ low) (sum +ℤ get_or ns k d) (sum +ℤ high) (omega (arith, ints)) (omega (arith, ints)) parts.0 parts.1))

pub sum_from_three_numbers : SumFromThreeNumbers
sum_from_three_numbers range sum rows = record {
  some = λ low high extremes.
      sum_from_any_sum range sum rows ∙ ap (λ (b : Bool). if b then Some (sum +ℤ total rows) else None) (within_extremes range sum (sums_alone rows) low high extremes);
  none = λ empty.
      let still : sum +ℤ total rows ≡ sum = ap (λ ns. sum +ℤ last_after (pos 0) ns) empty ∙ omega (arith, ints) in
      sum_from_any_sum range sum rows
      ∙ ap (λ ns. if list_all (λ n. is_within range (sum +ℤ n)) ns then Some (sum +ℤ total rows) else None) empty
      ∙ ap (λ (n : ℤ). Some n) still;
}

-- one of two numbers
chosen : (P : ℤ → Type 0) (b : Bool) (n m : ℤ) → P n → P m → P (cond b n m)
chosen P true n m f g = f
chosen P false n m f g = g

less : (n m : ℤ) → int_lt n m ≡ true → n ≤ℤ m
less n m h = grind (arith, ints)

not_less : (n m : ℤ) → int_lt n m ≡ false → m ≤ℤ n
not_less n m h = grind (arith, ints)

least_of_two : (n m : ℤ) → (int_min n m ≤ℤ n) × (int_min n m ≤ℤ m)
least_of_two n m = elim (int_lt m n) as (λ b. int_lt m n ≡ b → (cond b m n ≤ℤ n) × (cond b m n ≤ℤ m)) [
  | true ↦ λ e. let below = less m n e in (below, omega (arith, ints))
  | false ↦ λ e. let below = not_less m n e in (omega (arith, ints), below)
] refl

greatest_of_two : (n m : ℤ) → (n ≤ℤ int_max n m) × (m ≤ℤ int_max n m)
greatest_of_two n m = elim (int_lt m n) as (λ b. int_lt m n ≡ b → (n ≤ℤ cond b n m) × (m ≤ℤ cond b n m)) [
  | true ↦ λ e. let below = less m n e in (omega (arith, ints), below)
  | false ↦ λ e. let below = not_less m n e in (below, omega (arith, ints))
] refl

-- the least and the greatest of two lists
extremes_of_both : (ns ms : List ℤ) (low high low' high' : ℤ) → AreExtremes ns low high → AreExtremes ms low' high' → AreExtremes (ns ++ ms) (int_min low low') (int_max high high')
extremes_of_both ns ms low high low' high' first second =
    let least = least_of_two low low' in
    let low_first = least.0 in
    let low_second = least.1 in
    let greatest = greatest_of_two high high' in
    let high_first = greatest.0 in
    let high_second = greatest.1 in
    let P = λ (n : ℤ). (int_min low low' ≤ℤ n) × (n ≤ℤ int_max high high') in
    record {
      low_among = chosen (Contains (ns ++ ms)) (int_lt low' low) low' low (Contains-append_right ns ms low' second.low_among) (Contains-append_left ns ms low first.low_among);
      high_among = chosen (Contains (ns ++ ms)) (int_lt high' high) high high' (Contains-append_left ns ms high first.high_among) (Contains-append_right ns ms high' second.high_among);
      between = All-append P ns ms
          (All-weaker (λ (n : ℤ). (low ≤ℤ n) × (n ≤ℤ high)) P (λ n h. let from = h.0 in let to = h.1 in (omega (arith, ints), omega (arith, ints))) ns first.between)
          (All-weaker (λ (n : ℤ). (low' ≤ℤ n) × (n ≤ℤ high')) P (λ n h. let from = h.0 in let to = h.1 in (omega (arith, ints), omega (arith, ints))) ms second.between);
    }

-- numbers that are moved are moved with their least and their greatest
moved_among : (sum : ℤ) (ns : List ℤ) (n : ℤ) → Contains ns n → Contains (map (λ m. sum +ℤ m) ns) (sum +ℤ n)
moved_among sum ns n among =
    let long = length-map ns (λ (m : ℤ). sum +ℤ m) in
    let within = among.1 in
    (among.0, omega arith, get_or-map (λ (m : ℤ). sum +ℤ m) ns among.0 n (sum +ℤ n) within ∙ ap (λ (m : ℤ). sum +ℤ m) among.2)

moved_extremes : (sum : ℤ) (ns : List ℤ) (low high : ℤ) → AreExtremes ns low high → AreExtremes (map (λ n. sum +ℤ n) ns) (sum +ℤ low) (sum +ℤ high)
moved_extremes sum ns low high extremes = record {
  low_among = moved_among sum ns low extremes.low_among;
  high_among = moved_among sum ns high extremes.high_among;
  between = All-map (λ (n : ℤ). ((sum +ℤ low) ≤ℤ n) × (n ≤ℤ (sum +ℤ high))) (λ (n : ℤ). sum +ℤ n) ns
      (All-weaker (λ (n : ℤ). (low ≤ℤ n) × (n ≤ℤ high)) (λ (n : ℤ). ((sum +ℤ low) ≤ℤ (sum +ℤ n)) × ((sum +ℤ n) ≤ℤ (sum +ℤ high)))
      (λ n h. let from = h.0 in let to = h.1 in (omega (arith, ints), omega (arith, ints))) ns extremes.between);
}

-- the sums on the way of joined rows are those of the first part, and those of the second moved by the total of the
-- first
sums_of_joined : (rows rows' : List (Option ℤ)) → sums_alone (rows ++ rows') ≡ sums_alone rows ++ map (λ n. total rows +ℤ n) (sums_alone rows')
sums_of_joined rows rows' =
    let zero : total rows ≡ total rows +ℤ pos 0 = omega (arith, ints) in
    joined_sums (pos 0) rows rows'
    ∙ ap (λ ms. sums_alone rows ++ ms) (ap (λ (m : ℤ). partial_sums m rows') zero ∙ moved_sums (total rows) (pos 0) rows')

pub three_numbers_of_joined : ThreeNumbersOfJoined
three_numbers_of_joined rows rows' = record {
  added_totals = ap (last_after (pos 0)) (joined_sums (pos 0) rows rows')
      ∙ last_of_joined (pos 0) (sums_alone rows) (partial_sums (total rows) rows')
      ∙ moved_total (total rows) rows';
  both = λ low high low' high' first second.
      subst (λ ns. AreExtremes ns (int_min low (total rows +ℤ low')) (int_max high (total rows +ℤ high'))) (sym (sums_of_joined rows rows'))
      (extremes_of_both (sums_alone rows) (map (λ n. total rows +ℤ n) (sums_alone rows')) low high (total rows +ℤ low') (total rows +ℤ high') first
      (moved_extremes (total rows) (sums_alone rows') low' high' second));
  none_before = λ empty. joined_sums (pos 0) rows rows' ∙ ap (λ ns. ns ++ partial_sums (last_after (pos 0) ns) rows') empty;
  none_behind = λ empty. sums_of_joined rows rows' ∙ ap (λ ns. sums_alone rows ++ map (λ n. total rows +ℤ n) ns) empty ∙ append-nil (sums_alone rows);
}
