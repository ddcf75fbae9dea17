-- Sums of joined rows.
use Rattle.std.proofs.Common.{◌≡◌, ◌≢◌, ◌∙◌, ◌+◌, ◌-◌, ◌<◌, ◌≤◌, ◌++◌, ◌&&◌, ◌+ℤ◌, ◌≤ℤ◌, ℕ, ℤ, pos, Bool, true, false, List, [], ◌∷◌, Option, Some, None, if◌then◌else◌, map, refl, sym, ap, arith, inl, inr}
use Rattle.std.specs.Prelude.{All, IsTrue, int_le, is_none, option_and_then}
use Rattle.std.specs.List.{list_all}
use Rattle.std.proofs.lemmas.Int.{ints}
use Rattle.std.proofs.lemmas.List.Elements.{All-head, All-tail}
use Rattle.std.proofs.lemmas.List.Folds.{list_all-append}
use Rattle.column_sums.proofs.Within.{is_within-zero}
use Rattle.column_sums.specs.RowSum.{are_null, last_after, partial_sums, sum_from, sum_of_rows}
use Rattle.column_sums.specs.SumRange.{SumRange, is_within, least, greatest}
use Rattle.runend_builder.specs.Sums.{IsNatural, SumFromAnySum, SumOfJoined, SumOfJoinedNaturals, added, sums_alone, total}

-- the sums on the way of joined rows go on from the last one of the first part
pub joined_sums : (sum : ℤ) (rows rows' : List (Option ℤ))
    → partial_sums sum (rows ++ rows') ≡ partial_sums sum rows ++ partial_sums (last_after sum (partial_sums sum rows)) rows'
joined_sums sum [] rows' = refl
joined_sums sum (None ∷ rows) rows' = joined_sums sum rows rows'
joined_sums sum (Some n ∷ rows) rows' = ap (λ ns. (sum +ℤ n) ∷ ns) (joined_sums (sum +ℤ n) rows rows')

pub last_of_joined : (sum : ℤ) (ns ms : List ℤ) → last_after sum (ns ++ ms) ≡ last_after (last_after sum ns) ms
last_of_joined sum [] ms = refl
last_of_joined sum (n ∷ ns) ms = last_of_joined n ns ms

-- two lists that are both within a range, or one that is not
both_within : (first second : Bool) (a b : ℤ) (next : Option ℤ) → next ≡ (if second then Some b else None)
    → (if first && second then Some b else None) ≡ option_and_then (λ (sum : ℤ). next) (if first then Some a else None)
both_within true true a b next same = sym same
both_within true false a b next same = sym same
both_within false second a b next same = refl

-- a choice of what comes next, where the first part's sum is known
then_next : (f : ℤ → Option ℤ) (first : Bool) (a : ℤ) → option_and_then f (if first then Some a else None) ≡ option_and_then (λ (sum : ℤ). f a) (if first then Some a else None)
then_next f true a = refl
then_next f false a = refl

pub sum_from_joined : (range : SumRange) (start : ℤ) (rows rows' : List (Option ℤ))
    → sum_from range start (rows ++ rows') ≡ option_and_then (λ sum. sum_from range sum rows') (sum_from range start rows)
sum_from_joined range start rows rows' =
    let ns = partial_sums start rows in
    let reached = last_after start ns in
    let ms = partial_sums reached rows' in
    ap (λ ks. if list_all (is_within range) ks then Some (last_after start ks) else None) (joined_sums start rows rows')
    ∙ ap (λ (b : Bool). if b then Some (last_after start (ns ++ ms)) else None) (list_all-append (is_within range) ns ms)
    ∙ ap (λ (m : ℤ). if list_all (is_within range) ns && list_all (is_within range) ms then Some m else None) (last_of_joined start ns ms)
    ∙ both_within (list_all (is_within range) ns) (list_all (is_within range) ms) reached (last_after reached ms) (sum_from range reached rows') refl
    ∙ sym (then_next (λ (sum : ℤ). sum_from range sum rows') (list_all (is_within range) ns) reached)

pub sum_of_joined : SumOfJoined
sum_of_joined range rows rows' = (sum_from_joined range (pos 0) rows rows', list_all-append is_none rows rows')

-- sums from another start are the same sums, moved
pub moved_sums : (sum start : ℤ) (rows : List (Option ℤ)) → partial_sums (sum +ℤ start) rows ≡ map (λ n. sum +ℤ n) (partial_sums start rows)
moved_sums sum start [] = refl
moved_sums sum start (None ∷ rows) = moved_sums sum start rows
moved_sums sum start (Some n ∷ rows) =
    let assoc : (sum +ℤ start) +ℤ n ≡ sum +ℤ (start +ℤ n) = omega (arith, ints) in
    ap (λ (m : ℤ). m ∷ partial_sums m rows) assoc ∙ ap (λ ns. (sum +ℤ (start +ℤ n)) ∷ ns) (moved_sums sum (start +ℤ n) rows)

moved_last : (sum start : ℤ) (ns : List ℤ) → last_after (sum +ℤ start) (map (λ n. sum +ℤ n) ns) ≡ sum +ℤ last_after start ns
moved_last sum start [] = refl
moved_last sum start (n ∷ ns) = moved_last sum n ns

all_moved : (test : ℤ → Bool) (sum : ℤ) (ns : List ℤ) → list_all test (map (λ n. sum +ℤ n) ns) ≡ list_all (λ n. test (sum +ℤ n)) ns
all_moved test sum [] = refl
all_moved test sum (n ∷ ns) = ap (λ b. test (sum +ℤ n) && b) (all_moved test sum ns)

pub moved_total : (sum : ℤ) (rows : List (Option ℤ)) → last_after sum (partial_sums sum rows) ≡ sum +ℤ total rows
moved_total sum rows =
    let zero : sum ≡ sum +ℤ pos 0 = omega (arith, ints) in
    ap (last_after sum) (ap (λ (m : ℤ). partial_sums m rows) zero ∙ moved_sums sum (pos 0) rows)
    ∙ ap (λ (m : ℤ). last_after m (map (λ n. sum +ℤ n) (sums_alone rows))) zero
    ∙ moved_last sum (pos 0) (sums_alone rows)

pub sum_from_any_sum : SumFromAnySum
sum_from_any_sum range sum rows =
    let zero : sum ≡ sum +ℤ pos 0 = omega (arith, ints) in
    let moved = ap (λ (m : ℤ). partial_sums m rows) zero ∙ moved_sums sum (pos 0) rows in
    let last = ap (λ (m : ℤ). last_after m (map (λ n. sum +ℤ n) (sums_alone rows))) zero ∙ moved_last sum (pos 0) (sums_alone rows) in
    ap (λ ks. if list_all (is_within range) ks then Some (last_after sum ks) else None) moved
    ∙ ap (λ (b : Bool). if b then Some (last_after sum (map (λ n. sum +ℤ n) (sums_alone rows))) else None) (all_moved (is_within range) sum (sums_alone rows))
    ∙ ap (λ (m : ℤ). if list_all (λ n. is_within range (sum +ℤ n)) (sums_alone rows) then Some m else None) last

-- the total of rows that are not negative is not negative, so a sum that they are added to only grows
total_grows : (sum : ℤ) (rows : List (Option ℤ)) → All IsNatural rows → sum ≤ℤ last_after sum (partial_sums sum rows)
total_grows sum [] natural = omega (arith, ints)
total_grows sum (None ∷ rows) natural = total_grows sum rows (All-tail IsNatural None rows natural)
total_grows sum (Some n ∷ rows) natural =
    let here = All-head IsNatural (Some n) rows natural in
    let rest = total_grows (sum +ℤ n) rows (All-tail IsNatural (Some n) rows natural) in
    let more : pos 0 ≤ℤ n = grind (arith, ints) in
    omega (arith, ints)

-- a number between two in the range is in the range
pub between : (range : SumRange) (low mid high : ℤ) → low ≤ℤ mid → mid ≤ℤ high → is_within range low ≡ true → is_within range high ≡ true → is_within range mid ≡ true
between range low mid high f g l h = grind (arith, ints)

-- past the range is past it
stays_past : (range : SumRange) (low mid high : ℤ) → low ≤ℤ mid → mid ≤ℤ high → is_within range low ≡ true → is_within range mid ≡ false → is_within range high ≡ false
stays_past range low mid high f g l h = grind (arith, ints)

-- rows that are not negative keep a sum in the range exactly where the last sum is
natural_sum : (range : SumRange) (sum : ℤ) (rows : List (Option ℤ)) → All IsNatural rows → is_within range sum ≡ true
    → sum_from range sum rows ≡ (if is_within range (last_after sum (partial_sums sum rows)) then Some (last_after sum (partial_sums sum rows)) else None)
natural_sum range sum [] natural inside = ap (λ (b : Bool). if b then Some sum else None) (sym inside)
natural_sum range sum (None ∷ rows) natural inside = natural_sum range sum rows (All-tail IsNatural None rows natural) inside
natural_sum range sum (Some n ∷ rows) natural inside =
    let here = All-head IsNatural (Some n) rows natural in
    let tail = All-tail IsNatural (Some n) rows natural in
    let more : sum ≤ℤ (sum +ℤ n) = grind (arith, ints) in
    let grows = total_grows (sum +ℤ n) rows tail in
    let last = last_after (sum +ℤ n) (partial_sums (sum +ℤ n) rows) in
    elim (is_within range (sum +ℤ n)) as (λ b. is_within range (sum +ℤ n) ≡ b
    → (if b && list_all (is_within range) (partial_sums (sum +ℤ n) rows) then Some last else None) ≡ (if is_within range last then Some last else None)) [
      | true ↦ λ first. natural_sum range (sum +ℤ n) rows tail first
      | false ↦ λ first. ap (λ (b : Bool). if b then Some last else None) (sym (stays_past range sum (sum +ℤ n) last more grows inside first))
    ] refl

-- where one of two sums is past the range, so are both together
pub sum_of_joined_naturals : SumOfJoinedNaturals
sum_of_joined_naturals range rows rows' natural natural' =
    let zero = is_within-zero range in
    let a = total rows in
    let b = total rows' in
    let first = natural_sum range (pos 0) rows natural zero in
    let second = natural_sum range (pos 0) rows' natural' zero in
    let a_grows : pos 0 ≤ℤ a = total_grows (pos 0) rows natural in
    let b_grows : pos 0 ≤ℤ b = total_grows (pos 0) rows' natural' in
    let moved : last_after a (partial_sums a rows') ≡ a +ℤ b = moved_total a rows' in
    elim (is_within range a) as (λ w. is_within range a ≡ w → sum_of_rows range (rows ++ rows') ≡ added range (sum_of_rows range rows) (sum_of_rows range rows')) [
      | true ↦ λ inside.
          let one : sum_of_rows range rows ≡ Some a = first ∙ ap (λ (w : Bool). if w then Some a else None) inside in
          let both : sum_from range a rows' ≡ (if is_within range (a +ℤ b) then Some (a +ℤ b) else None) =
          natural_sum range a rows' natural' inside ∙ ap (λ (m : ℤ). if is_within range m then Some m else None) moved in
          let joined : sum_of_rows range (rows ++ rows') ≡ (if is_within range (a +ℤ b) then Some (a +ℤ b) else None) =
          sum_from_joined range (pos 0) rows rows' ∙ ap (option_and_then (λ sum. sum_from range sum rows')) one ∙ both in
          elim (is_within range b) as (λ v. is_within range b ≡ v → sum_of_rows range (rows ++ rows') ≡ added range (sum_of_rows range rows) (sum_of_rows range rows')) [
            | true ↦ λ inside'.
                let two : sum_of_rows range rows' ≡ Some b = second ∙ ap (λ (w : Bool). if w then Some b else None) inside' in
                rw (one, two) joined
            | false ↦ λ past'.
                let two : sum_of_rows range rows' ≡ None = second ∙ ap (λ (w : Bool). if w then Some b else None) past' in
                let past : is_within range (a +ℤ b) ≡ false = stays_past range (pos 0) b (a +ℤ b) b_grows (omega (arith, ints)) zero past' in
                rw (one, two) (joined ∙ ap (λ (w : Bool). if w then Some (a +ℤ b) else None) past)
          ] refl
      | false ↦ λ past.
          let one : sum_of_rows range rows ≡ None = first ∙ ap (λ (w : Bool). if w then Some a else None) past in
          rw one (sum_from_joined range (pos 0) rows rows' ∙ ap (option_and_then (λ sum. sum_from range sum rows')) one)
    ] refl
