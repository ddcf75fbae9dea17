-- Indices that are worked one by one: what was answered, and how many were valid, up to a place.
use Rattle.std.proofs.Common.{◌≡◌, ◌+◌, ◌*◌, ◌^◌, ◌<◌, ◌≤◌, ℕ, ℤ, pos, List, [], ◌∷◌, ◌++◌, Bool, true, false, cond, count_by, Option, Some, None, append_assoc, length, map, take, get_or, ap, refl, sym, ◌∙◌, arith}
use Rattle.std.specs.Prelude.{slice_get, slice_index, is_some, option_map, unwrap_or}
use Rattle.std.proofs.lemmas.List.{length-map, map-append, take_all, take_more}
use Rattle.std.proofs.lemmas.List.Sums.{count_by_more_yes, count_by_more_no, sum_by-cons}
use Rattle.std.proofs.lemmas.Option.{get_or_from_slice_get, slice_get_within}
use Rattle.std.proofs.Math.Nat.{mul-le-mul_left}
use Rattle.column_core.specs.Digits.{digits}
use Rattle.column_core.proofs.Digits.{digits-least}
use Rattle.column_core.proofs.OptionalRows.{length-optionals}
use Rattle.runend_select.specs.Indices.{item_of, optional_indices, valid_count}

-- there are as many as indices
pub length-optional_indices : {T : Type 0} (number : T → ℤ) (indices : List T) (bits : List Bool) → length bits ≡ length indices → length (optional_indices number indices bits) ≡ length indices
length-optional_indices number indices bits masked =
    let same = length-map indices number in
    length-optionals (map number indices) bits (masked ∙ sym same) ∙ same

-- one index more is answered
pub answered-more : (f : Option ℤ → ℕ) (indices : List (Option ℤ)) (answers : List ℕ) (place answer : ℕ) (index : Option ℤ)
    → slice_get indices place ≡ Some index → answers ≡ map f (take place indices) → answer ≡ f index → answers ++ answer ∷ [] ≡ map f (take (place + 1) indices)
answered-more f indices answers place answer index at answered is =
    let within = slice_get_within indices place index at in
    let item : get_or indices place None ≡ index = get_or_from_slice_get indices place index None at in
    let more : take (place + 1) indices ≡ take place indices ++ index ∷ [] = take_more indices place None within ∙ ap (λ o. take place indices ++ o ∷ []) item in
    let shown : map f (take (place + 1) indices) ≡ map f (take place indices) ++ f index ∷ [] = ap (map f) more ∙ map-append f (take place indices) (index ∷ []) in
    cc

-- all indices are answered
pub answered-all : (f : Option ℤ → ℕ) (indices : List (Option ℤ)) (answers : List ℕ) (place : ℕ) → length indices ≤ place → answers ≡ map f (take place indices) → answers ≡ map f indices
answered-all f indices answers place all answered = answered ∙ ap (map f) (take_all place indices all)

-- a valid index is counted
pub counted-valid : (indices : List (Option ℤ)) (place : ℕ) (n : ℤ) → slice_get indices place ≡ Some (Some n) → valid_count (take (place + 1) indices) ≡ valid_count (take place indices) + 1
counted-valid indices place n at =
    count_by_more_yes is_some indices place None (slice_get_within indices place (Some n) at) (ap is_some (get_or_from_slice_get indices place (Some n) None at))

-- a null index is not
pub counted-null : (indices : List (Option ℤ)) (place : ℕ) → slice_get indices place ≡ Some None → valid_count (take (place + 1) indices) ≡ valid_count (take place indices)
counted-null indices place at =
    count_by_more_no is_some indices place None (slice_get_within indices place None at) (ap is_some (get_or_from_slice_get indices place None None at))

-- all indices are counted
pub counted-all : (indices : List (Option ℤ)) (place : ℕ) → length indices ≤ place → valid_count (take place indices) ≡ valid_count indices
counted-all indices place all = ap valid_count (take_all place indices all)

-- the valid indices are the true bits
pub valid_count-bits : {T : Type 0} (number : T → ℤ) (indices : List T) (bits : List Bool) → length bits ≡ length indices → valid_count (optional_indices number indices bits) ≡ count_by (λ bit. bit) bits
valid_count-bits number [] [] masked = refl
valid_count-bits number [] (bit ∷ bits) masked = cc
valid_count-bits number (index ∷ indices) [] masked = cc
valid_count-bits number (index ∷ indices) (true ∷ bits) masked =
    let rest = valid_count-bits number indices bits (omega arith) in
    sum_by-cons (λ o. cond (is_some o) 1 0) (Some (number index)) (optional_indices number indices bits)
    ∙ ap (λ n. 1 + n) rest ∙ sym (sum_by-cons (λ bit. cond bit 1 0) true bits)
valid_count-bits number (index ∷ indices) (false ∷ bits) masked =
    let rest = valid_count-bits number indices bits (omega arith) in
    sum_by-cons (λ o. cond (is_some o) 1 0) None (optional_indices number indices bits)
    ∙ ap (λ n. 0 + n) rest ∙ sym (sum_by-cons (λ bit. cond bit 1 0) false bits)

-- one search more
pub one_search_more : (tests tests' spent count count' cost : ℕ) → tests ≤ spent + count * cost → tests' ≤ tests + cost → count' ≡ count + 1 → tests' ≤ spent + count' * cost
one_search_more tests tests' spent count count' cost before step more =
    let product : (count + 1) * cost ≡ count * cost + cost = omega arith in
    rw more (omega arith)

-- `valid` searches, over less than 2 ^ k runs
pub searches_within : (valid count runs k : ℕ) → valid ≡ count → runs < 2 ^ k → valid * digits runs ≤ count * k
searches_within valid count runs k is few = rw is (mul-le-mul_left count (digits-least runs k few))

-- the item of a table at a row, which is row 0 for a null index
pub item_at : (table : List ℕ) (row : Option ℕ) → slice_index table (unwrap_or row 0) ≡ item_of table (option_map (λ (n : ℕ). pos n) row)
item_at table None = refl
item_at table (Some row) = refl

-- one index more is searched, or is null and costs nothing
pub one_index_more : (indices : List (Option ℤ)) (place tests tests' spent cost : ℕ) (row : Option ℕ) → slice_get indices place ≡ Some (option_map (λ (n : ℕ). pos n) row)
    → tests ≤ spent + valid_count (take place indices) * cost → tests' ≤ tests + cost → (row ≡ None → tests' ≡ tests) → tests' ≤ spent + valid_count (take (place + 1) indices) * cost
one_index_more indices place tests tests' spent cost None at before step null = rw (counted-null indices place at, null refl) before
one_index_more indices place tests tests' spent cost (Some row) at before step null =
    one_search_more tests tests' spent (valid_count (take place indices)) (valid_count (take (place + 1) indices)) cost before step (counted-valid indices place (pos row) at)

-- four indices from a place on, each the index of a row
pub record AreFour (indices : List (Option ℤ)) (place : ℕ) (rows : ℕ × ℕ × ℕ × ℕ) : Type 0 where
  pub first : slice_get indices place ≡ Some (Some (pos rows.0))
  pub second : slice_get indices (place + 1) ≡ Some (Some (pos rows.1))
  pub third : slice_get indices (place + 2) ≡ Some (Some (pos rows.2))
  pub fourth : slice_get indices (place + 3) ≡ Some (Some (pos rows.3))

answered-next : (f : Option ℤ → ℕ) (indices : List (Option ℤ)) (answers : List ℕ) (place next answer : ℕ) (index : Option ℤ) → next ≡ place + 1
    → slice_get indices place ≡ Some index → answers ≡ map f (take place indices) → answer ≡ f index → answers ++ answer ∷ [] ≡ map f (take next indices)
answered-next f indices answers place next answer index step at answered is = rw step (answered-more f indices answers place answer index at answered is)

-- four indices more are answered
pub answered-four : (f : Option ℤ → ℕ) (indices : List (Option ℤ)) (answers : List ℕ) (place : ℕ) (rows four : ℕ × ℕ × ℕ × ℕ) → AreFour indices place rows
    → answers ≡ map f (take place indices) → four.0 ≡ f (Some (pos rows.0)) → four.1 ≡ f (Some (pos rows.1)) → four.2 ≡ f (Some (pos rows.2)) → four.3 ≡ f (Some (pos rows.3))
    → answers ++ four.0 ∷ four.1 ∷ four.2 ∷ four.3 ∷ [] ≡ map f (take (place + 4) indices)
answered-four f indices answers place rows four at before a b c d =
    let first : List ℕ = answers ++ four.0 ∷ [] in
    let second : List ℕ = first ++ four.1 ∷ [] in
    let third : List ℕ = second ++ four.2 ∷ [] in
    let one = answered-next f indices answers place (place + 1) four.0 (Some (pos rows.0)) refl at.first before a in
    let two = answered-next f indices first (place + 1) (place + 2) four.1 (Some (pos rows.1)) (omega arith) at.second one b in
    let three = answered-next f indices second (place + 2) (place + 3) four.2 (Some (pos rows.2)) (omega arith) at.third two c in
    let all = answered-next f indices third (place + 3) (place + 4) four.3 (Some (pos rows.3)) (omega arith) at.fourth three d in
    let parted : third ++ four.3 ∷ [] ≡ answers ++ four.0 ∷ four.1 ∷ four.2 ∷ four.3 ∷ [] =
    append_assoc second (four.2 ∷ []) (four.3 ∷ []) ∙ append_assoc first (four.1 ∷ []) (four.2 ∷ four.3 ∷ []) ∙ append_assoc answers (four.0 ∷ []) (four.1 ∷ four.2 ∷ four.3 ∷ []) in
    sym parted ∙ all

counted-next : (indices : List (Option ℤ)) (place next : ℕ) (n : ℤ) → next ≡ place + 1 → slice_get indices place ≡ Some (Some n) → valid_count (take next indices) ≡ valid_count (take place indices) + 1
counted-next indices place next n step at = rw step (counted-valid indices place n at)

-- and counted
pub counted-four : (indices : List (Option ℤ)) (place : ℕ) (rows : ℕ × ℕ × ℕ × ℕ) → AreFour indices place rows → valid_count (take (place + 4) indices) ≡ valid_count (take place indices) + 4
counted-four indices place rows at =
    let one = counted-next indices place (place + 1) (pos rows.0) refl at.first in
    let two = counted-next indices (place + 1) (place + 2) (pos rows.1) (omega arith) at.second in
    let three = counted-next indices (place + 2) (place + 3) (pos rows.2) (omega arith) at.third in
    let four = counted-next indices (place + 3) (place + 4) (pos rows.3) (omega arith) at.fourth in
    omega arith

-- four searches more
pub four_searches_more : (tests tests' spent count count' cost : ℕ) → tests ≤ spent + count * cost → tests' ≤ tests + 4 * cost → count' ≡ count + 4 → tests' ≤ spent + count' * cost
four_searches_more tests tests' spent count count' cost before step more =
    let product : (count + 4) * cost ≡ count * cost + 4 * cost = omega arith in
    rw more (omega arith)
