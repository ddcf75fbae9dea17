-- A filter takes the rows at the places of the true bits.
use Rattle.std.proofs.Common.{◌≡◌, ◌∙◌, ℕ, ℤ, zero, suc, pos, ◌+◌, ◌-◌, ◌<◌, ◌≤◌, List, [], ◌∷◌, Bool, true, false, cond, count_by, Option, Some, None, length, map, get_or, drop, replicate, arith, ap, refl, add-one}
use Rattle.std.specs.Prelude.{filter, slice_index_or, All, IfSome}
use Rattle.std.specs.List.{range_with_len}
use Rattle.std.proofs.lemmas.List.Elements.{All-cons, All-head, All-nil, All-tail}
use Rattle.std.proofs.lemmas.List.Sums.{sum_by-cons}
use Rattle.column_base.specs.Bits.{set_indices_of}
use Rattle.column_core.specs.Optionals.{optionals}
use Rattle.column_ops.specs.Filter.{filter_rows}
use Rattle.column_ops.specs.Take.{ArePositions, position_numbers, take_rows}

-- the places from one on at which a bit is true, in ascending order
abbrev set_indices_from : ℕ → List Bool → List ℕ
set_indices_from from bits = filter (λ i. slice_index_or bits i false) (range_with_len from (length bits - from))

range-next : (from n k : ℕ) → n ≡ k + 1 → range_with_len from n ≡ from ∷ range_with_len (from + 1) k
range-next from n k h = rw (h, add-one k) refl

drop-none : {B : Type 0} (xs : List B) (k : ℕ) → length xs ≤ k → drop k xs ≡ []
drop-none [] zero h = refl
drop-none [] (suc k) h = refl
drop-none (x ∷ xs) zero h = absurd (omega arith)
drop-none (x ∷ xs) (suc k) h = drop-none xs k (omega arith)

drop-next : {B : Type 0} (xs : List B) (k : ℕ) (d : B) → k < length xs → drop k xs ≡ get_or xs k d ∷ drop (k + 1) xs
drop-next {B = B} xs k d h = rw add-one (next xs k h)
  where
    next : (xs : List B) (k : ℕ) → k < length xs → drop k xs ≡ get_or xs k d ∷ drop (suc k) xs
    next [] k h = absurd (omega arith)
    next (x ∷ xs) zero h = refl
    next (x ∷ xs) (suc k) h = next xs k (omega arith)

-- the places from one on begin with it where its bit is true
places-next : (bits : List Bool) (from : ℕ) → from < length bits → set_indices_from from bits ≡ cond (get_or bits from false) (from ∷ set_indices_from (from + 1) bits) (set_indices_from (from + 1) bits)
places-next bits from h =
    let next : length bits - from ≡ length bits - (from + 1) + 1 = omega arith in
    rw (range-next from (length bits - from) (length bits - (from + 1)) next) refl

module _ {B : Type 0} (bits : List Bool) (rows : List (Option B)) (long : length bits ≡ length rows) where
  abbrev row_at : ℕ → Option B
  row_at i = get_or rows i None

  rows-from : (n from : ℕ) → from + n ≡ length bits → map row_at (set_indices_from from bits) ≡ filter_rows (drop from bits) (drop from rows)
  rows-from zero from h =
      let none : length bits - from ≡ 0 = omega arith in
      rw (none, drop-none bits from (omega arith)) refl
  rows-from (suc n) from h =
      let rest = rows-from n (from + 1) (omega arith) in
      rw (places-next bits from (omega arith), drop-next bits from false (omega arith), drop-next rows from None (omega arith)) (one (get_or bits from false) rest)
    where
      one : (b : Bool) → map row_at (set_indices_from (from + 1) bits) ≡ filter_rows (drop (from + 1) bits) (drop (from + 1) rows)
          → map row_at (cond b (from ∷ set_indices_from (from + 1) bits) (set_indices_from (from + 1) bits)) ≡ filter_rows (b ∷ drop (from + 1) bits) (row_at from ∷ drop (from + 1) rows)
      one true rest = ap (λ (xs : List (Option B)). row_at from ∷ xs) rest
      one false rest = rest

  pub rows-places : map row_at (set_indices_of bits) ≡ filter_rows bits rows
  rows-places = let all : length bits - 0 ≡ length bits = omega arith in rw all at (rows-from (length bits) 0 (omega arith))

-- there are as many as true bits
counted-from : (bits : List Bool) (n from : ℕ) → from + n ≡ length bits → length (set_indices_from from bits) ≡ count_by (λ bit. bit) (drop from bits)
counted-from bits zero from h =
    let none : length bits - from ≡ 0 = omega arith in
    rw (none, drop-none bits from (omega arith)) refl
counted-from bits (suc n) from h =
    let rest = counted-from bits n (from + 1) (omega arith) in
    rw (places-next bits from (omega arith), drop-next bits from false (omega arith)) (one (get_or bits from false) rest)
  where
    one : (b : Bool) → length (set_indices_from (from + 1) bits) ≡ count_by (λ bit. bit) (drop (from + 1) bits)
        → length (cond b (from ∷ set_indices_from (from + 1) bits) (set_indices_from (from + 1) bits)) ≡ count_by (λ bit. bit) (b ∷ drop (from + 1) bits)
    one true rest = let more = sum_by-cons (λ bit. cond bit 1 0) true (drop (from + 1) bits) in omega arith
    one false rest = let same = sum_by-cons (λ bit. cond bit 1 0) false (drop (from + 1) bits) in omega arith

pub length-places : (bits : List Bool) → length (set_indices_of bits) ≡ count_by (λ bit. bit) bits
length-places bits = let all : length bits - 0 ≡ length bits = omega arith in rw all at (counted-from bits (length bits) 0 (omega arith))

-- they are places of bits
within-from : (bits : List Bool) (n from : ℕ) → from + n ≡ length bits → All (λ i. i < length bits) (set_indices_from from bits)
within-from bits zero from h =
    let none : length bits - from ≡ 0 = omega arith in
    rw none (All-nil (λ i. i < length bits))
within-from bits (suc n) from h =
    let rest = within-from bits n (from + 1) (omega arith) in
    rw (places-next bits from (omega arith)) (one (get_or bits from false) (omega arith) rest)
  where
    one : (b : Bool) → from < length bits → All (λ i. i < length bits) (set_indices_from (from + 1) bits) → All (λ i. i < length bits) (cond b (from ∷ set_indices_from (from + 1) bits) (set_indices_from (from + 1) bits))
    one true here rest = All-cons (λ i. i < length bits) from (set_indices_from (from + 1) bits) here rest
    one false here rest = rest

-- rows at numbers of which none is null
take_rows-numbers : {B : Type 0} (rows : List (Option B)) (places : List ℕ) → take_rows rows (optionals (map (λ (n : ℕ). pos n) places) (replicate (length places) true)) ≡ map (λ i. get_or rows i None) places
take_rows-numbers rows [] = refl
take_rows-numbers {B} rows (place ∷ places) = ap (λ (xs : List (Option B)). get_or rows place None ∷ xs) (take_rows-numbers rows places)

pub take_rows-places : {B : Type 0} (bits : List Bool) (rows : List (Option B)) (places : List ℕ) → length bits ≡ length rows → places ≡ set_indices_of bits
    → take_rows rows (optionals (map (λ (n : ℕ). pos n) places) (replicate (length places) true)) ≡ filter_rows bits rows
take_rows-places bits rows places long is = take_rows-numbers rows places ∙ ap (map (λ i. get_or rows i None)) is ∙ rows-places bits rows long

-- each place is that of a bit
pub within-places : (bits : List Bool) (places : List ℕ) → places ≡ set_indices_of bits → All (λ i. i < length bits) places
within-places bits places is =
    let all : length bits - 0 ≡ length bits = omega arith in
    rw is (rw all at (within-from bits (length bits) 0 (omega arith)))

-- places, as positions of which none is null
numbers-positions : (places : List ℕ) → position_numbers (optionals places (replicate (length places) true)) ≡ optionals (map (λ (n : ℕ). pos n) places) (replicate (length places) true)
numbers-positions [] = refl
numbers-positions (place ∷ places) = ap (λ (xs : List (Option ℤ)). Some (pos place) ∷ xs) (numbers-positions places)

pub take_rows-positions : {B : Type 0} (bits : List Bool) (rows : List (Option B)) (places : List ℕ) → length bits ≡ length rows → places ≡ set_indices_of bits
    → take_rows rows (position_numbers (optionals places (replicate (length places) true))) ≡ filter_rows bits rows
take_rows-positions bits rows places long is = ap (take_rows rows) (numbers-positions places) ∙ take_rows-places bits rows places long is

positions-numbers : (count : ℕ) (places : List ℕ) → All (λ i. i < count) places → ArePositions (optionals places (replicate (length places) true)) count
positions-numbers count [] within = All-nil (λ position. IfSome position (λ k. k < count))
positions-numbers count (place ∷ places) within =
    All-cons (λ position. IfSome position (λ k. k < count)) (Some place) (optionals places (replicate (length places) true)) (All-head (λ i. i < count) place places within)
    (positions-numbers count places (All-tail (λ i. i < count) place places within))

pub positions-places : (bits : List Bool) (count : ℕ) (places : List ℕ) → length bits ≡ count → places ≡ set_indices_of bits → ArePositions (optionals places (replicate (length places) true)) count
positions-places bits count places long is = positions-numbers count places (rw (← long) (within-places bits places is))
