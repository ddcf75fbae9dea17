-- Rows that a mask selects, in parts, and how many they are.
use Rattle.std.proofs.Common.{◌≡◌, ℕ, ◌+◌, ◌-◌, ◌<◌, ◌≤◌, zero, suc, List, [], ◌∷◌, ◌++◌, Bool, true, false, cond, Some, length, arith, ap, ◌∙◌, sym, refl, take, drop, get_or, replicate}
use Rattle.std.specs.Prelude.{count_by, slice_get, slice_range}
use Rattle.std.proofs.lemmas.List.{take-append-drop, take-take, drop-take}
use Rattle.std.proofs.lemmas.List.Sums.{sum_by-append}
use Rattle.column_base.proofs.BitLists.{Contains-true, count_by-true, count_by-false}
use Rattle.column_base.proofs.Ranges.{length-slice_range, get_or-slice_range}
use Rattle.column_ops.specs.Filter.{filter_rows}

-- how many bits are true
abbrev pub set_bits : List Bool → ℕ
set_bits bits = count_by (λ bit. bit) bits

pub filter_rows-append : {B : Type 0} (bits more : List Bool) (xs ys : List B) → length bits ≡ length xs → filter_rows (bits ++ more) (xs ++ ys) ≡ filter_rows bits xs ++ filter_rows more ys
filter_rows-append [] more [] ys h = refl
filter_rows-append [] more (x ∷ xs) ys h = cc
filter_rows-append (b ∷ bits) more [] ys h = cc
filter_rows-append (true ∷ bits) more (x ∷ xs) ys h = ap (λ zs. x ∷ zs) (filter_rows-append bits more xs ys (omega arith))
filter_rows-append (false ∷ bits) more (x ∷ xs) ys h = filter_rows-append bits more xs ys (omega arith)

-- of one value, as many copies as bits are true
pub filter_rows-replicate : {B : Type 0} (bits : List Bool) (n : ℕ) (x : B) → length bits ≡ n → filter_rows bits (replicate n x) ≡ replicate (set_bits bits) x
filter_rows-replicate [] zero x h = refl
filter_rows-replicate (b ∷ bits) zero x h = cc
filter_rows-replicate [] (suc n) x h = cc
filter_rows-replicate (true ∷ bits) (suc n) x h = let more : set_bits (true ∷ bits) ≡ suc (set_bits bits) = omega (arith, count_by-true bits) in rw more (ap (λ zs. x ∷ zs) (filter_rows-replicate bits n x (omega arith)))
filter_rows-replicate (false ∷ bits) (suc n) x h = let same : set_bits (false ∷ bits) ≡ set_bits bits = omega (arith, count_by-false bits) in rw same (filter_rows-replicate bits n x (omega arith))

pub length-filter_rows : {B : Type 0} (bits : List Bool) (xs : List B) → length bits ≡ length xs → length (filter_rows bits xs) ≡ set_bits bits
length-filter_rows [] [] h = refl
length-filter_rows [] (x ∷ xs) h = cc
length-filter_rows (b ∷ bits) [] h = cc
length-filter_rows (true ∷ bits) (x ∷ xs) h = omega (arith, length-filter_rows bits xs (omega arith), count_by-true bits)
length-filter_rows (false ∷ bits) (x ∷ xs) h = omega (arith, length-filter_rows bits xs (omega arith), count_by-false bits)

-- where a bit is true, one counts
count_by-some : (bits : List Bool) (k : ℕ) → get_or bits k false ≡ true → 0 < set_bits bits
count_by-some [] k h = cc
count_by-some (true ∷ bits) k h = omega (arith, count_by-true bits)
count_by-some (false ∷ bits) zero h = cc
count_by-some (false ∷ bits) (suc k) h = omega (arith, count_by-false bits, count_by-some bits k h)

-- a true bit of a range
pub record IsSetIn (bits : List Bool) (start stop : ℕ) : Type 0 where
  pub place : ℕ
  pub low : start ≤ place
  pub high : place < stop
  pub set : slice_get bits place ≡ Some true

-- a bit is true, by its default or not
pub set_at : (bits : List Bool) (k : ℕ) → get_or bits k false ≡ true → slice_get bits k ≡ Some true
set_at [] k h = cc
set_at (b ∷ bits) zero h = ap Some h
set_at (b ∷ bits) (suc k) h = set_at bits k h

pub at_set : (bits : List Bool) (k : ℕ) → slice_get bits k ≡ Some true → get_or bits k false ≡ true
at_set [] k h = cc
at_set (b ∷ bits) zero h = cc
at_set (b ∷ bits) (suc k) h = at_set bits k h

pub set_within : (bits : List Bool) (k : ℕ) → slice_get bits k ≡ Some true → k < length bits
set_within [] k h = cc
set_within (b ∷ bits) zero h = omega arith
set_within (b ∷ bits) (suc k) h = let rest = set_within bits k h in omega arith

get_or-true : (bits : List Bool) (k : ℕ) → k < length bits → get_or bits k true ≡ get_or bits k false
get_or-true [] k h = absurd (omega arith)
get_or-true (b ∷ bits) zero h = refl
get_or-true (b ∷ bits) (suc k) h = get_or-true bits k (omega arith)

-- a range with a count has a true bit
pub IsSetIn-counted : (bits : List Bool) (start stop : ℕ) → start ≤ stop → stop ≤ length bits → 0 < set_bits (slice_range bits start stop) → IsSetIn bits start stop
IsSetIn-counted bits start stop ordered within some =
    let found = Contains-true (slice_range bits start stop) some in
    let long = length-slice_range bits start stop ordered within in
    let inside : found.0 < stop - start = omega (arith, found.1) in
    record {
      place = start + found.0;
      low = omega arith;
      high = omega arith;
      set = set_at bits (start + found.0) (sym (get_or-slice_range bits start stop found.0 false inside) ∙ sym (get_or-true (slice_range bits start stop) found.0 found.1) ∙ found.2);
    }

-- and the other way round
pub counted-IsSetIn : (bits : List Bool) (start stop : ℕ) → IsSetIn bits start stop → 0 < set_bits (slice_range bits start stop)
counted-IsSetIn bits start stop found =
    let low = found.low in
    let high = found.high in
    let back : start + (found.place - start) ≡ found.place = omega arith in
    count_by-some (slice_range bits start stop) (found.place - start)
    (get_or-slice_range bits start stop (found.place - start) false (omega arith) ∙ ap (λ (k : ℕ). get_or bits k false) back ∙ at_set bits found.place found.set)

-- the first items, in two parts
pub take-split : {B : Type 0} (xs : List B) (start stop : ℕ) → start ≤ stop → take stop xs ≡ take start xs ++ slice_range xs start stop
take-split xs start stop h =
    let e : start + (stop - start) ≡ stop = omega arith in
    ap (λ n. take n xs) (sym e) ∙ sym (take-append-drop start (take (start + (stop - start)) xs))
    ∙ ap (λ ys. ys ++ drop start (take (start + (stop - start)) xs)) (take-take start (start + (stop - start)) xs (omega arith))
    ∙ ap (λ ys. take start xs ++ ys) (drop-take start (stop - start) xs)

-- the bits that count up to the stop are those up to the start and those between
pub set_bits-split : (bits : List Bool) (start stop : ℕ) → start ≤ stop → set_bits (take stop bits) ≡ set_bits (take start bits) + set_bits (slice_range bits start stop)
set_bits-split bits start stop h =
    ap set_bits (take-split bits start stop h) ∙ sum_by-append (λ (b : Bool). cond b 1 0) (take start bits) (slice_range bits start stop)
