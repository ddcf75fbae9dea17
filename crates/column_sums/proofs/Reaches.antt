-- A bound of the numbers bounds each partial sum.
use Rattle.std.proofs.Common.{◌≡◌, ◌∙◌, ℕ, zero, suc, ◌+◌, ◌*◌, ◌<◌, ◌≤◌, ℤ, pos, negsuc, neg_ℤ, ◌+ℤ◌, ◌*ℤ◌, ◌≤ℤ◌, Bool, true, false, not, Option, Some, None, List, [], ◌∷◌, length, drop, refl, sym, ap, arith, length-append}
use Rattle.std.specs.Prelude.{IfSome, is_none, is_some, option_map, replicate, slice_get}
use Rattle.column_base.specs.Words.{one_if}
use Rattle.std.proofs.lemmas.Int.{ints}
use Rattle.std.proofs.lemmas.List.{length-replicate}
use Rattle.std.proofs.Math.IntN.{pos-*ℤ-pos, negsuc-*ℤ-pos}
use Rattle.std.proofs.Math.Nat.{mul-le-mul_right, mul-le-mul_left, mul-add}
use Rattle.column_sums.specs.SumRange.{SumRange, SignedRange, UnsignedRange, is_within}
use Rattle.column_sums.specs.RunSum.{rows_of_runs}
use Rattle.column_sums.specs.Reach.{IsSized, IsStored, StaysWithin, has_number, lowest}
use Rattle.column_sums.specs.SumState.{IsAddable, lanes_with}
use Rattle.column_sums.specs.Summed.{run_value}
use Rattle.column_sums.proofs.RunSums.{drop-at}
use Rattle.column_sums.proofs.Within.{is_within-between}

-- a product of a number from -low to high and a count
pub product_between : (n : ℤ) (low high count : ℕ) → neg_ℤ (pos low) ≤ℤ n → n ≤ℤ pos high
    → (neg_ℤ (pos (low * count)) ≤ℤ (n *ℤ pos count)) × ((n *ℤ pos count) ≤ℤ pos (high * count))
product_between (pos m) low high count l h =
    let k : m ≤ high = omega (arith, ints) in
    let le : m * count ≤ high * count = mul-le-mul_right count k in
    rw (pos-*ℤ-pos m count) (omega (arith, ints), omega (arith, ints))
product_between (negsuc m) low high count l h =
    let k : suc m ≤ low = omega (arith, ints) in
    let le : suc m * count ≤ low * count = mul-le-mul_right count k in
    rw (negsuc-*ℤ-pos m count) (omega (arith, ints), omega (arith, ints))

-- the product of a number of a size and a count
sized_product : (range : SumRange) (size : ℕ) (n : ℤ) (count : ℕ) → IsSized range size n
    → (neg_ℤ (pos (lowest range size * count)) ≤ℤ (n *ℤ pos count)) × ((n *ℤ pos count) ≤ℤ pos ((size + 1) * count))
sized_product range size n count sized =
    let high = sized.high in product_between n (lowest range size) (size + 1) count sized.low (omega (arith, ints))

-- after some of the rows the others leave the sum in the range
pub stays-next : (range : SumRange) (size : ℕ) (sum n : ℤ) (count rest : ℕ) → IsSized range size n
    → StaysWithin range size sum (count + rest) → StaysWithin range size (sum +ℤ n *ℤ pos count) rest
stays-next range size sum n count rest sized stays =
    let b = sized_product range size n count sized in let p = b.0 in let q = b.1 in
    let down = stays.down in let up = stays.up in
    let lows : lowest range size * (count + rest) ≡ lowest range size * count + lowest range size * rest = mul-add (lowest range size) count rest in
    let highs : (size + 1) * (count + rest) ≡ (size + 1) * count + (size + 1) * rest = mul-add (size + 1) count rest in
    record { down = omega (arith, ints); up = omega (arith, ints) }

-- and it is in the range
pub stays-is_within : (range : SumRange) (size : ℕ) (sum : ℤ) (rows : ℕ) → StaysWithin range size sum rows → is_within range sum ≡ true
stays-is_within range size sum rows stays =
    let down = stays.down in let up = stays.up in is_within-between range sum (omega (arith, ints)) (omega (arith, ints))

-- fewer rows leave it there too
pub stays-fewer : (range : SumRange) (size : ℕ) (sum : ℤ) (rows fewer : ℕ) → fewer ≤ rows → StaysWithin range size sum rows → StaysWithin range size sum fewer
stays-fewer range size sum rows fewer le stays =
    let down = stays.down in let up = stays.up in
    let lows : lowest range size * fewer ≤ lowest range size * rows = mul-le-mul_left (lowest range size) le in
    let highs : (size + 1) * fewer ≤ (size + 1) * rows = mul-le-mul_left (size + 1) le in
    record { down = omega (arith, ints); up = omega (arith, ints) }

-- and what some of the rows add is in the range
pub stays-product : (range : SumRange) (size : ℕ) (sum n : ℤ) (count : ℕ) → IsSized range size n → StaysWithin range size sum count → is_within range (n *ℤ pos count) ≡ true
stays-product SignedRange size sum n count sized stays =
    let b = sized_product SignedRange size n count sized in let p = b.0 in let q = b.1 in
    let down = stays.down in let up = stays.up in
    is_within-between SignedRange (n *ℤ pos count) (omega (arith, ints)) (omega (arith, ints))
stays-product UnsignedRange size sum n count sized stays =
    let b = sized_product UnsignedRange size n count sized in let p = b.0 in let q = b.1 in
    let down = stays.down in let up = stays.up in
    is_within-between UnsignedRange (n *ℤ pos count) (omega (arith, ints)) (omega (arith, ints))

-- the rows from a run on are its own and those after it
pub rows_left-at : (runs : List (Option ℤ × ℕ)) (run : ℕ) (value : Option ℤ) (count : ℕ) → slice_get runs run ≡ Some (value, count)
    → length (rows_of_runs (drop run runs)) ≡ count + length (rows_of_runs (drop (run + 1) runs))
rows_left-at runs run value count at =
    let rest = rows_of_runs (drop (run + 1) runs) in
    ap (λ (rs : List (Option ℤ × ℕ)). length (rows_of_runs rs)) (drop-at runs run (value, count) at)
    ∙ length-append (replicate count value) rest ∙ ap (λ (k : ℕ). k + length rest) (length-replicate count value)

-- and there are no more of them from the next run on
pub rows_left-next : (runs : List (Option ℤ × ℕ)) (run : ℕ) → length (rows_of_runs (drop (run + 1) runs)) ≤ length (rows_of_runs (drop run runs))
rows_left-next [] zero = omega arith
rows_left-next [] (suc run) = let next : suc run + 1 ≡ suc (run + 1) = omega arith in rw next (omega arith)
rows_left-next ((value, count) ∷ runs) zero = omega (arith, length-append (replicate count value) (rows_of_runs runs))
rows_left-next ((value, count) ∷ runs) (suc run) =
    let next : suc run + 1 ≡ suc (run + 1) = omega arith in rw next (rows_left-next runs run)

-- nor than there are in all
pub rows_left-le : (runs : List (Option ℤ × ℕ)) (run : ℕ) → length (rows_of_runs (drop run runs)) ≤ length (rows_of_runs runs)
rows_left-le runs zero = omega arith
rows_left-le [] (suc run) = omega arith
rows_left-le ((value, count) ∷ runs) (suc run) = omega (arith, rows_left-le runs run, length-append (replicate count value) (rows_of_runs runs))

-- a run that is there has no more rows than there are in all
pub few_rows : (runs : List (Option ℤ × ℕ)) (run : ℕ) (value : Option ℤ) (count : ℕ) → slice_get runs run ≡ Some (value, count) → count ≤ length (rows_of_runs runs)
few_rows runs run value count at = omega (arith, rows_left-at runs run value count at, rows_left-le runs run)

-- a run of any value adds to the sum what is in reach
pub run-addable : (range : SumRange) (size : ℕ) (sum : ℤ) (runs : List (Option ℤ × ℕ)) (run : ℕ) (value : Option ℤ) (count : ℕ) → slice_get runs run ≡ Some (value, count)
    → ((n : ℤ) → value ≡ Some n → IsSized range size n) → StaysWithin range size sum (length (rows_of_runs (drop run runs))) → IsAddable range sum value count
run-addable range size sum runs run None count at sized stays = tt
run-addable range size sum runs run (Some n) count at sized stays =
    let rest = length (rows_of_runs (drop (run + 1) runs)) in
    let left = rows_left-at runs run (Some n) count at in
    let own = stays-fewer range size sum (length (rows_of_runs (drop run runs))) (count + rest) (omega (arith, left)) stays in (
      stays-is_within range size (sum +ℤ n *ℤ pos count) rest (stays-next range size sum n count rest (sized n refl) own),
      stays-product range size sum n count (sized n refl) (stays-fewer range size sum (count + rest) count (omega arith) own),
    )

-- and after it the rows of the others leave the sum in the range
pub run-stays : (range : SumRange) (size : ℕ) (sum : ℤ) (runs : List (Option ℤ × ℕ)) (run : ℕ) (value : Option ℤ) (count : ℕ) → slice_get runs run ≡ Some (value, count)
    → ((n : ℤ) → value ≡ Some n → IsSized range size n) → StaysWithin range size sum (length (rows_of_runs (drop run runs)))
    → StaysWithin range size (lanes_with sum value count) (length (rows_of_runs (drop (run + 1) runs)))
run-stays range size sum runs run None count at sized stays =
    stays-fewer range size sum (length (rows_of_runs (drop run runs))) (length (rows_of_runs (drop (run + 1) runs))) (rows_left-next runs run) stays
run-stays range size sum runs run (Some n) count at sized stays =
    let rest = length (rows_of_runs (drop (run + 1) runs)) in
    let left = rows_left-at runs run (Some n) count at in
    stays-next range size sum n count rest (sized n refl) (stays-fewer range size sum (length (rows_of_runs (drop run runs))) (count + rest) (omega (arith, left)) stays)

-- rows that leave a sum in the range leave 0 there too
pub stays-alone : (range : SumRange) (size : ℕ) (sum : ℤ) (rows : ℕ) → StaysWithin range size sum rows → StaysWithin range size (pos 0) rows
stays-alone SignedRange size sum rows stays =
    let down = stays.down in let up = stays.up in record { down = omega (arith, ints); up = omega (arith, ints) }
stays-alone UnsignedRange size sum rows stays =
    let down = stays.down in let up = stays.up in record { down = omega (arith, ints); up = omega (arith, ints) }

-- a number of a size is of each larger one
pub sized-wider : (range : SumRange) (size wider : ℕ) (n : ℤ) → size ≤ wider → IsSized range size n → IsSized range wider n
sized-wider SignedRange size wider n le sized = let low = sized.low in let high = sized.high in record { low = omega (arith, ints); high = omega (arith, ints) }
sized-wider UnsignedRange size wider n le sized = let low = sized.low in let high = sized.high in record { low = low; high = omega (arith, ints) }

-- a value that is of a size where it is a number
pub sized_some : (range : SumRange) (size : ℕ) (value : Option ℤ) → ((n : ℤ) → value ≡ Some n → IsSized range size n) → IfSome value (IsSized range size)
sized_some range size None sized = tt
sized_some range size (Some n) sized = sized n refl

-- a value that was read is null where its number is
pub null-mapped : {X : Type 0} (number : X → ℤ) (value : Option X) (null : Bool) → is_some value ≡ not null → null ≡ is_none (option_map number value)
null-mapped number None true same = refl
null-mapped number None false same = let e : false ≡ true = same in cc
null-mapped number (Some v) true same = let e : true ≡ false = same in cc
null-mapped number (Some v) false same = refl

-- where the flag is 1 the number is the stored one
pub flag-number : (shown : Option (Option ℤ)) (stored : ℤ) → one_if (has_number shown) ≡ 1 → IsStored shown stored → shown ≡ Some (Some stored)
flag-number None stored flag same = absurd (omega (arith, flag))
flag-number (Some None) stored flag same = absurd (omega (arith, flag))
flag-number (Some (Some n)) stored flag same = ap (λ (m : ℤ). Some (Some m)) (sym (same n refl))

-- and where it is 0 the run is null
pub flag-null : (runs : List (Option ℤ × ℕ)) (run : ℕ) → run < length runs → one_if (has_number (run_value runs run)) ≡ 0 → run_value runs run ≡ Some None
flag-null [] run within flag = absurd (omega (arith, within))
flag-null ((None, count) ∷ runs) zero within flag = refl
flag-null ((Some n, count) ∷ runs) zero within flag = absurd (omega (arith, flag))
flag-null (first ∷ runs) (suc run) within flag = flag-null runs run (omega (arith, within)) flag

-- what follows of a value, where there is one
pub if_some : {X : Type 0} (P Q : X → Type 0) (value : Option X) → ((x : X) → P x → Q x) → IfSome value P → IfSome value Q
if_some P Q None step held = tt
if_some P Q (Some x) step held = step x held
