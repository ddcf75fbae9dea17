-- Counts, bounds, the first and the last number of rows that grow by a run.
use Rattle.std.proofs.Common.{◌≡◌, ◌∙◌, ◌++◌, ◌+◌, ◌<◌, ◌≤◌, ℕ, zero, suc, ℤ, true, false, List, [], ◌∷◌, Option, Some, None, length, replicate, refl, ap, arith, append-nil}
use Rattle.std.specs.Prelude.{⊤, is_some, option_map, slice_get, IfSome}
use Rattle.std.specs.List.{last_or}
use Rattle.std.specs.Option.{option_or}
use Rattle.std.proofs.lemmas.List.Elements.{filter_map-append}
use Rattle.runend_pairs.specs.GroupAnswers.{first_of, last_of, numbers_of}
use Rattle.runend_pairs.proofs.RowTotals.{longer}

-- the numbers of a run
of_nulls : (count : ℕ) → numbers_of (replicate count None) ≡ []
of_nulls zero = refl
of_nulls (suc count) = of_nulls count

of_copies : (n : ℤ) (count : ℕ) → numbers_of (replicate count (Some n)) ≡ replicate count n
of_copies n zero = refl
of_copies n (suc count) = ap (λ ns. n ∷ ns) (of_copies n count)

-- rows of null add no number
pub numbers_with_nulls : (rows : List (Option ℤ)) (count : ℕ) → numbers_of (rows ++ replicate count None) ≡ numbers_of rows
numbers_with_nulls rows count =
    filter_map-append (λ (row : Option ℤ). row) rows (replicate count None) ∙ ap (λ (ns : List ℤ). numbers_of rows ++ ns) (of_nulls count) ∙ append-nil (numbers_of rows)

-- rows of a number add it as often
pub numbers_with_copies : (rows : List (Option ℤ)) (n : ℤ) (count : ℕ) → numbers_of (rows ++ replicate count (Some n)) ≡ numbers_of rows ++ replicate count n
numbers_with_copies rows n count =
    filter_map-append (λ (row : Option ℤ). row) rows (replicate count (Some n)) ∙ ap (λ (ns : List ℤ). numbers_of rows ++ ns) (of_copies n count)

-- no more numbers than rows
pub numbers_le_rows : (rows : List (Option ℤ)) → length (numbers_of rows) ≤ length rows
numbers_le_rows [] = omega arith
numbers_le_rows (None ∷ rows) = let rest = numbers_le_rows rows in omega arith
numbers_le_rows (Some n ∷ rows) = let rest = numbers_le_rows rows in omega arith

-- the first number
first_taken : (ns : List ℤ) (n : ℤ) (count : ℕ) → 0 < count → slice_get (ns ++ replicate count n) 0 ≡ option_or (slice_get ns 0) (Some n)
first_taken [] n zero some = absurd (omega arith)
first_taken [] n (suc count) some = refl
first_taken (m ∷ ns) n count some = refl

or_none : (o : Option ℤ) → o ≡ option_or o None
or_none None = refl
or_none (Some n) = refl

pub first-next : (rows : List (Option ℤ)) (value : Option ℤ) (count : ℕ) → 0 < count → first_of (rows ++ replicate count value) ≡ option_or (first_of rows) value
first-next rows None count some = ap (λ (ns : List ℤ). slice_get ns 0) (numbers_with_nulls rows count) ∙ or_none (first_of rows)
first-next rows (Some n) count some = ap (λ (ns : List ℤ). slice_get ns 0) (numbers_with_copies rows n count) ∙ first_taken (numbers_of rows) n count some

-- the last number
last_copy : (o : Option ℤ) (n : ℤ) (count : ℕ) → last_or (Some n) (replicate count n) ≡ Some n
last_copy o n zero = refl
last_copy o n (suc count) = last_copy o n count

last_taken : (o : Option ℤ) (ns : List ℤ) (n : ℤ) (count : ℕ) → 0 < count → last_or o (ns ++ replicate count n) ≡ Some n
last_taken o [] n zero some = absurd (omega arith)
last_taken o [] n (suc count) some = last_copy o n count
last_taken o (m ∷ ns) n count some = last_taken (Some m) ns n count some

pub last-next : (rows : List (Option ℤ)) (value : Option ℤ) (count : ℕ) → 0 < count → last_of (rows ++ replicate count value) ≡ option_or value (last_of rows)
last-next rows None count some = ap (last_or None) (numbers_with_nulls rows count)
last-next rows (Some n) count some = ap (last_or None) (numbers_with_copies rows n count) ∙ last_taken None (numbers_of rows) n count some

-- a choice of two options, as numbers
pub option_map-or : {S : Type 0} (number : S → ℤ) (a b : Option S) → option_map number (option_or a b) ≡ option_or (option_map number a) (option_map number b)
option_map-or number None b = refl
option_map-or number (Some x) b = refl

-- how many numbers there are
pub count-valid : {S : Type 0} (number : S → ℤ) (rows : List (Option ℤ)) (value : Option S) (count : ℕ) → is_some value ≡ true
    → length (numbers_of (rows ++ replicate count (option_map number value))) ≡ length (numbers_of rows) + count
count-valid number rows None count some = absurd (cc some)
count-valid number rows (Some x) count some = ap length (numbers_with_copies rows (number x) count) ∙ longer (numbers_of rows) (number x) count

pub count-null : {S : Type 0} (number : S → ℤ) (rows : List (Option ℤ)) (value : Option S) (count : ℕ) → is_some value ≡ false
    → length (numbers_of (rows ++ replicate count (option_map number value))) ≡ length (numbers_of rows)
count-null number rows None count none = ap length (numbers_with_nulls rows count)
count-null number rows (Some x) count none = absurd (cc none)

-- each answer is given, where no number is refused
pub each_given : (answer : Option ℤ) → IfSome answer (λ n. ⊤)
each_given None = tt
each_given (Some n) = tt
