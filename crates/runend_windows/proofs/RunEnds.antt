-- The rows that a typed decoder has so far: it takes an end for each run from an iterator, and appends copies of the run's value up to there.
use Rattle.std.proofs.Common.{◌≡◌, ℕ, ℤ, zero, suc, ◌+◌, ◌-◌, ◌<◌, ◌≤◌, List, [], ◌∷◌, ◌++◌, Option, Some, None, length, drop, replicate, slice_index, map, refl, sym, ◌∙◌, ap, arith, add-one, inl, inr, length-append}
use Rattle.std.proofs.lemmas.Bool.{cases_lt}
use Rattle.std.proofs.lemmas.List.{length-map, length-replicate}
use Rattle.std.specs.List.{slice_get}
use Rattle.std.specs.List.Sorted.{IsNonDecreasing}
use Rattle.std.specs.Iterator.{AlwaysYields, YieldsFirst}
use native.Mathlib.Numerals.{unary_clauses}
use Rattle.runend_windows.specs.RunEnds.{AreRunEnds, Fills}
use Rattle.runend_windows.specs.Window.{run_at, last_end}
use Rattle.runend_windows.proofs.Lists.{slice_get-append, slice_get-append_copies}
use Rattle.runend_windows.proofs.RunAt.{run_at_is}
use Rattle.runend_windows.proofs.StoredNumbers.{map-append_copies}

-- the rows that the first runs reach
abbrev pub reach : List ℕ → ℕ → ℕ
reach ends zero = 0
reach ends (suc run) = slice_index ends run

-- the rows of the first `runs` runs
pub record Filled {X : Type 0} (ends : List ℕ) (values : List X) (runs : ℕ) (rows : List X) : Type 0 where
  pub counted : length rows ≡ reach ends runs
  pub each : (i : ℕ) → i < length rows → slice_get rows i ≡ slice_get values (run_at ends i)

-- a run reaches at least as far as those before it
reach-le : (ends : List ℕ) (run : ℕ) → IsNonDecreasing ends → run < length ends → reach ends run ≤ slice_index ends run
reach-le ends zero ordered h = omega arith
reach-le ends (suc run) ordered h = ordered run (suc run) 0 (omega arith) h

-- a row past those that the runs before reach, and within those that this run reaches, is in this run
run_at-of_reach : (ends : List ℕ) (run i : ℕ) → IsNonDecreasing ends → run < length ends → reach ends run ≤ i → i < slice_index ends run → run_at ends i ≡ run
run_at-of_reach ends zero i ordered h low high = run_at_is ends i zero (omega arith) (λ k lt. absurd (omega arith)) (λ _. high)
run_at-of_reach ends (suc run) i ordered h low high =
    run_at_is ends i (suc run) (omega arith)
    (λ k lt. let before : slice_index ends k ≤ slice_index ends run = ordered k run 0 (omega arith) (omega arith) in omega arith)
    (λ _. high)

-- before the first run there are 0 rows
Filled-none : {X : Type 0} (ends : List ℕ) (values : List X) → Filled ends values 0 []
Filled-none ends values = record { counted = refl; each = λ i h. absurd (omega arith) }

-- the next run appends copies of its value, as many as it reaches rows that are not there yet
Filled-next : {X : Type 0} (ends : List ℕ) (values : List X) (run : ℕ) (rows : List X) (value : X) (copies : ℕ) → IsNonDecreasing ends → run < length ends
    → slice_get values run ≡ Some value → copies ≡ slice_index ends run - length rows → Filled ends values run rows → Filled ends values (run + 1) (rows ++ replicate copies value)
Filled-next ends values run rows value copies ordered h here copied filled =
    let order = reach-le ends run ordered h in
    let counted = filled.counted in
    let long = length-append rows (replicate copies value) in
    let added = length-replicate copies value in
    record {
      counted = rw add-one (omega arith);
      each = λ i lt. elim (cases_lt i (length rows)) [
        | inl before ↦ slice_get-append rows (replicate copies value) i before ∙ filled.each i before
        | inr from ↦
            let at = run_at-of_reach ends run i ordered h (omega arith) (omega arith) in
            slice_get-append_copies rows copies i value from (omega arith) ∙ sym here ∙ ap (slice_get values) (sym at)
      ];
    }

-- all runs reach the last end
reach-all : (ends : List ℕ) → reach ends (length ends) ≡ last_end ends
reach-all [] = refl
reach-all (end ∷ ends) =
    let same : last_end (end ∷ ends) ≡ slice_index (end ∷ ends) (length ends) = simp unary_clauses in
    sym same

-- past the last run all rows are there
Filled-all : {X : Type 0} (ends : List ℕ) (values : List X) (count runs : ℕ) (rows : List X) → runs ≡ length ends → last_end ends ≡ count → Filled ends values runs rows
    → Fills rows ends values count
Filled-all ends values count runs rows all last filled =
    let counted : length rows ≡ count = filled.counted ∙ ap (reach ends) all ∙ reach-all ends ∙ last in
    record { counted = counted; each = λ i h. filled.each i (omega arith) }

-- no end is past the last row
end_within : (ends : List ℕ) (run count : ℕ) → IsNonDecreasing ends → last_end ends ≡ count → run < length ends → slice_index ends run ≤ count
end_within ends run count ordered last h =
    let order : slice_index ends run ≤ last_end ends = ordered run (length ends - 1) 0 (omega arith) (omega arith) in
    omega arith

-- where ends are left, the iterator gives the next of them, and then the others
next_end : {S : Type 0} (gives : S → Option ℕ → S → Type 0) (s t : S) (ends : List ℕ) (run end : ℕ) → run < length ends
    → AlwaysYields gives (λ e. e) s (drop run ends) → gives s (Some end) t → (end ≡ slice_index ends run) × AlwaysYields gives (λ e. e) t (drop (run + 1) ends)
next_end gives s t [] run end h left step = absurd (omega arith)
next_end gives s t (e ∷ ends) zero end h left step = left.1 end t step
next_end gives s t (e ∷ ends) (suc run) end h left step = rw add-one (rw add-one at (next_end gives s t ends run end (omega arith) left step))

-- and it does not stop
not_at_end : {S : Type 0} (gives : S → Option ℕ → S → Type 0) (s t : S) (ends : List ℕ) (run : ℕ) → run < length ends
    → AlwaysYields gives (λ e. e) s (drop run ends) → ¬ (gives s None t)
not_at_end gives s t [] run h left step = absurd (omega arith)
not_at_end gives s t (e ∷ ends) zero h left step = left.0 t step
not_at_end gives s t (e ∷ ends) (suc run) h left step = not_at_end gives s t ends run (omega arith) left step

-- the iterator has given the ends of the first `run` runs, and the rows are those of these runs
pub record Pulled {S X : Type 0} (gives : S → Option ℕ → S → Type 0) (s : S) (ends : List ℕ) (values : List X) (run : ℕ) (rows : List X) : Type 0 where
  pub left : AlwaysYields gives (λ e. e) s (drop run ends)
  pub filled : Filled ends values run rows

pub Pulled-none : {S X : Type 0} (gives : S → Option ℕ → S → Type 0) (s : S) (runs count : ℕ) (ends : List ℕ) (values : List X) → AreRunEnds gives s runs count ends
    → Pulled gives s ends values 0 []
Pulled-none gives s runs count ends values given = record { left = given.yields; filled = Filled-none ends values }

-- with runs left, the iterator does not stop
pub Pulled-more : {S X : Type 0} (gives : S → Option ℕ → S → Type 0) (start s t : S) (runs count : ℕ) (ends : List ℕ) (values : List X) (run : ℕ) (rows : List X)
    → AreRunEnds gives start runs count ends → run < runs → Pulled gives s ends values run rows → ¬ (gives s None t)
Pulled-more gives start s t runs count ends values run rows given h pulled = let paired = given.paired in not_at_end gives s t ends run (omega arith) pulled.left

-- the end that it gives is at most the last row
pub Pulled-within : {S X : Type 0} (gives : S → Option ℕ → S → Type 0) (start s t : S) (runs count : ℕ) (ends : List ℕ) (values : List X) (run : ℕ) (rows : List X) (end : ℕ)
    → AreRunEnds gives start runs count ends → run < runs → gives s (Some end) t → Pulled gives s ends values run rows → end ≤ count
Pulled-within gives start s t runs count ends values run rows end given h step pulled =
    let paired = given.paired in
    let same = (next_end gives s t ends run end (omega arith) pulled.left step).0 in
    let within = end_within ends run count given.ordered given.last (omega arith) in
    omega arith

-- the run's value is repeated up to there
pub Pulled-next : {S X : Type 0} (gives : S → Option ℕ → S → Type 0) (start s t : S) (runs count : ℕ) (ends : List ℕ) (values : List X) (run : ℕ) (rows : List X) (end : ℕ) (value : X)
    (copies : ℕ) → AreRunEnds gives start runs count ends → run < runs → gives s (Some end) t → slice_get values run ≡ Some value → copies ≡ end - length rows
    → Pulled gives s ends values run rows → Pulled gives t ends values (run + 1) (rows ++ replicate copies value)
Pulled-next gives start s t runs count ends values run rows end value copies given h step here copied pulled =
    let paired = given.paired in
    let next = next_end gives s t ends run end (omega arith) pulled.left step in
    let same = next.0 in
    record { left = next.1; filled = Filled-next ends values run rows value copies given.ordered (omega arith) here (omega arith) pulled.filled }

-- the same where rows and values represent numbers
pub Pulled-next_mapped : {S T : Type 0} (gives : S → Option ℕ → S → Type 0) (start s t : S) (runs count : ℕ) (ends : List ℕ) (values : List ℤ) (run : ℕ) (number : T → ℤ) (rows written : List T)
    (end : ℕ) (value : T) → AreRunEnds gives start runs count ends → run < runs → gives s (Some end) t → slice_get values run ≡ Some (number value)
    → written ≡ rows ++ replicate (end - length rows) value → Pulled gives s ends values run (map number rows) → Pulled gives t ends values (run + 1) (map number written)
Pulled-next_mapped gives start s t runs count ends values run number rows written end value given h step here appended pulled =
    let counted = length-map rows number in
    rw (appended, map-append_copies number rows (end - length rows) value)
    (Pulled-next gives start s t runs count ends values run (map number rows) end (number value) (end - length rows) given h step here (omega arith) pulled)

-- past the last run all rows are there
pub Pulled-all : {S X : Type 0} (gives : S → Option ℕ → S → Type 0) (start s : S) (runs count : ℕ) (ends : List ℕ) (values : List X) (run : ℕ) (rows : List X)
    → AreRunEnds gives start runs count ends → run ≡ runs → Pulled gives s ends values run rows → Fills rows ends values count
Pulled-all gives start s runs count ends values run rows given all pulled = Filled-all ends values count run rows (all ∙ sym given.paired) given.last pulled.filled

-- an iterator that shows the list that it has left gives that list
AlwaysYields-of_first : {S : Type 0} (rest : S → List ℕ) (left : List ℕ) (s : S) → rest s ≡ left → AlwaysYields (YieldsFirst rest) (λ e. e) s left
AlwaysYields-of_first rest [] s shown = λ x j step. cc
AlwaysYields-of_first rest (end ∷ left) s shown = ((λ j step. let none = step.0 in cc), (λ x j step. (cc, AlwaysYields-of_first rest left j (cc))))

-- it gives run ends where the list has an end for each run that does not fall to the last row
pub AreRunEnds-of_first : {S : Type 0} (rest : S → List ℕ) (s : S) (runs count : ℕ) (ends : List ℕ) → rest s ≡ ends → length ends ≡ runs → IsNonDecreasing ends → last_end ends ≡ count
    → AreRunEnds (YieldsFirst rest) s runs count ends
AreRunEnds-of_first rest s runs count ends shown paired ordered last = record {
  yields = AlwaysYields-of_first rest ends s shown;
  paired = paired;
  ordered = ordered;
  last = last;
}
