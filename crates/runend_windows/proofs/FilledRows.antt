-- The rows that a decoder has so far, in bits that start alike: the runs of the other bit are filled, a word of 64 runs at a time.
use Rattle.std.proofs.Common.{◌≡◌, ℕ, zero, suc, ◌+◌, ◌-◌, ◌*◌, ◌/◌, ◌%◌, ◌<◌, ◌≤◌, ◌∙◌, List, [], ◌∷◌, ◌++◌, Bool, true, false, not, Some, cond, eqb, length, min, replicate, slice_index, take, drop, refl, sym, ap, arith, get_or, bit_and, inl, inr}
use Rattle.std.specs.Int.{bit_at}
use Rattle.std.specs.List.{slice_get}
use Rattle.std.specs.List.Sorted.{IsStrictlyIncreasing}
use Rattle.std.proofs.lemmas.Bool.{cases_lt, ne_eqb}
use Rattle.std.proofs.lemmas.List.{length-replicate}
use Rattle.std.proofs.lemmas.List.Kept.{AllPairs-from_increasing}
use Rattle.std.proofs.lemmas.Option.{slice_get-get_or}
use Rattle.std.proofs.lemmas.Nat.Bits.{bit_at_and}
use Rattle.column_base.specs.Words.{Packs, one_if}
use Rattle.column_base.proofs.WordDigits.{digit_in_word}
use Rattle.column_core.specs.Optionals.{optionals}
use Rattle.runend_windows.specs.Cover.{Covers}
use Rattle.runend_windows.specs.Encoding.{blanked}
use Rattle.runend_windows.specs.Window.{run_at, IsWindow}
use Rattle.runend_windows.proofs.Decoded.{reached}
use Rattle.runend_windows.proofs.Lists.{slice_get-append, slice_get-replicate}
use Rattle.runend_windows.proofs.RunAt.{run_at_is, run_of_row_within, ended_before, ends_past}

-- a list of which a range is filled: inside the range
pub filled_inside : {A : Type 0} (old : List A) (start stop i : ℕ) (b : A) → stop ≤ length old → start ≤ i → i < stop
    → slice_get (take start old ++ (replicate (stop - start) b ++ drop stop old)) i ≡ Some b
filled_inside old zero stop i b within low high =
    let all : stop - 0 ≡ stop = omega arith in
    let long = length-replicate stop b in
    rw all (slice_get-append (replicate stop b) (drop stop old) i (omega arith) ∙ slice_get-replicate stop i b high)
filled_inside [] (suc start) stop i b within low high = absurd (omega arith)
filled_inside (x ∷ old) (suc start) zero i b within low high = absurd (omega arith)
filled_inside (x ∷ old) (suc start) (suc stop) zero b within low high = absurd (omega arith)
filled_inside (x ∷ old) (suc start) (suc stop) (suc i) b within low high =
    let less : suc stop - suc start ≡ stop - start = omega arith in
    rw less (filled_inside old start stop i b (omega arith) (omega arith) (omega arith))

-- after copies that are written over the front
past_copies : {A : Type 0} (old : List A) (stop i : ℕ) (b : A) → stop ≤ length old → stop ≤ i → slice_get (replicate stop b ++ drop stop old) i ≡ slice_get old i
past_copies old zero i b within h = refl
past_copies [] (suc stop) i b within h = absurd (omega arith)
past_copies (x ∷ old) (suc stop) zero b within h = absurd (omega arith)
past_copies (x ∷ old) (suc stop) (suc i) b within h = past_copies old stop i b (omega arith) (omega arith)

-- and outside of the range
pub filled_outside : {A : Type 0} (old : List A) (start stop i : ℕ) (b : A) → start ≤ stop → stop ≤ length old → (start ≤ i → stop ≤ i)
    → slice_get (take start old ++ (replicate (stop - start) b ++ drop stop old)) i ≡ slice_get old i
filled_outside old zero stop i b ordered within out =
    let all : stop - 0 ≡ stop = omega arith in
    let past = out (omega arith) in
    rw all (past_copies old stop i b within past)
filled_outside [] (suc start) stop i b ordered within out = absurd (omega arith)
filled_outside (x ∷ old) (suc start) zero i b ordered within out = absurd (omega arith)
filled_outside (x ∷ old) (suc start) (suc stop) zero b ordered within out = refl
filled_outside (x ∷ old) (suc start) (suc stop) (suc i) b ordered within out =
    let less : suc stop - suc start ≡ stop - start = omega arith in
    rw less (filled_outside old start stop i b (omega arith) (omega arith) (λ h. let past = out (omega arith) in omega arith))

-- where a run starts is what the runs before it reach
pub start-reached : (ends : List ℕ) (offset count run : ℕ) → cond {A = ℕ} (eqb run 0) 0 (min (slice_index ends (run - 1) - offset) count) ≡ reached ends offset count run
start-reached ends offset count zero = refl
start-reached ends offset count (suc run) =
    let last : suc run - 1 ≡ run = omega arith in
    rw (last, ne_eqb (suc run) 0 (omega arith)) refl

-- each run before it ends at or before a row that they do not reach
ended_all : (ends : List ℕ) (offset count run i k : ℕ) → IsStrictlyIncreasing ends → run < length ends → i < count → reached ends offset count run ≤ i → k < run
    → slice_index ends k ≤ offset + i
ended_all ends offset count zero i k increasing within small low h = absurd (omega arith)
ended_all ends offset count (suc run) i k increasing within small low h = elim (cases_lt k run) [
  | inl below ↦ let order = AllPairs-from_increasing ends increasing k run 0 below (omega arith) in omega arith
  | inr from ↦
      let last : k ≡ run = omega arith in
      let same = ap (slice_index ends) last in
      omega arith
]

-- a row between where the run starts and where it stops is in the run
pub run_of_row : (ends : List ℕ) (offset count run i : ℕ) → IsWindow ends offset count → run < length ends → i < count → reached ends offset count run ≤ i
    → i < min (slice_index ends run - offset) count → run_at ends (offset + i) ≡ run
run_of_row ends offset count run i window within small low high =
    run_at_is ends (offset + i) run (omega arith) (λ k h. ended_all ends offset count run i k window.increasing within small low h) (λ _. omega arith)

-- and a row of the run is between them
pub row_from : (ends : List ℕ) (offset count run i : ℕ) → i < count → run_at ends (offset + i) ≡ run → reached ends offset count run ≤ i
row_from ends offset count zero i small at = omega arith
row_from ends offset count (suc run) i small at = let ended = ended_before ends (offset + i) run (omega arith) in omega arith

pub row_below : (ends : List ℕ) (offset count run i : ℕ) → run < length ends → i < count → run_at ends (offset + i) ≡ run → i < min (slice_index ends run - offset) count
row_below ends offset count run i within small at =
    let past = ends_past ends (offset + i) (omega arith) in
    let same = ap (slice_index ends) at in
    omega arith

-- a bit of the word at `k`, by the list that the words hold
pub digit_of : (words : List ℕ) (bits : List Bool) (k j : ℕ) → Packs words bits → j < 64 → bit_at (get_or words k 0) j ≡ one_if (get_or bits (k * 64 + j) false)
digit_of words bits k j packs small =
    let word : (k * 64 + j) / 64 ≡ k = omega arith in
    let place : (k * 64 + j) % 64 ≡ j = omega arith in
    sym (digit_in_word words k (k * 64 + j) word ∙ ap (bit_at (get_or words k 0)) place) ∙ packs.digit (k * 64 + j)

-- a boolean under a mark is 1 where both are
one_if_both : (values marks : List Bool) (i : ℕ) → length marks ≡ length values
    → one_if (get_or (blanked false (optionals values marks)) i false) ≡ min (one_if (get_or values i false)) (one_if (get_or marks i false))
one_if_both [] [] i paired = refl
one_if_both [] (b ∷ marks) i paired = cc
one_if_both (x ∷ values) [] i paired = cc
one_if_both (true ∷ values) (true ∷ marks) zero paired = refl
one_if_both (true ∷ values) (false ∷ marks) zero paired = refl
one_if_both (false ∷ values) (true ∷ marks) zero paired = refl
one_if_both (false ∷ values) (false ∷ marks) zero paired = refl
one_if_both (x ∷ values) (b ∷ marks) (suc i) paired = one_if_both values marks i (omega arith)

pub digit_of_marked : (words marked : List ℕ) (values marks : List Bool) (k j : ℕ) → Packs words values → Packs marked marks → length marks ≡ length values → j < 64
    → bit_at (bit_and (get_or words k 0) (get_or marked k 0)) j ≡ one_if (get_or (blanked false (optionals values marks)) (k * 64 + j) false)
digit_of_marked words marked values marks k j packs packs' paired small =
    bit_at_and (get_or words k 0) (get_or marked k 0) j
    ∙ omega (arith, digit_of words values k j packs small, digit_of marked marks k j packs' small, one_if_both values marks (k * 64 + j) paired)

-- the rows of the runs in the first k words, and the bit that all rows start as in the others
pub record Filled (ends : List ℕ) (values : List Bool) (offset count k : ℕ) (start : Bool) (rows : List Bool) : Type 0 where
  pub counted : length rows ≡ count
  pub before : (i : ℕ) → i < count → run_at ends (offset + i) < k * 64 → slice_get rows i ≡ slice_get values (run_at ends (offset + i))
  pub behind : (i : ℕ) → i < count → k * 64 ≤ run_at ends (offset + i) → slice_get rows i ≡ Some start

-- before the first word each row is as it starts
pub Filled-none : (ends : List ℕ) (values : List Bool) (offset count : ℕ) (start : Bool) → Filled ends values offset count 0 start (replicate count start)
Filled-none ends values offset count start = record {
  counted = length-replicate count start;
  before = λ i small h. absurd (omega arith);
  behind = λ i small h. slice_get-replicate count i start small;
}

-- what a word more fills
pub record FilledBy (ends : List ℕ) (offset count first : ℕ) (runs : ℕ) (bit : Bool) (old new : List Bool) : Type 0 where
  pub len : length new ≡ count
  pub put : (i : ℕ) → i < count → (j : ℕ) → run_at ends (offset + i) ≡ first + j → bit_at runs j ≡ 1 → slice_get new i ≡ Some bit
  pub kept : (i : ℕ) → i < count → (j : ℕ) → run_at ends (offset + i) ≡ first + j → bit_at runs j ≡ 0 → slice_get new i ≡ slice_get old i
  pub before : (i : ℕ) → i < count → run_at ends (offset + i) < first → slice_get new i ≡ slice_get old i
  pub behind : (i : ℕ) → i < count → first + 64 ≤ run_at ends (offset + i) → slice_get new i ≡ slice_get old i

-- the row of a run whose bit is known
filled_row : (ends : List ℕ) (offset count first runs : ℕ) (start bit : Bool) (old new : List Bool) (i j w : ℕ) → FilledBy ends offset count first runs (not start) old new → i < count
    → run_at ends (offset + i) ≡ first + j → bit_at runs j ≡ cond start (1 - w) w → w ≡ one_if bit → slice_get old i ≡ Some start → slice_get new i ≡ Some bit
filled_row ends offset count first runs true true old new i j w fills small at unlike is here = fills.kept i small j at (omega arith) ∙ here
filled_row ends offset count first runs true false old new i j w fills small at unlike is here = fills.put i small j at (omega arith)
filled_row ends offset count first runs false true old new i j w fills small at unlike is here = fills.put i small j at (omega arith)
filled_row ends offset count first runs false false old new i j w fills small at unlike is here = fills.kept i small j at (omega arith) ∙ here

-- and so the rows of one word more are there
pub Filled-next : (ends : List ℕ) (values : List Bool) (offset count k word runs : ℕ) (start : Bool) (old new : List Bool) → IsWindow ends offset count → length values ≡ length ends
    → ((j : ℕ) → j < 64 → bit_at word j ≡ one_if (get_or values (k * 64 + j) false))
    → ((j : ℕ) → j < 64 → bit_at runs j ≡ cond start (1 - bit_at word j) (bit_at word j))
    → FilledBy ends offset count (k * 64) runs (not start) old new
    → Filled ends values offset count k start old → Filled ends values offset count (k + 1) start new
Filled-next ends values offset count k word runs start old new window paired digits unlike fills filled = record {
  counted = fills.len;
  before = λ i small h. elim (cases_lt (run_at ends (offset + i)) (k * 64)) [
    | inl below ↦ fills.before i small below ∙ filled.before i small below
    | inr from ↦
        let run = run_at ends (offset + i) in
        let j = run - k * 64 in
        let at : run ≡ k * 64 + j = omega arith in
        let within : run < length ends = run_of_row_within ends offset count i window small in
        let bit = get_or values run false in
        let digit : bit_at word j ≡ one_if bit = digits j (omega arith) ∙ ap (λ n. one_if (get_or values n false)) (sym at) in
        filled_row ends offset count (k * 64) runs start bit old new i j (bit_at word j) fills small at (unlike j (omega arith)) digit (filled.behind i small from)
        ∙ sym (slice_get-get_or values run false (omega arith))
  ];
  behind = λ i small h. fills.behind i small (omega arith) ∙ filled.behind i small (omega arith);
}

-- past the last word the rows are covered
pub Filled-all : (ends : List ℕ) (values : List Bool) (offset count k : ℕ) (start : Bool) (rows : List Bool) → IsWindow ends offset count → length values ≡ length ends
    → length values ≤ k * 64 → Filled ends values offset count k start rows → Covers rows ends values offset count
Filled-all ends values offset count k start rows window paired all filled = record {
  window = window;
  paired = paired;
  counted = filled.counted;
  each = λ i h. let within = run_of_row_within ends offset count i window h in filled.before i h (omega arith);
}
