-- Ends of runs are the places at which their items change.
use Rattle.std.proofs.Common.{◌≡◌, ◌∙◌, ◌+◌, ◌-◌, ◌<◌, ◌≤◌, ℕ, zero, suc, List, [], ◌∷◌, Some, add-zero, ap, arith, get_or, inl, inr, length, map, refl, slice_index, subst, sym, zero-add}
use Rattle.std.specs.Prelude.{All, slice_get}
use Rattle.std.specs.List.{range_with_len}
use Rattle.std.specs.List.Sorted.{IsStrictlyIncreasing}
use Rattle.std.proofs.lemmas.Bool.{cases_lt}
use Rattle.std.proofs.lemmas.List.{get_or-map, get_or_default, length-map}
use Rattle.std.proofs.lemmas.List.FromFn.{get_or-map-range_with_len, length-map-range_with_len}
use Rattle.std.proofs.lemmas.List.Kept.{AllPairs-from_increasing}
use Rattle.std.proofs.lemmas.Option.{slice_get-get_or}
use Rattle.runend_windows.specs.Cover.{IsTightCover}
use Rattle.runend_windows.specs.Starts.{starts_from}
use Rattle.runend_windows.specs.Window.{IsWindow, run_at}
use Rattle.runend_windows.proofs.RunAt.{ended_before, ends_past, run_at-le, run_at-le-run_at, run_at_is, run_of_row_within}
use Rattle.runend_windows.proofs.Tiles.{neighbours_of_tight_cover}
use Rattle.runend_pairs.proofs.WalkedGroups.{le-last_end}
use Rattle.row_groups.specs.Groups.{AreCommonEnds, AreEndsOf}

-- an item is not the one before it where a run ends, and is at all other places
pub record AreChanges {B : Type 0} (item : ℕ → B) (count : ℕ) (ends : List ℕ) : Type 0 where
  pub whole : AreEndsOf count ends
  pub change : (run : ℕ) → run < length ends → slice_index ends run < count → item (slice_index ends run - 1) ≡ item (slice_index ends run) → ⊥
  pub stay : (k : ℕ) → 0 < k → k < count → ((run : ℕ) → run < length ends → slice_index ends run ≡ k → ⊥) → item (k - 1) ≡ item k

pub ascend : (ends : List ℕ) (i j : ℕ) → IsStrictlyIncreasing ends → i < j → j < length ends → slice_index ends i < slice_index ends j
ascend ends i j up before within = AllPairs-from_increasing ends up i j 0 before within

-- no end is past the number of items
pub end_within : (count : ℕ) (ends : List ℕ) (run : ℕ) → AreEndsOf count ends → run < length ends → slice_index ends run ≤ count
end_within count ends run whole within = let most = le-last_end ends run whole.window.increasing within in omega (arith, most, whole.stop)

-- a run begins where those before it have ended
pub ended : (ends : List ℕ) (run other : ℕ) → IsStrictlyIncreasing ends → run < length ends → other < run → slice_index ends other ≤ slice_index (0 ∷ ends) run
ended ends zero other up within before = absurd (omega arith)
ended ends (suc run) other up within before = elim (cases_lt other run) [
  | inl earlier ↦ let order = ascend ends other run up earlier (omega arith) in omega arith
  | inr last ↦ let same : other ≡ run = omega arith in rw same (omega arith)
]

-- and ends later
pub begins_before : (count : ℕ) (ends : List ℕ) (run : ℕ) → AreEndsOf count ends → run < length ends → slice_index (0 ∷ ends) run < slice_index ends run
begins_before count ends zero whole within = whole.filled within
begins_before count ends (suc run) whole within = ascend ends run (suc run) whole.window.increasing (omega arith) within

-- so no end lies within a run
none_within : (ends : List ℕ) (run place other : ℕ) → IsStrictlyIncreasing ends → run < length ends → slice_index (0 ∷ ends) run < place → place < slice_index ends run → other < length ends → slice_index ends other ≡ place → ⊥
none_within ends run place other up within after before there is = elim (cases_lt other run) [
  | inl earlier ↦ let low = ended ends run other up within earlier in omega arith
  | inr from ↦ elim (cases_lt run other) [
    | inl later ↦ let high = ascend ends run other up later there in omega arith
    | inr here ↦ let same : other ≡ run = omega arith in let own = ap (slice_index ends) same in omega arith
  ]
]

-- the place at which a run begins is not past those in it
first_before : (ends : List ℕ) (position run : ℕ) → run ≡ run_at ends position → slice_index (0 ∷ ends) run ≤ position
first_before ends position zero is = omega arith
first_before ends position (suc run) is = ended_before ends position run (omega arith)

-- each run but the first begins where the one before it ends
pub start_past : (ends : List ℕ) (run : ℕ) → (run ≡ 0 → ⊥) → slice_index (0 ∷ ends) run ≡ slice_index ends (run - 1)
start_past ends zero later = absurd (later refl)
start_past ends (suc run) later = let before : suc run - 1 ≡ run = omega arith in ap (slice_index ends) (sym before)

-- the places at which runs begin
pub start_at : (start : ℕ) (ends : List ℕ) (run d : ℕ) → run < length ends → get_or (starts_from start ends) run d ≡ slice_index (start ∷ ends) run
start_at start [] run d within = absurd (omega arith)
start_at start (end ∷ ends) zero d within = refl
start_at start (end ∷ ends) (suc run) d within = start_at end ends run d (omega arith)

pub length-starts : (start : ℕ) (ends : List ℕ) → length (starts_from start ends) ≡ length ends
length-starts start [] = refl
length-starts start (end ∷ ends) = ap suc (length-starts end ends)

-- each begins at one of the items
pub starts_within : (count : ℕ) (ends : List ℕ) → AreEndsOf count ends → All (λ start. start < count) (starts_from 0 ends)
starts_within count ends whole k d inside =
    let long = length-starts 0 ends in
    let within : k < length ends = omega (arith, inside, long) in
    let at = start_at 0 ends k d within in
    let begun = begins_before count ends k whole within in
    let most = end_within count ends k whole within in
    omega (arith, at, begun, most)

module _ {B : Type 0} (item : ℕ → B) (count : ℕ) (ends : List ℕ) (changes : AreChanges item count ends) where
  -- items of one run are one
  pub steady : (run n : ℕ) → run < length ends → slice_index (0 ∷ ends) run + n < slice_index ends run → item (slice_index (0 ∷ ends) run) ≡ item (slice_index (0 ∷ ends) run + n)
  steady run zero within before = ap item (sym (add-zero (slice_index (0 ∷ ends) run)))
  steady run (suc n) within before =
      let first = slice_index (0 ∷ ends) run in
      let place = first + suc n in
      let short = end_within count ends run changes.whole within in
      let last : place - 1 ≡ first + n = omega arith in
      steady run n within (omega arith)
      ∙ ap item (sym last)
      ∙ changes.stay place (omega arith) (omega arith) (λ other there is. none_within ends run place other changes.whole.window.increasing within (omega arith) before there is)

  pub steady_to : (run place : ℕ) → run < length ends → slice_index (0 ∷ ends) run ≤ place → place < slice_index ends run → item (slice_index (0 ∷ ends) run) ≡ item place
  steady_to run place within from before =
      let first = slice_index (0 ∷ ends) run in
      let whole : first + (place - first) ≡ place = omega arith in
      steady run (place - first) within (omega arith) ∙ ap item whole

  value_at : (run : ℕ) (d : B) → run < length ends → get_or (map item (starts_from 0 ends)) run d ≡ item (slice_index (0 ∷ ends) run)
  value_at run d within =
      let long = length-starts 0 ends in
      get_or-map item (starts_from 0 ends) run 0 d (omega arith) ∙ ap item (start_at 0 ends run 0 within)

  -- runs that end where items change are the tight cover of the items
  pub tight_cover : IsTightCover (map item (range_with_len 0 count)) ends (map item (starts_from 0 ends))
  tight_cover =
      let rows = map item (range_with_len 0 count) in
      let values = map item (starts_from 0 ends) in
      let whole = changes.whole in
      let long : length rows ≡ count = length-map-range_with_len item 0 count in
      let paired : length values ≡ length ends = length-map (starts_from 0 ends) item ∙ length-starts 0 ends in
      record {
        covers = record {
          window = subst (IsWindow ends 0) (sym long) whole.window;
          paired = paired;
          counted = refl;
          each = λ i within.
              let inside : i < count = omega arith in
              let run = run_at ends i in
              let at : run_at ends (0 + i) ≡ run = ap (run_at ends) (zero-add i) in
              let there : run < length ends = let own = run_of_row_within ends 0 count i whole.window inside in omega arith in
              let past = ends_past ends i there in
              slice_get-get_or rows i (item i) within
              ∙ ap Some (get_or-map-range_with_len item 0 count i i (item i) inside (zero-add i)
              ∙ sym (steady_to run i there (first_before ends i run refl) past)
              ∙ sym (value_at run (item i) there))
              ∙ sym (ap (slice_get values) at ∙ slice_get-get_or values run (item i) (omega arith));
        };
        exact = record { start = refl; stop = whole.stop ∙ sym long };
        tight = record {
          filled = whole.filled;
          differ = λ k d next same.
              let first = slice_index (0 ∷ ends) k in
              let end = slice_index ends k in
              let here : k < length ends = omega arith in
              let later : k + 1 < length ends = omega arith in
              let more = ascend ends k (k + 1) whole.window.increasing (omega arith) later in
              let most = end_within count ends (k + 1) whole later in
              let begun = begins_before count ends k whole here in
              let left = value_at k d here in
              let right : get_or values (k + 1) d ≡ item end = value_at (k + 1) d later ∙ ap item (next_begins ends k) in
              let held = steady_to k (end - 1) here (omega arith) (omega arith) in
              changes.change k here (omega arith) (sym held ∙ sym left ∙ same ∙ right);
        };
      }
    where
      next_begins : (ends : List ℕ) (k : ℕ) → slice_index (0 ∷ ends) (k + 1) ≡ slice_index ends k
      next_begins ends k = let next : k + 1 ≡ suc k = omega arith in rw next refl

module _ {B : Type 0} (item : ℕ → B) (rows : List B) (ends : List ℕ) (values : List B) (shown : (k : ℕ) → k < length rows → slice_get rows k ≡ Some (item k)) (cover : IsTightCover rows ends values) where
  pub whole_ends : AreEndsOf (length rows) ends
  whole_ends = record { window = cover.covers.window; stop = cover.exact.stop; filled = cover.tight.filled }

  value_shown : (k run : ℕ) → k < length rows → run_at ends k ≡ run → slice_get values run ≡ Some (item k)
  value_shown k run within is = sym (cover.covers.each k within ∙ ap (slice_get values) (ap (run_at ends) (zero-add k) ∙ is)) ∙ shown k within

  -- items change where the runs of their tight cover end
  pub changes_of_cover : AreChanges item (length rows) ends
  changes_of_cover = record {
    whole = whole_ends;
    change = λ run there inside same.
        let up = cover.covers.window.increasing in
        let k = slice_index ends run in
        let begun = begins_before (length rows) ends run whole_ends there in
        let left : run_at ends (k - 1) ≡ run = run_at_is ends (k - 1) run (omega arith) (λ j h. let order = ascend ends j run up h there in omega arith) (λ _. omega arith) in
        let more : run + 1 < length ends = not_last run there inside in
        let right : run_at ends k ≡ run + 1 = run_at_is ends k (run + 1) (omega arith) (λ j h. elim (cases_lt j run) [
          | inl earlier ↦ let order = ascend ends j run up earlier there in omega arith
          | inr last ↦ let one : j ≡ run = omega arith in let own = ap (slice_index ends) one in omega arith
        ]) (λ _. ascend ends run (run + 1) up (omega arith) more) in
        neighbours_of_tight_cover rows ends values run (item (k - 1)) (item k) cover (value_shown (k - 1) run (omega arith) left) (value_shown k (run + 1) inside right) same;
    stay = λ k some inside none.
        let run = run_at ends (k - 1) in
        let there : run < length ends = let own = run_of_row_within ends 0 (length rows) (k - 1) cover.covers.window (omega arith) in let at = ap (run_at ends) (zero-add (k - 1)) in omega arith in
        let past = ends_past ends (k - 1) there in
        let other = none run there in
        let beyond : k < slice_index ends run = not_at (slice_index ends run) k past other in
        let most = run_at-le ends k run there beyond in
        let least = run_at-le-run_at ends (k - 1) k (omega arith) in
        let here : run_at ends k ≡ run = omega arith in
        let one = value_shown (k - 1) run (omega arith) refl in
        let two = value_shown k run inside here in
        let both : Some (item (k - 1)) ≡ Some (item k) = sym one ∙ two in
        cc;
  }
    where
      not_last : (run : ℕ) → run < length ends → slice_index ends run < length rows → run + 1 < length ends
      not_last run there inside = elim (cases_lt (run + 1) (length ends)) [
        | inl more ↦ more
        | inr last ↦
            let same : run ≡ length ends - 1 = omega arith in
            let stop : slice_index ends run ≡ length rows = ap (slice_index ends) same ∙ cover.exact.stop in
            absurd (omega arith)
      ]

      not_at : (end k : ℕ) → k - 1 < end → (end ≡ k → ⊥) → k < end
      not_at end k past other = elim (cases_lt k end) [
        | inl before ↦ before
        | inr from ↦ absurd (other (omega arith))
      ]

-- where either of two items changes, both together do
pub common_changes : {B C D : Type 0} (f : ℕ → B) (g : ℕ → C) (both : ℕ → D) (count : ℕ) (ends others made : List ℕ) → ((i j : ℕ) → both i ≡ both j → (f i ≡ f j) × (g i ≡ g j))
    → ((i j : ℕ) → f i ≡ f j → g i ≡ g j → both i ≡ both j) → AreChanges f count ends → AreChanges g count others → AreCommonEnds ends others count made → AreChanges both count made
common_changes f g both count ends others made split join first second common = record {
  whole = common.whole;
  change = λ run there inside same.
      let k = slice_index made run in
      let parts = split (k - 1) k same in
      elim (common.one_of run 0 there) [
        | inl has ↦
            let at : slice_index ends has.0 ≡ k = get_or_default ends has.0 0 k has.1 ∙ has.2 in
            first.change has.0 has.1 (omega arith) (subst (λ (n : ℕ). f (n - 1) ≡ f n) (sym at) parts.0)
        | inr has ↦
            let at : slice_index others has.0 ≡ k = get_or_default others has.0 0 k has.1 ∙ has.2 in
            second.change has.0 has.1 (omega arith) (subst (λ (n : ℕ). g (n - 1) ≡ g n) (sym at) parts.1)
      ];
  stay = λ k some inside none.
      join (k - 1) k
      (first.stay k some inside (λ run there is.
      let has = common.first run 0 there in
      none has.0 has.1 (get_or_default made has.0 0 (slice_index ends run) has.1 ∙ has.2 ∙ is)))
      (second.stay k some inside (λ run there is.
      let has = common.second run 0 there in
      none has.0 has.1 (get_or_default made has.0 0 (slice_index others run) has.1 ∙ has.2 ∙ is)));
}
