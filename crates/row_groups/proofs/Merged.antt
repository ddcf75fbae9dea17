-- Ends of two kinds, merged up to a place.
use Rattle.std.proofs.Common.{◌≡◌, ◌∙◌, ◌+◌, ◌-◌, ◌<◌, ◌≤◌, ◌++◌, ℕ, List, [], ◌∷◌, ap, arith, get_or, inl, inr, length, min, refl, slice_index, subst, sym}
use Rattle.std.specs.Prelude.{◌⊎◌, All, Contains}
use Rattle.std.specs.List.Sorted.{IsStrictlyIncreasing}
use Rattle.std.proofs.lemmas.Bool.{cases_lt}
use Rattle.std.proofs.lemmas.List.{get_or_append_left, get_or_default, get_or_push, length_push}
use Rattle.std.proofs.lemmas.List.Elements.{All-nil, All-push, Contains-append_left, Contains-append_right}
use Rattle.std.proofs.lemmas.List.Kept.{AllPairs-from_increasing}
use Rattle.runend_windows.specs.Window.{IsWindow, last_end, run_at}
use Rattle.runend_windows.proofs.RunAt.{run_at-le}
use Rattle.runend_pairs.proofs.WalkedGroups.{le-last_end, run_next, run_past, run_there}
use Rattle.row_groups.specs.Groups.{AreCommonEnds, AreEndsOf}
use Rattle.row_groups.proofs.Changes.{end_within}

-- the ends of both up to a row, which is the last of them
pub record AreMergedTo (ends others : List ℕ) (row : ℕ) (made : List ℕ) : Type 0 where
  pub increasing : IsStrictlyIncreasing made
  pub last : last_end made ≡ row
  pub none : length made ≡ 0 → row ≡ 0
  pub filled : All (λ end. 0 < end) made
  pub one_of : All (λ end. Contains ends end ⊎ Contains others end) made
  pub first : (k : ℕ) → k < length ends → slice_index ends k ≤ row → Contains made (slice_index ends k)
  pub second : (k : ℕ) → k < length others → slice_index others k ≤ row → Contains made (slice_index others k)

-- none up to the first row
pub none_merged : (count : ℕ) (ends others : List ℕ) → AreEndsOf count ends → AreEndsOf count others → AreMergedTo ends others 0 []
none_merged count ends others first second = record {
  increasing = λ k within. absurd (omega arith);
  last = refl;
  none = λ h. refl;
  filled = All-nil (λ end. 0 < end);
  one_of = All-nil (λ end. Contains ends end ⊎ Contains others end);
  first = λ k within low. absurd (past ends first k within low);
  second = λ k within low. absurd (past others second k within low);
}
  where
    past : (own : List ℕ) → AreEndsOf count own → (k : ℕ) → k < length own → slice_index own k ≤ 0 → ⊥
    past own whole k within low =
        let begun = whole.filled (omega arith) in
        elim (cases_lt 0 k) [
          | inl later ↦ let up = AllPairs-from_increasing own whole.window.increasing 0 k 0 later within in omega arith
          | inr here ↦ let same : k ≡ 0 = omega arith in let at = ap (slice_index own) same in omega arith
        ]

-- the ends up to the next are those up to a row, and the next
next_end : (own made : List ℕ) (row stop left k : ℕ) → IsStrictlyIncreasing own → left ≡ run_at own row → stop ≤ slice_index own left
    → ((i : ℕ) → i < length own → slice_index own i ≤ row → Contains made (slice_index own i)) → k < length own → slice_index own k ≤ stop → Contains (made ++ stop ∷ []) (slice_index own k)
next_end own made row stop left k up here most before within upto = elim (cases_lt row (slice_index own k)) [
  | inr low ↦ Contains-append_left made (stop ∷ []) (slice_index own k) (before k within low)
  | inl past ↦
      let from = run_at-le own row k within past in
      let least : slice_index own left ≤ slice_index own k = elim (cases_lt left k) [
        | inl later ↦ let order = AllPairs-from_increasing own up left k 0 later within in omega arith
        | inr same ↦ let one : left ≡ k = omega arith in let at = ap (slice_index own) one in omega arith
      ] in
      let is : stop ≡ slice_index own k = omega arith in
      Contains-append_right made (stop ∷ []) (slice_index own k) (0, omega arith, is)
]

pub one_more : (ends others made after : List ℕ) (row stop left right : ℕ) → IsStrictlyIncreasing ends → IsStrictlyIncreasing others → left ≡ run_at ends row → right ≡ run_at others row
    → row < stop → stop ≤ slice_index ends left → stop ≤ slice_index others right → Contains ends stop ⊎ Contains others stop → AreMergedTo ends others row made → after ≡ made ++ stop ∷ []
    → AreMergedTo ends others stop after
one_more ends others made after row stop left right up over here there later low high among merged pushed = subst (AreMergedTo ends others stop) (sym pushed) (record {
  increasing = λ k within.
      let long = length_push made stop in
      elim (cases_lt (k + 1) (length made)) [
        | inl inside ↦
            let a = get_or_append_left made (stop ∷ []) 0 k (omega arith) in
            let b = get_or_append_left made (stop ∷ []) 0 (k + 1) inside in
            let order = merged.increasing k inside in
            omega arith
        | inr last ↦
            let end : k + 1 ≡ length made = omega arith in
            let a = get_or_append_left made (stop ∷ []) 0 k (omega arith) in
            let b : slice_index (made ++ stop ∷ []) (k + 1) ≡ stop = get_or_push made stop 0 (k + 1) (sym end) in
            let most = le-last_end made k merged.increasing (omega arith) in
            let reached = merged.last in
            omega arith
      ];
  last =
      let long = length_push made stop in
      let end : length (made ++ stop ∷ []) - 1 ≡ length made = omega arith in
      get_or_push made stop 0 (length (made ++ stop ∷ []) - 1) (sym end);
  none = λ h. let long = length_push made stop in absurd (omega arith);
  filled = All-push (λ end. 0 < end) made stop merged.filled (omega arith);
  one_of = All-push (λ end. Contains ends end ⊎ Contains others end) made stop merged.one_of among;
  first = λ k within upto. next_end ends made row stop left k up here low merged.first within upto;
  second = λ k within upto. next_end others made row stop right k over there high merged.second within upto;
})

-- all of them are the ends of both
pub all_merged : (count row : ℕ) (ends others made : List ℕ) → AreEndsOf count ends → AreEndsOf count others → row ≡ count → AreMergedTo ends others row made → AreCommonEnds ends others count made
all_merged count row ends others made first second all merged =
    let stop : last_end made ≡ count = merged.last ∙ all in
    record {
      whole = record {
        window = record {
          increasing = merged.increasing;
          none = λ h. (refl, sym all ∙ merged.none h);
          first = λ h. omega arith;
          last = λ h. omega arith;
          small = first.window.small;
        };
        stop = stop;
        filled = λ h. merged.filled 0 0 h;
      };
      one_of = merged.one_of;
      first = λ k d within. contained ends made k d within (merged.first k within (let most = end_within count ends k first within in omega arith));
      second = λ k d within. contained others made k d within (merged.second k within (let most = end_within count others k second within in omega arith));
    }
  where
    contained : (own all : List ℕ) (k d : ℕ) → k < length own → Contains all (slice_index own k) → Contains all (get_or own k d)
    contained own all k d within has = subst (Contains all) (get_or_default own k 0 d within) has

-- the next end is one of either
one_of_both : (ends others : List ℕ) (left right stop left_stop right_stop : ℕ) → left < length ends → right < length others → slice_index ends left ≡ left_stop → slice_index others right ≡ right_stop → stop ≡ min left_stop right_stop
    → Contains ends stop ⊎ Contains others stop
one_of_both ends others left right stop left_stop right_stop low high here there least = elim (cases_lt right_stop left_stop) [
  | inl second ↦
      let is : stop ≡ right_stop = omega (arith, least, second) in
      inr (right, high, get_or_default others right stop 0 high ∙ there ∙ sym is)
  | inr first ↦
      let is : stop ≡ left_stop = omega (arith, least, first) in
      inl (left, low, get_or_default ends left stop 0 low ∙ here ∙ sym is)
]

-- one end more, and the runs after it
pub record IsMergedStep (ends others : List ℕ) (count row stop next_left next_right : ℕ) (after : List ℕ) : Type 0 where
  pub later : row < stop
  pub within : stop ≤ count
  pub here : next_left ≡ run_at ends stop
  pub there : next_right ≡ run_at others stop
  pub merged : AreMergedTo ends others stop after

module _ (count : ℕ) (ends others : List ℕ) (first : AreEndsOf count ends) (second : AreEndsOf count others) (row left right : ℕ) (more : row < count) (here : left ≡ run_at ends row) (there : right ≡ run_at others row) where
  whole_window : (own : List ℕ) → AreEndsOf count own → IsWindow own 0 (last_end own)
  whole_window own whole = subst (IsWindow own 0) (sym whole.stop) whole.window

  pub left_there : left < length ends
  left_there = run_there ends row left (whole_window ends first) (omega (arith, more, first.stop)) here

  pub right_there : right < length others
  right_there = run_there others row right (whole_window others second) (omega (arith, more, second.stop)) there

  pub merged_step : (made after : List ℕ) (stop left_stop right_stop next_left next_right : ℕ) → slice_index ends left ≡ left_stop → slice_index others right ≡ right_stop → stop ≡ min left_stop right_stop
      → (left_stop ≡ stop → next_left ≡ left + 1) → ((left_stop ≡ stop → ⊥) → next_left ≡ left) → (right_stop ≡ stop → next_right ≡ right + 1) → ((right_stop ≡ stop → ⊥) → next_right ≡ right)
      → AreMergedTo ends others row made → after ≡ made ++ stop ∷ [] → IsMergedStep ends others count row stop next_left next_right after
  merged_step made after stop left_stop right_stop next_left next_right left_at right_at least left_ended left_going right_ended right_going merged pushed =
      let left_window = whole_window ends first in
      let right_window = whole_window others second in
      let left_more : row < last_end ends = omega (arith, more, first.stop) in
      let right_more : row < last_end others = omega (arith, more, second.stop) in
      let left_past = run_past ends row left left_window left_more here in
      let right_past = run_past others row right right_window right_more there in
      let later : row < stop = omega (arith, left_past, right_past, left_at, right_at, least) in
      let low : stop ≤ slice_index ends left = omega (arith, left_at, least) in
      let high : stop ≤ slice_index others right = omega (arith, right_at, least) in
      let most = end_within count ends left first left_there in
      record {
        later = later;
        within = omega (arith, low, most);
        here = run_next ends row left left_window left_more here next_left stop later low (λ e. left_ended (sym left_at ∙ e)) (λ n. left_going (λ e. n (left_at ∙ e)));
        there = run_next others row right right_window right_more there next_right stop later high (λ e. right_ended (sym right_at ∙ e)) (λ n. right_going (λ e. n (right_at ∙ e)));
        merged = one_more ends others made after row stop left right first.window.increasing second.window.increasing here there later low high
            (one_of_both ends others left right stop left_stop right_stop left_there right_there left_at right_at least) merged pushed;
      }
