-- The runs of a mask, as they are made and as they are walked along.
use Rattle.std.proofs.Common.{◌≡◌, ◌≢◌, ◌∙◌, ℕ, ◌+◌, ◌-◌, ◌<◌, ◌≤◌, zero, suc, List, [], ◌∷◌, ◌++◌, Bool, true, false, length, min, slice_index, get_or, take, map, arith, add-one, inl, inr, refl, sym, ap, replicate}
use Rattle.std.specs.Prelude.{Option, None, Some, if◌then◌else◌, slice_get, slice_index_or, slice_range}
use Rattle.std.specs.List.{range_with_len}
use Rattle.std.proofs.lemmas.Bool.{cases_lt}
use Rattle.std.proofs.lemmas.List.{ext_get_or, get_or-map, get_or_append_left, get_or_push, length-map, length-replicate, length_push, take_all}
use Rattle.std.proofs.lemmas.List.FromFn.{get_or-range_with_len, length-range_with_len}
use Rattle.std.proofs.lemmas.Option.{slice_get-get_or}
use Rattle.column_base.proofs.BitLists.{count_by-false, count_by-true}
use Rattle.column_base.proofs.Ranges.{length-slice_range, get_or-slice_range}
use Rattle.column_core.specs.Value.{Value}
use Rattle.runend_windows.specs.Window.{IsWindow, run_at, run_rows}
use Rattle.runend_select.specs.MaskRuns.{AreMaskRuns, before_at, is_true}
use Rattle.runend_select.proofs.FirstBits.{set_bits-few}
use Rattle.runend_select.proofs.Reached.{reached, reached-all, reached-le, run_at-reached}
use Rattle.runend_select.proofs.Selected.{set_bits, set_bits-split}

-- what is written before a run that is not the first
pub before_at-later : (xs : List ℕ) (run : ℕ) → 0 < run → before_at xs run ≡ slice_index xs (run - 1)
before_at-later xs zero later = absurd (omega arith)
before_at-later xs (suc run) later = ap (slice_index xs) (omega arith)

pub before_at-next : (xs : List ℕ) (run : ℕ) → before_at xs (run + 1) ≡ slice_index xs run
before_at-next xs run = rw add-one refl

-- what is written after it is not read
before_at-push : (xs : List ℕ) (x k : ℕ) → k ≤ length xs → before_at (xs ++ x ∷ []) k ≡ before_at xs k
before_at-push xs x zero h = refl
before_at-push xs x (suc k) h = get_or_append_left xs (x ∷ []) 0 k (omega arith)

-- a value that is there
pub read_value : (values : List (Option Value)) (k : ℕ) (value : Option Value) → k < length values → slice_get values k ≡ Some value → slice_index_or values k None ≡ value
read_value values k value within here =
    let read = slice_get-get_or values k None within in
    let same : Some (slice_index_or values k None) ≡ Some value = sym read ∙ here in
    cc

-- where there is a row there is a run
pub some_runs : (stops : List ℕ) (n : ℕ) → before_at stops (length stops) ≡ n → 0 < n → 0 < length stops
some_runs [] n whole some = absurd (omega (arith, whole, some))
some_runs (stop ∷ stops) n whole some = omega arith

-- a run that stops before a place within the rows is not the last
pub next_run : (stops : List ℕ) (run place : ℕ) → run < length stops → place ≤ before_at stops (length stops) → slice_index stops run < place → run + 1 < length stops
next_run stops run place there within past = between (run + 1) (length stops) (omega (arith, there)) (λ last.
    let same : slice_index stops run ≡ before_at stops (length stops) = sym (before_at-next stops run) ∙ ap (before_at stops) last in
    omega (arith, same, within, past))
  where
    between : (m n : ℕ) → m ≤ n → m ≢ n → m < n
    between m n h unlike = omega (arith, unlike)

-- the rows that one run more reaches
pub reached-next : (ends : List ℕ) (offset count run reach : ℕ) → reach ≡ min (slice_index ends run - offset) count → reached ends offset count (run + 1) ≡ reach
reached-next ends offset count run reach is = rw add-one (sym is)

-- copies of a bit
copied_bits : (copies : ℕ) (bit : Bool) → set_bits (replicate copies bit) ≡ (if bit then copies else 0)
copied_bits zero true = refl
copied_bits zero false = refl
copied_bits (suc n) true = omega (arith, count_by-true (replicate n true), copied_bits n true)
copied_bits (suc n) false = omega (arith, count_by-false (replicate n false), copied_bits n false)

get_or-copies : (n i : ℕ) (bit : Bool) → i < n → get_or (replicate n bit) i false ≡ bit
get_or-copies zero i bit h = absurd (omega arith)
get_or-copies (suc n) zero bit h = refl
get_or-copies (suc n) (suc i) bit h = get_or-copies n i bit (omega arith)

-- bits that are all the same
pub same_bits : (bits : List Bool) (start stop : ℕ) (bit : Bool) → start ≤ stop → stop ≤ length bits → ((i : ℕ) → start ≤ i → i < stop → get_or bits i false ≡ bit)
    → set_bits (slice_range bits start stop) ≡ (if bit then stop - start else 0)
same_bits bits start stop bit ordered within each =
    let long = length-slice_range bits start stop ordered within in
    let copies = length-replicate (stop - start) bit in
    let same = ext_get_or false (slice_range bits start stop) (replicate (stop - start) bit) (long ∙ sym copies) (λ i h.
    let inside : i < stop - start = omega (arith, long, h) in
    get_or-slice_range bits start stop i false inside ∙ each (start + i) (omega arith) (omega arith) ∙ sym (get_or-copies (stop - start) i bit inside)) in
    ap set_bits same ∙ copied_bits (stop - start) bit

-- the bits of the rows that runs show
module _ (ends : List ℕ) (values : List (Option Value)) (offset count : ℕ) where
  abbrev pub bits_of : List Bool
  bits_of = map is_true (run_rows ends values offset count)

  pub length-bits : length bits_of ≡ count
  length-bits =
      length-map (run_rows ends values offset count) is_true
      ∙ length-map (range_with_len offset count) (λ (position : ℕ). slice_index_or values (run_at ends position) None) ∙ length-range_with_len offset count

  bit_at : (i : ℕ) → i < count → get_or bits_of i false ≡ is_true (slice_index_or values (run_at ends (offset + i)) None)
  bit_at i h =
      let long = length-map (range_with_len offset count) (λ (position : ℕ). slice_index_or values (run_at ends position) None) in
      let size = length-range_with_len offset count in
      get_or-map is_true (run_rows ends values offset count) i None false (omega (arith, long, size, h))
      ∙ ap is_true (get_or-map (λ (position : ℕ). slice_index_or values (run_at ends position) None) (range_with_len offset count) i 0 None (omega (arith, size, h)))
      ∙ ap (λ (position : ℕ). is_true (slice_index_or values (run_at ends position) None)) (get_or-range_with_len offset count i 0 h)

  -- up to a place of a run
  pub rank_to : (run place : ℕ) → IsWindow ends offset count → run < length ends → reached ends offset count run ≤ place → place ≤ min (slice_index ends run - offset) count
      → set_bits (take place bits_of) ≡ set_bits (take (reached ends offset count run) bits_of) + (if is_true (slice_index_or values run None) then place - reached ends offset count run else 0)
  rank_to run place window within low high =
      let row = reached ends offset count run in
      let split = set_bits-split bits_of row place low in
      let same = same_bits bits_of row place (is_true (slice_index_or values run None)) low (omega (arith, length-bits, high)) (λ i from to.
      bit_at i (omega arith)
      ∙ ap (λ (k : ℕ). is_true (slice_index_or values k None)) (run_at-reached ends offset count run i window.increasing within from (omega arith))) in
      split ∙ ap (λ (n : ℕ). set_bits (take row bits_of) + n) same

-- what follows for the ranks of two runs
rank_same : (bit : Bool) (row stop place rank total : ℕ) → row ≤ place → place ≤ stop → total ≡ rank + (if bit then place - row else 0) → rank + (if bit then stop - row else 0) ≡ rank → total ≡ rank
rank_same true row stop place rank total low high is none = omega arith
rank_same false row stop place rank total low high is none = omega arith

rank_more : (bit : Bool) (row stop place rank total : ℕ) → row ≤ place → place ≤ stop → total ≡ rank + (if bit then place - row else 0) → rank + (if bit then stop - row else 0) ≢ rank
    → total ≡ rank + (place - row)
rank_more true row stop place rank total low high is some = is
rank_more false row stop place rank total low high is some = absurd (some (omega arith))

-- the runs before one are written
pub record AreMaskRunsTo (ends : List ℕ) (values : List (Option Value)) (offset count run row rank : ℕ) (stops ranks : List ℕ) : Type 0 where
  pub row_is : row ≡ reached ends offset count run
  pub rank_is : rank ≡ set_bits (take row (bits_of ends values offset count))
  pub stops_long : length stops ≡ run
  pub ranks_long : length ranks ≡ run
  pub stop_last : before_at stops run ≡ row
  pub rank_last : before_at ranks run ≡ rank
  pub ordered : (k : ℕ) → k < run → before_at stops k ≤ slice_index stops k
  pub same : (k place : ℕ) → k < run → before_at stops k ≤ place → place ≤ slice_index stops k → slice_index ranks k ≡ before_at ranks k
      → set_bits (take place (bits_of ends values offset count)) ≡ before_at ranks k
  pub more : (k place : ℕ) → k < run → before_at stops k ≤ place → place ≤ slice_index stops k → slice_index ranks k ≢ before_at ranks k
      → set_bits (take place (bits_of ends values offset count)) ≡ before_at ranks k + (place - before_at stops k)

pub none_written : (ends : List ℕ) (values : List (Option Value)) (offset count : ℕ) → AreMaskRunsTo ends values offset count 0 0 0 [] []
none_written ends values offset count = record {
  row_is = refl;
  rank_is = refl;
  stops_long = refl;
  ranks_long = refl;
  stop_last = refl;
  rank_last = refl;
  ordered = λ k h. absurd (omega arith);
  same = λ k place h. absurd (omega arith);
  more = λ k place h. absurd (omega arith);
}

module _ (ends : List ℕ) (values : List (Option Value)) (offset count run row rank stop added : ℕ) (stops ranks : List ℕ) (window : IsWindow ends offset count) (within : run < length ends)
    (old : AreMaskRunsTo ends values offset count run row rank stops ranks) (stop_is : stop ≡ min (slice_index ends run - offset) count)
    (added_is : added ≡ (if is_true (slice_index_or values run None) then stop - row else 0)) where
  pub onward : row ≤ stop
  onward = omega (arith, old.row_is, reached-le ends offset count run window.increasing within, stop_is)

  up_to : (place : ℕ) → row ≤ place → place ≤ stop → set_bits (take place (bits_of ends values offset count)) ≡ rank + (if is_true (slice_index_or values run None) then place - row else 0)
  up_to place low high =
      let at = rank_to ends values offset count run place window within (omega (arith, old.row_is, low)) (omega (arith, stop_is, high)) in
      rw (sym old.row_is, sym old.rank_is) at at

  pub rank_next : rank + added ≡ set_bits (take stop (bits_of ends values offset count))
  rank_next = ap (λ (n : ℕ). rank + n) added_is ∙ sym (up_to stop onward (omega arith))

  pub rank_few : rank + added ≤ count
  rank_few = omega (arith, rank_next, set_bits-few (bits_of ends values offset count) stop, stop_is)

  pub one_written : AreMaskRunsTo ends values offset count (run + 1) stop (rank + added) (stops ++ stop ∷ []) (ranks ++ (rank + added) ∷ [])
  one_written =
      let stops_long = old.stops_long in
      let ranks_long = old.ranks_long in
      let stop_at : slice_index (stops ++ stop ∷ []) run ≡ stop = get_or_push stops stop 0 run stops_long in
      let rank_at : slice_index (ranks ++ (rank + added) ∷ []) run ≡ rank + added = get_or_push ranks (rank + added) 0 run ranks_long in
      let stop_before : before_at (stops ++ stop ∷ []) run ≡ row = before_at-push stops stop run (omega (arith, stops_long)) ∙ old.stop_last in
      let rank_before : before_at (ranks ++ (rank + added) ∷ []) run ≡ rank = before_at-push ranks (rank + added) run (omega (arith, ranks_long)) ∙ old.rank_last in
      record {
        row_is = sym (reached-next ends offset count run stop stop_is);
        rank_is = rank_next;
        stops_long = omega (arith, length_push stops stop, stops_long);
        ranks_long = omega (arith, length_push ranks (rank + added), ranks_long);
        stop_last = before_at-next (stops ++ stop ∷ []) run ∙ stop_at;
        rank_last = before_at-next (ranks ++ (rank + added) ∷ []) run ∙ rank_at;
        ordered = λ k h. elim (cases_lt k run) [
          | inl below ↦
              let stop_k = get_or_append_left stops (stop ∷ []) 0 k (omega (arith, stops_long)) in
              let stop_b = before_at-push stops stop k (omega (arith, stops_long)) in
              omega (arith, old.ordered k below, stop_k, stop_b)
          | inr last ↦
              let here : k ≡ run = omega arith in
              let from = ap (before_at (stops ++ stop ∷ [])) here in
              let to = ap (slice_index (stops ++ stop ∷ [])) here in
              omega (arith, from, to, stop_before, stop_at, onward)
        ];
        same = λ k place h low high none. elim (cases_lt k run) [
          | inl below ↦
              let stop_k = get_or_append_left stops (stop ∷ []) 0 k (omega (arith, stops_long)) in
              let rank_k = get_or_append_left ranks ((rank + added) ∷ []) 0 k (omega (arith, ranks_long)) in
              let stop_b = before_at-push stops stop k (omega (arith, stops_long)) in
              let rank_b = before_at-push ranks (rank + added) k (omega (arith, ranks_long)) in
              old.same k place below (omega (arith, stop_b, low)) (omega (arith, stop_k, high)) (omega (arith, rank_k, rank_b, none)) ∙ sym rank_b
          | inr last ↦
              let here : k ≡ run = omega arith in
              let low_at : before_at (stops ++ stop ∷ []) run ≤ place = rw here at low in
              let high_at : place ≤ slice_index (stops ++ stop ∷ []) run = rw here at high in
              let none_at : slice_index (ranks ++ (rank + added) ∷ []) run ≡ before_at (ranks ++ (rank + added) ∷ []) run = rw here at none in
              let from : row ≤ place = omega (arith, stop_before, low_at) in
              let to : place ≤ stop = omega (arith, stop_at, high_at) in
              let total = rank_same (is_true (slice_index_or values run None)) row stop place rank (set_bits (take place (bits_of ends values offset count))) from to (up_to place from to)
              (omega (arith, rank_at, rank_before, none_at, added_is)) in
              total ∙ sym rank_before ∙ ap (before_at (ranks ++ (rank + added) ∷ [])) (sym here)
        ];
        more = λ k place h low high some. elim (cases_lt k run) [
          | inl below ↦
              let stop_k = get_or_append_left stops (stop ∷ []) 0 k (omega (arith, stops_long)) in
              let rank_k = get_or_append_left ranks ((rank + added) ∷ []) 0 k (omega (arith, ranks_long)) in
              let stop_b = before_at-push stops stop k (omega (arith, stops_long)) in
              let rank_b = before_at-push ranks (rank + added) k (omega (arith, ranks_long)) in
              let total = old.more k place below (omega (arith, stop_b, low)) (omega (arith, stop_k, high)) (λ e. some (rank_k ∙ e ∙ sym rank_b)) in
              omega (arith, total, stop_b, rank_b)
          | inr last ↦
              let here : k ≡ run = omega arith in
              let low_at : before_at (stops ++ stop ∷ []) run ≤ place = rw here at low in
              let high_at : place ≤ slice_index (stops ++ stop ∷ []) run = rw here at high in
              let from : row ≤ place = omega (arith, stop_before, low_at) in
              let to : place ≤ stop = omega (arith, stop_at, high_at) in
              let total = rank_more (is_true (slice_index_or values run None)) row stop place rank (set_bits (take place (bits_of ends values offset count))) from to (up_to place from to)
              (λ e. some (ap (slice_index (ranks ++ (rank + added) ∷ [])) here ∙ rank_at ∙ ap (λ (n : ℕ). rank + n) added_is ∙ e ∙ sym rank_before ∙ ap (before_at (ranks ++ (rank + added) ∷ [])) (sym here))) in
              let stop_here = ap (before_at (stops ++ stop ∷ [])) here in
              let rank_here = ap (before_at (ranks ++ (rank + added) ∷ [])) here in
              omega (arith, total, stop_before, rank_before, stop_here, rank_here)
        ];
      }

pub all_written : (ends : List ℕ) (values : List (Option Value)) (offset count run row rank : ℕ) (stops ranks : List ℕ) → IsWindow ends offset count → run ≡ length ends
    → AreMaskRunsTo ends values offset count run row rank stops ranks → AreMaskRuns (bits_of ends values offset count) stops ranks
all_written ends values offset count run row rank stops ranks window all so_far =
    let stops_long = so_far.stops_long in
    let bits = bits_of ends values offset count in
    let whole : reached ends offset count run ≡ count = ap (reached ends offset count) all ∙ reached-all ends offset count window.last in
    record {
      paired = so_far.ranks_long ∙ sym stops_long;
      whole = ap (before_at stops) stops_long ∙ so_far.stop_last ∙ so_far.row_is ∙ whole ∙ sym (length-bits ends values offset count);
      ordered = λ k h. so_far.ordered k (omega (arith, stops_long, h));
      same = λ k place h. so_far.same k place (omega (arith, stops_long, h));
      more = λ k place h. so_far.more k place (omega (arith, stops_long, h));
      total = ap (before_at ranks) so_far.ranks_long ∙ so_far.rank_last ∙ so_far.rank_is ∙ ap (λ (n : ℕ). set_bits (take n bits)) (so_far.row_is ∙ whole)
          ∙ ap set_bits (take_all count bits (omega (arith, length-bits ends values offset count)));
    }
