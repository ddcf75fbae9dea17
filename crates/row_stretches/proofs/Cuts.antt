-- Rows that are cut out of runs, piece by piece.
use Rattle.std.proofs.Common.{◌≡◌, ◌∙◌, ◌+◌, ◌-◌, ◌^◌, ◌<◌, ◌≤◌, ◌++◌, ℕ, zero, suc, List, [], ◌∷◌, Option, None, Some, ap, append-nil, append_assoc, arith, inl, inr, length, map, min, refl, replicate, slice_index, subst, sym}
use Rattle.std.specs.Prelude.{All, option_map, slice_get, slice_index_or, slice_range}
use Rattle.std.specs.List.{range_with_len}
use Rattle.std.proofs.lemmas.Bool.{cases_lt}
use Rattle.std.proofs.lemmas.List.{get_or_append_left, get_or_push, length-append, length-map, length-replicate, map-append, replicate-append-replicate, replicate_more}
use Rattle.std.proofs.lemmas.List.Concat.{flat_map-cons}
use Rattle.std.proofs.lemmas.List.Elements.{All-head, All-nil, All-push, All-tail}
use Rattle.std.proofs.lemmas.List.FromFn.{get_or-map-range_with_len, length-map-range_with_len, length-range_with_len}
use Rattle.std.proofs.lemmas.Option.{slice_get-get_or, slice_get-map}
use Rattle.column_base.proofs.Ranges.{slice_range-replicate, slice_range_of_map}
use Rattle.column_ops.proofs.RowRanges.{slice_range-next}
use Rattle.runend_windows.specs.Cover.{Covers}
use Rattle.runend_windows.specs.Window.{IsWindow, last_end, run_at, run_rows}
use Rattle.runend_windows.proofs.Lists.{slice_get-append, slice_get-append_copies}
use Rattle.runend_windows.proofs.RunAt.{ended_before, ends_past, run_at_is, run_at_within, run_of_row_within}
use Rattle.runend_windows.proofs.RunRows.{Covers_iff_run_rows}
use Rattle.runend_windows.proofs.SlicedRuns.{IsWindow-of_none, slice_range-none}
use Rattle.column_core.specs.Value.{Value}
use Rattle.runend_array.specs.Column.{Runs, column_of_runs, column_rows}
use Rattle.runend_encode.specs.Starts.{rows_at}
use Rattle.row_stretches.specs.declared.stretches.Stretch.{Stretch}
use Rattle.row_stretches.specs.Pieces.{AreCut, runs_of}
use Rattle.row_stretches.specs.Stretches.{IsWithin, stretch_places, stretch_rows}

pub no_pieces : (limit : ℕ) → AreCut limit [] [] [] 0
no_pieces limit = record {
  pieces = record {
    window = IsWindow-of_none;
    paired = refl;
    stop = refl;
    filled = λ h. absurd (omega arith);
    there = All-nil (λ run. run < limit);
  };
  cover = record { window = IsWindow-of_none; paired = refl; counted = refl; each = λ i h. absurd (omega arith) };
}

module _ (limit : ℕ) (rows ends runs : List ℕ) (n m run : ℕ) (cut : AreCut limit rows ends runs n) (some : 0 < m) (small : n + m < 2 ^ 64) (there : run < limit) where
  abbrev more_ends : List ℕ
  more_ends = ends ++ (n + m) ∷ []

  abbrev more_runs : List ℕ
  more_runs = runs ++ run ∷ []

  long_ends : length more_ends ≡ length ends + 1
  long_ends = length-append ends ((n + m) ∷ [])

  last_is : last_end more_ends ≡ n + m
  last_is = get_or_push ends (n + m) 0 (length more_ends - 1) (omega (arith, long_ends))

  end_before : (k : ℕ) → k < length ends → slice_index more_ends k ≡ slice_index ends k
  end_before k h = get_or_append_left ends ((n + m) ∷ []) 0 k h

  window : IsWindow more_ends 0 (n + m)
  window = record {
    increasing = λ k h. elim (cases_lt (k + 1) (length ends)) [
      | inl earlier ↦ rw (end_before k (omega arith), end_before (k + 1) earlier) (cut.pieces.window.increasing k earlier)
      | inr last ↦
          let end : k + 1 ≡ length ends = omega (arith, long_ends, h, last) in
          let here : slice_index ends k ≡ n = ap (slice_index ends) (omega (arith, end)) ∙ cut.pieces.stop in
          rw (end_before k (omega (arith, end)), get_or_push ends (n + m) 0 (k + 1) (sym end)) (omega (arith, here, some))
    ];
    none = λ e. absurd (omega (arith, e, long_ends));
    first = λ h. omega arith;
    last = λ h. omega (arith, last_is);
    small = omega (arith, small);
  }

  -- a row before is where it was
  run_before : (i : ℕ) → i < n → (run_at ends i < length ends) × (run_at more_ends i ≡ run_at ends i)
  run_before i h =
      let stop = cut.pieces.stop in
      let any : 0 < length ends = elim (cases_lt 0 (length ends)) [
        | inl has ↦ has
        | inr lacks ↦ let none = cut.pieces.window.none (omega (arith, lacks)) in absurd (omega (arith, none.1, h))
      ] in
      let within = run_at_within ends i any (omega (arith, stop, h)) in (
        within,
        run_at_is more_ends i (run_at ends i) (omega (arith, long_ends, within))
            (λ k below. rw (end_before k (omega (arith, within, below))) (ended_before ends i k below))
            (λ _. rw (end_before (run_at ends i) within) (ends_past ends i within)),
      )

  run_after : (i : ℕ) → n ≤ i → i < n + m → run_at more_ends i ≡ length ends
  run_after i low high =
      run_at_is more_ends i (length ends) (omega (arith, long_ends))
      (λ k below.
      let last : slice_index ends k ≤ n = at_most k below in
      rw (end_before k below) (omega (arith, last, low)))
      (λ _. rw (get_or_push ends (n + m) 0 (length ends) refl) (omega (arith, high)))
    where
      at_most : (k : ℕ) → k < length ends → slice_index ends k ≤ n
      at_most k below = elim (cases_lt n (slice_index ends k)) [
        | inl past ↦ let w = end_le k below in omega (arith, past, w, cut.pieces.stop)
        | inr fine ↦ fine
      ]
        where
          end_le : (k : ℕ) → k < length ends → slice_index ends k ≤ last_end ends
          end_le k below = walk (length ends - 1 - k) k (omega (arith, below))
            where
              walk : (j k : ℕ) → k + j ≡ length ends - 1 → slice_index ends k ≤ last_end ends
              walk zero k is = let here : k ≡ length ends - 1 = omega (arith, is) in rw here (omega arith)
              walk (suc j) k is =
                  let step = cut.pieces.window.increasing k (omega (arith, is)) in
                  let rest = walk j (k + 1) (omega (arith, is)) in
                  omega (arith, step, rest)

  shown : (i : ℕ) → i < n + m → slice_get (rows ++ replicate m run) i ≡ slice_get more_runs (run_at more_ends (0 + i))
  shown i h =
      let zero_first : 0 + i ≡ i = omega arith in
      let counted = cut.cover.counted in
      let paired = cut.pieces.paired in
      ap (λ (k : ℕ). slice_get (rows ++ replicate m run) i) zero_first ∙ elim (cases_lt i n) [
        | inl before ↦
            let at = run_before i before in
            slice_get-append rows (replicate m run) i (omega (arith, counted, before)) ∙ cut.cover.each i before ∙ ap (λ (k : ℕ). slice_get runs (run_at ends k)) zero_first
            ∙ sym (slice_get-append runs (run ∷ []) (run_at ends i) (omega (arith, paired, at.0))) ∙ ap (slice_get more_runs) (sym at.1) ∙ ap (λ (k : ℕ). slice_get more_runs (run_at more_ends k)) (sym zero_first)
        | inr after ↦
            let at = run_after i after h in
            let long = length-append runs (run ∷ []) in
            slice_get-append_copies rows m i run (omega (arith, counted, after)) (omega (arith, counted, h))
            ∙ sym (ap (λ (k : ℕ). slice_get more_runs (run_at more_ends k)) zero_first ∙ ap (slice_get more_runs) at
            ∙ slice_get-get_or more_runs (length ends) 0 (omega (arith, long, paired)) ∙ ap Some (get_or_push runs run 0 (length ends) paired))
      ]

  -- one piece more
  pub piece_more : AreCut limit (rows ++ replicate m run) more_ends more_runs (n + m)
  piece_more =
      let both = length-append runs (run ∷ []) in
      let paired : length more_runs ≡ length more_ends = omega (arith, both, long_ends, cut.pieces.paired) in
      let rows_long = length-append rows (replicate m run) in
      let copies = length-replicate m run in
      record {
        pieces = record {
          window = window;
          paired = paired;
          stop = last_is;
          filled = λ h. elim (cases_lt 0 (length ends)) [
            | inl has ↦ rw (end_before 0 has) (cut.pieces.filled has)
            | inr lacks ↦ rw (get_or_push ends (n + m) 0 0 (omega (arith, lacks))) (omega (arith, some))
          ];
          there = All-push (λ k. k < limit) runs run cut.pieces.there there;
        };
        cover = record { window = window; paired = paired; counted = omega (arith, rows_long, copies, cut.cover.counted); each = shown };
      }

-- the runs of rows of a window
module _ (ends : List ℕ) (offset count : ℕ) (window : IsWindow ends offset count) where
  pub length-runs : length (runs_of ends offset count) ≡ count
  length-runs = length-map-range_with_len (run_at ends) offset count

  run_there : (i : ℕ) → i < count → slice_get (runs_of ends offset count) i ≡ Some (run_at ends (offset + i))
  run_there i h =
      slice_get-get_or (runs_of ends offset count) i 0 (omega (arith, length-runs, h)) ∙ ap Some (get_or-map-range_with_len (run_at ends) offset count i (offset + i) 0 h refl)

  -- rows that are all of one run
  same_runs : (start row n run : ℕ) → start ≤ row → row + n ≤ count → ((i : ℕ) → i < n → run_at ends (offset + (row + i)) ≡ run)
      → slice_range (runs_of ends offset count) start (row + n) ≡ slice_range (runs_of ends offset count) start row ++ replicate n run
  same_runs start row zero run low high same =
      ap (slice_range (runs_of ends offset count) start) (omega arith) ∙ sym (append-nil (slice_range (runs_of ends offset count) start row))
  same_runs start row (suc n) run low high same =
      let next : row + suc n ≡ row + n + 1 = omega arith in
      let more : n + 1 ≡ suc n = omega arith in
      ap (slice_range (runs_of ends offset count) start) next
      ∙ slice_range-next (runs_of ends offset count) start (row + n) run (omega (arith, low)) (run_there (row + n) (omega (arith, high)) ∙ ap Some (same n (omega arith)))
      ∙ ap (λ (xs : List ℕ). xs ++ run ∷ []) (same_runs start row n run low (omega (arith, high)) (λ i h. same i (omega arith)))
      ∙ append_assoc (slice_range (runs_of ends offset count) start row) (replicate n run) (run ∷ [])
      ∙ ap (λ (xs : List ℕ). slice_range (runs_of ends offset count) start row ++ xs) (replicate_more n run ∙ ap (λ (k : ℕ). replicate k run) more)

  -- the rows that the run of a row reaches, up to a stop
  module _ (start row stop run reach : ℕ) (low : start ≤ row) (below : row < stop) (high : stop ≤ count) (is : run ≡ run_at ends (offset + row))
      (reach_is : reach ≡ min (min (slice_index ends run - offset) count) stop) where
    pub run_within : run < length ends
    run_within = let h = run_of_row_within ends offset count row window (omega (arith, below, high)) in omega (arith, h, is)

    past : offset + row < slice_index ends run
    past =
        let h = ends_past ends (offset + row) (run_of_row_within ends offset count row window (omega (arith, below, high))) in
        let e = ap (slice_index ends) is in
        omega (arith, h, e)

    pub reach_past : row < reach
    reach_past = omega (arith, reach_is, past, below, high)

    pub reach_stop : reach ≤ stop
    reach_stop = omega (arith, reach_is)

    pub rows_reached : slice_range (runs_of ends offset count) start reach ≡ slice_range (runs_of ends offset count) start row ++ replicate (reach - row) run
    rows_reached =
        let whole : row + (reach - row) ≡ reach = omega (arith, reach_past) in
        ap (slice_range (runs_of ends offset count) start) (sym whole)
        ∙ same_runs start row (reach - row) run low (omega (arith, whole, reach_stop, high)) (λ i h.
        run_at_is ends (offset + (row + i)) run (omega (arith, run_within))
        (λ k earlier. let e = ended_before ends (offset + row) k (omega (arith, is, earlier)) in omega (arith, e))
        (λ _. omega (arith, reach_is, whole, h, past)))

    -- the run after it is that of the next row
    pub run_next : reach < stop → run + 1 ≡ run_at ends (offset + reach)
    run_next more =
        let end : offset + reach ≡ slice_index ends run = omega (arith, reach_is, more, high, past) in
        sym (run_at_is ends (offset + reach) (run + 1) (omega (arith, run_within))
        (λ k earlier. elim (cases_lt k run) [
          | inl before ↦ let e = ended_before ends (offset + row) k (omega (arith, is, before)) in omega (arith, e, reach_past)
          | inr last ↦ let here : k ≡ run = omega (arith, last, earlier) in rw here (omega (arith, end))
        ])
        (λ later. let step = window.increasing run later in omega (arith, end, step)))

-- as runs are cut, so are their values
pub cut_values : {B : Type 0} (values : List (Option B)) (limit : ℕ) (rows ends runs : List ℕ) (count : ℕ) → AreCut limit rows ends runs count → run_rows ends (rows_at values runs) 0 count ≡ rows_at values rows
cut_values {B} values limit rows ends runs count cut =
    let f = λ (run : ℕ). slice_index_or values run None in
    let paired : length (rows_at values runs) ≡ length ends = length-map runs f ∙ cut.pieces.paired in
    let cover : Covers (rows_at values rows) ends (rows_at values runs) 0 count = record {
      window = cut.pieces.window;
      paired = paired;
      counted = length-map rows f ∙ cut.cover.counted;
      each = λ i h. slice_get-map f rows i ∙ ap (option_map f) (cut.cover.each i h) ∙ sym (slice_get-map f runs (run_at ends (0 + i)));
    } in
    sym ((Covers_iff_run_rows (rows_at values rows) ends (rows_at values runs) 0 count cut.pieces.window paired).0 cover)

-- rows by their runs
map_twice : {X Y Z : Type 0} (f : Y → Z) (g : X → Y) (xs : List X) → map f (map g xs) ≡ map (λ x. f (g x)) xs
map_twice f g [] = refl
map_twice {X} {Y} {Z} f g (x ∷ xs) = ap (λ (zs : List Z). f (g x) ∷ zs) (map_twice f g xs)

pub rows_by_runs : {B : Type 0} (values : List (Option B)) (ends : List ℕ) (offset count : ℕ) → rows_at values (runs_of ends offset count) ≡ run_rows ends values offset count
rows_by_runs values ends offset count = map_twice (λ (run : ℕ). slice_index_or values run None) (run_at ends) (range_with_len offset count)

-- stretches of mapped rows
pub stretches_of_map : {X Y : Type 0} (f : X → Y) (rows : List X) (order : List Stretch) → stretch_rows (map f rows) order ≡ map f (stretch_rows rows order)
stretches_of_map f rows [] = refl
stretches_of_map {X} {Y} f rows (s ∷ order) =
    let cut = λ (t : Stretch). slice_range rows t.start t.stop in
    let cut_mapped = λ (t : Stretch). slice_range (map f rows) t.start t.stop in
    flat_map-cons cut_mapped s order ∙ ap (λ (ys : List Y). ys ++ stretch_rows (map f rows) order) (slice_range_of_map f rows s.start s.stop)
    ∙ ap (λ (ys : List Y). map f (cut s) ++ ys) (stretches_of_map f rows order)
    ∙ sym (ap (map f) (flat_map-cons cut s order) ∙ map-append f (cut s) (stretch_rows rows order))

-- the pieces before the first row of a stretch
pub none_of_stretch : (limit : ℕ) (rows ends runs : List ℕ) (n : ℕ) (shown : List ℕ) (start : ℕ) → AreCut limit rows ends runs n → AreCut limit (rows ++ slice_range shown start start) ends runs n
none_of_stretch limit rows ends runs n shown start cut =
    subst (λ (xs : List ℕ). AreCut limit xs ends runs n) (sym (ap (λ (xs : List ℕ). rows ++ xs) (slice_range-none shown start start refl) ∙ append-nil rows)) cut

-- and one piece more of it
pub piece_of_stretch : (limit : ℕ) (rows ends runs : List ℕ) (n m run : ℕ) (shown : List ℕ) (start row reach : ℕ) (more_ends more_runs : List ℕ) (total : ℕ) → AreCut limit (rows ++ slice_range shown start row) ends runs n
    → 0 < m → n + m < 2 ^ 64 → run < limit → slice_range shown start reach ≡ slice_range shown start row ++ replicate m run
    → more_ends ≡ ends ++ (n + m) ∷ [] → more_runs ≡ runs ++ run ∷ [] → total ≡ n + m → AreCut limit (rows ++ slice_range shown start reach) more_ends more_runs total
piece_of_stretch limit rows ends runs n m run shown start row reach more_ends more_runs total cut some small there reached ends_are runs_are total_is =
    let more = piece_more limit (rows ++ slice_range shown start row) ends runs n m run cut some small there in
    let same = append_assoc rows (slice_range shown start row) (replicate m run) ∙ ap (λ (xs : List ℕ). rows ++ xs) (sym reached) in
    rw (ends_are, runs_are, total_is) (subst (λ (xs : List ℕ). AreCut limit xs (ends ++ (n + m) ∷ []) (runs ++ run ∷ []) (n + m)) same more)

-- the rows of stretches of a run column, by pieces of its runs
pub rows_of_cut : (r : Runs) (order : List Stretch) (ends runs : List ℕ) (count : ℕ) → AreCut (length r.ends) (stretch_rows (runs_of r.ends r.offset r.count) order) ends runs count
    → run_rows ends (rows_at (column_rows r.values) runs) 0 count ≡ stretch_rows (column_rows (column_of_runs r)) order
rows_of_cut r order ends runs count cut =
    let values = column_rows r.values in
    let shown = runs_of r.ends r.offset r.count in
    cut_values values (length r.ends) (stretch_rows shown order) ends runs count cut
    ∙ sym (stretches_of_map (λ (run : ℕ). slice_index_or values run None) shown order)
    ∙ ap (λ (rows : List (Option Value)). stretch_rows rows order) (rows_by_runs values r.ends r.offset r.count)

-- the rows of stretches of copies
pub stretches_of_copies : {X : Type 0} (n : ℕ) (x : X) (order : List Stretch) → All (IsWithin n) order → stretch_rows (replicate n x) order ≡ replicate (length (stretch_places order)) x
stretches_of_copies n x [] within = refl
stretches_of_copies {X} n x (s ∷ order) within =
    let here = All-head (IsWithin n) s order within in
    let rest = stretches_of_copies n x order (All-tail (IsWithin n) s order within) in
    let f = λ (t : Stretch). slice_range (replicate n x) t.start t.stop in
    let g = λ (t : Stretch). range_with_len t.start (t.stop - t.start) in
    let counted = ap length (flat_map-cons g s order) in
    let both = length-append (g s) (stretch_places order) in
    let own = length-range_with_len s.start (s.stop - s.start) in
    flat_map-cons f s order ∙ ap (λ (xs : List X). xs ++ stretch_rows (replicate n x) order) (slice_range-replicate n s.start s.stop x here.ordered here.inside)
    ∙ ap (λ (xs : List X). replicate (s.stop - s.start) x ++ xs) rest ∙ replicate-append-replicate (s.stop - s.start) (length (stretch_places order)) x
    ∙ ap (λ (k : ℕ). replicate k x) (omega (arith, counted, both, own))

-- the pieces of the same ends and window
pub same_cut : (ends own : List ℕ) (from offset many count : ℕ) (order : List Stretch) (piece_ends piece_runs : List ℕ) (n : ℕ) → ends ≡ own → from ≡ offset → many ≡ count
    → AreCut (length ends) (stretch_rows (runs_of ends from many) order) piece_ends piece_runs n → AreCut (length own) (stretch_rows (runs_of own offset count) order) piece_ends piece_runs n
same_cut ends own from offset many count order piece_ends piece_runs n same started counted cut =
    let of_count = subst (λ (k : ℕ). AreCut (length ends) (stretch_rows (runs_of ends from k) order) piece_ends piece_runs n) counted cut in
    let of_start = subst (λ (k : ℕ). AreCut (length ends) (stretch_rows (runs_of ends k count) order) piece_ends piece_runs n) started of_count in
    subst (λ (es : List ℕ). AreCut (length es) (stretch_rows (runs_of es offset count) order) piece_ends piece_runs n) same of_start
