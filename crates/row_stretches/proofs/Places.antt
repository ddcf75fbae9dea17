-- Rows of stretches are the rows at their places.
use Rattle.std.proofs.Common.{◌≡◌, ◌∙◌, ◌+◌, ◌-◌, ◌<◌, ◌≤◌, ◌++◌, ℕ, List, [], ◌∷◌, Option, None, Some, ap, append-nil, append_assoc, arith, get_or, length, map, refl, replicate, sym, take, true}
use Rattle.std.specs.Prelude.{All, IfSome, slice_index_or, slice_range}
use Rattle.std.specs.List.{flat_map, range_with_len}
use Rattle.std.proofs.lemmas.List.{ext_get_or, get_or-map, length-append, length-map, map-append, map-id, take_more}
use Rattle.std.proofs.lemmas.List.Concat.{flat_map-append, flat_map-cons}
use Rattle.std.proofs.lemmas.List.Elements.{All-append, All-cons, All-head, All-nil, All-tail}
use Rattle.std.proofs.lemmas.List.Folds.{length-flat_map-take}
use Rattle.std.proofs.lemmas.List.FromFn.{get_or-range_with_len, length-range_with_len, map-range_with_len_more}
use Rattle.column_base.proofs.Ranges.{get_or-slice_range, length-slice_range}
use Rattle.column_core.specs.Optionals.{optionals}
use Rattle.column_ops.specs.Take.{ArePositions, position_numbers, take_rows}
use Rattle.runend_windows.proofs.ValidRuns.{optionals-all_valid}
use Rattle.runend_encode.specs.Starts.{rows_at}
use Rattle.row_stretches.specs.declared.stretches.Stretch.{Stretch}
use Rattle.row_stretches.specs.Stretches.{IsWithin, stretch_places, stretch_rows}

-- the rows of a range are those at its places
range_rows : {B : Type 0} (rows : List (Option B)) (start stop : ℕ) → start ≤ stop → stop ≤ length rows → slice_range rows start stop ≡ rows_at rows (range_with_len start (stop - start))
range_rows {B} rows start stop ordered inside =
    let places = range_with_len start (stop - start) in
    let long = length-slice_range rows start stop ordered inside in
    let counted = length-range_with_len start (stop - start) in
    let mapped = length-map places (λ place. get_or rows place None) in
    ext_get_or None (slice_range rows start stop) (rows_at rows places) (long ∙ sym counted ∙ sym mapped) (λ i h.
    let below : i < stop - start = omega (arith, long, h) in
    get_or-slice_range rows start stop i None below
    ∙ sym (get_or-map (λ place. get_or rows place None) places i 0 None (omega (arith, counted, below)) ∙ ap (λ (place : ℕ). get_or rows place None) (get_or-range_with_len start (stop - start) i 0 below)))

pub rows_of_places : {B : Type 0} (rows : List (Option B)) (order : List Stretch) → All (IsWithin (length rows)) order → stretch_rows rows order ≡ rows_at rows (stretch_places order)
rows_of_places rows [] within = refl
rows_of_places {B} rows (s ∷ order) within =
    let here = All-head (IsWithin (length rows)) s order within in
    let rest = rows_of_places rows order (All-tail (IsWithin (length rows)) s order within) in
    let f = λ (t : Stretch). slice_range rows t.start t.stop in
    let g = λ (t : Stretch). range_with_len t.start (t.stop - t.start) in
    flat_map-cons f s order ∙ ap (λ (xs : List (Option B)). xs ++ stretch_rows rows order) (range_rows rows s.start s.stop here.ordered here.inside)
    ∙ ap (λ (xs : List (Option B)). rows_at rows (g s) ++ xs) rest
    ∙ sym (ap (rows_at rows) (flat_map-cons g s order) ∙ map-append (λ place. get_or rows place None) (g s) (stretch_places order))

-- as many as there are places
pub length-rows : {X : Type 0} (rows : List X) (order : List Stretch) → All (IsWithin (length rows)) order → length (stretch_rows rows order) ≡ length (stretch_places order)
length-rows rows [] within = refl
length-rows {X} rows (s ∷ order) within =
    let here = All-head (IsWithin (length rows)) s order within in
    let rest = length-rows rows order (All-tail (IsWithin (length rows)) s order within) in
    let f = λ (t : Stretch). slice_range rows t.start t.stop in
    let g = λ (t : Stretch). range_with_len t.start (t.stop - t.start) in
    let a = ap length (flat_map-cons f s order) in
    let b = ap length (flat_map-cons g s order) in
    let c = length-slice_range rows s.start s.stop here.ordered here.inside in
    let d = length-range_with_len s.start (s.stop - s.start) in
    let e = length-append (f s) (stretch_rows rows order) in
    let h = length-append (g s) (stretch_places order) in
    omega (arith, a, b, c, d, e, h, rest)

-- places of rows
range_within : (count start n : ℕ) → start + n ≤ count → All (λ place. place < count) (range_with_len start n)
range_within count start n h k d within =
    let counted = length-range_with_len start n in
    let here = get_or-range_with_len start n k d (omega (arith, counted, within)) in
    omega (arith, here, counted, within, h)

pub places_within : (count : ℕ) (order : List Stretch) → All (IsWithin count) order → All (λ place. place < count) (stretch_places order)
places_within count [] within = All-nil (λ place. place < count)
places_within count (s ∷ order) within =
    let here = All-head (IsWithin count) s order within in
    let rest = places_within count order (All-tail (IsWithin count) s order within) in
    let o = here.ordered in
    let i = here.inside in
    let g = λ (t : Stretch). range_with_len t.start (t.stop - t.start) in
    rw (flat_map-cons g s order) (All-append (λ place. place < count) (g s) (stretch_places order) (range_within count s.start (s.stop - s.start) (omega arith)) rest)

-- one more stretch
pub rows_more : {X : Type 0} (rows : List X) (order : List Stretch) (k : ℕ) (s : Stretch) → k < length order → s ≡ get_or order k s
    → stretch_rows rows (take (k + 1) order) ≡ stretch_rows rows (take k order) ++ slice_range rows s.start s.stop
rows_more {X} rows order k s within is =
    let f = λ (t : Stretch). slice_range rows t.start t.stop in
    ap (flat_map f) (take_more order k s within ∙ ap (λ (next : Stretch). take k order ++ next ∷ []) (sym is)) ∙ flat_map-append f (take k order) (s ∷ [])
    ∙ ap (λ (last : List X). flat_map f (take k order) ++ last) (append-nil (f s))

pub places_more : (order : List Stretch) (k : ℕ) (s : Stretch) → k < length order → s ≡ get_or order k s
    → stretch_places (take (k + 1) order) ≡ stretch_places (take k order) ++ range_with_len s.start (s.stop - s.start)
places_more order k s within is =
    let f = λ (t : Stretch). range_with_len t.start (t.stop - t.start) in
    ap (flat_map f) (take_more order k s within ∙ ap (λ (next : Stretch). take k order ++ next ∷ []) (sym is)) ∙ flat_map-append f (take k order) (s ∷ [])
    ∙ ap (λ (last : List ℕ). flat_map f (take k order) ++ last) (append-nil (f s))

-- they are not more than all
pub places_fit : (order : List Stretch) (k : ℕ) (s : Stretch) → k < length order → s ≡ get_or order k s → length (stretch_places (take k order)) + (s.stop - s.start) ≤ length (stretch_places order)
places_fit order k s within is =
    let f = λ (t : Stretch). range_with_len t.start (t.stop - t.start) in
    let some = length-flat_map-take f order k s within in
    let here : length (f (get_or order k s)) ≡ s.stop - s.start = ap (λ (t : Stretch). length (f t)) (sym is) ∙ length-range_with_len s.start (s.stop - s.start) in
    omega (arith, some, here)

-- the number of places, one more stretch
pub count_more : (order : List Stretch) (k : ℕ) (s : Stretch) → k < length order → s ≡ get_or order k s
    → length (stretch_places (take (k + 1) order)) ≡ length (stretch_places (take k order)) + (s.stop - s.start)
count_more order k s within is =
    let more = ap length (places_more order k s within is) in
    let here = length-range_with_len s.start (s.stop - s.start) in
    let both = length-append (stretch_places (take k order)) (range_with_len s.start (s.stop - s.start)) in
    omega (arith, more, here, both)

-- a range that is one longer
pub range_more : (start n : ℕ) → range_with_len start (n + 1) ≡ range_with_len start n ++ (start + n) ∷ []
range_more start n =
    sym (map-id (range_with_len start (n + 1))) ∙ map-range_with_len_more (λ (i : ℕ). i) start n (start + n) refl
    ∙ ap (λ (ks : List ℕ). ks ++ (start + n) ∷ []) (map-id (range_with_len start n))

pub row_pushed : (old items more : List ℕ) (start row : ℕ) → start ≤ row → items ≡ old ++ range_with_len start (row - start) → more ≡ items ++ row ∷ [] → more ≡ old ++ range_with_len start (row + 1 - start)
row_pushed old items more start row h so_far pushed =
    let here : start + (row - start) ≡ row = omega arith in
    let size : row - start + 1 ≡ row + 1 - start = omega arith in
    pushed ∙ ap (λ (xs : List ℕ). xs ++ row ∷ []) so_far ∙ append_assoc old (range_with_len start (row - start)) (row ∷ [])
    ∙ ap (λ (xs : List ℕ). old ++ xs) (ap (λ (n : ℕ). range_with_len start (row - start) ++ n ∷ []) (sym here) ∙ sym (range_more start (row - start)) ∙ ap (range_with_len start) size)

-- places without null, as a take wants them
pub all_positions : (count : ℕ) (places : List ℕ) → All (λ place. place < count) places → ArePositions (optionals places (replicate (length places) true)) count
all_positions count places within = rw (optionals-all_valid places (length places) refl) (each places within)
  where
    each : (ps : List ℕ) → All (λ place. place < count) ps → ArePositions (map (λ place. Some place) ps) count
    each [] h = All-nil (λ place. IfSome place (λ k. k < count))
    each (p ∷ ps) h = All-cons (λ place. IfSome place (λ k. k < count)) (Some p) (map (λ place. Some place) ps) (All-head (λ place. place < count) p ps h) (each ps (All-tail (λ place. place < count) p ps h))

-- and the rows that it answers
pub rows_taken : {B : Type 0} (rows : List (Option B)) (places : List ℕ) → take_rows rows (position_numbers (optionals places (replicate (length places) true))) ≡ rows_at rows places
rows_taken {B} rows places = ap (λ ps. take_rows rows (position_numbers ps)) (optionals-all_valid places (length places) refl) ∙ each places
  where
    each : (ps : List ℕ) → take_rows rows (position_numbers (map (λ place. Some place) ps)) ≡ rows_at rows ps
    each [] = refl
    each (p ∷ ps) = ap (λ (taken : List (Option B)). slice_index_or rows p None ∷ taken) (each ps)
