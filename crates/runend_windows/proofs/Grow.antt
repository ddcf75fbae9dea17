-- Tiles that grow at their end, as an encoder makes them that walks the rows with one run open. What it has made at the
-- end is a tight cover.
use Rattle.std.proofs.Common.{◌≡◌, ◌≢◌, ℕ, zero, suc, ◌+◌, ◌^◌, ◌<◌, ◌≤◌, List, [], ◌∷◌, ◌++◌, Some, length, slice_index, refl, sym, subst, ◌∙◌, ap, arith, add-one, zero-add, inl, inr, length-append}
use Rattle.std.proofs.lemmas.Bool.{cases_lt}
use Rattle.std.specs.List.{slice_get, AllAdjacentBelow}
use Rattle.std.specs.List.Sorted.{IsStrictlyIncreasing}
use Rattle.runend_windows.specs.Cover.{IsTightCover}
use Rattle.runend_windows.specs.Window.{last_end, IsWindow}
use Rattle.runend_windows.proofs.ShownRuns.{shown_at, shown_at-here, shown_at-past, Covers-from_shown}
use Rattle.runend_windows.proofs.Tiles.{Differs, Tiles, Tiles-le, last_end-next}

-- a value added past the last leaves the first one
Differs-push : {A : Type 0} (before : A) (values : List A) (value next : A) → Differs before (values ++ value ∷ []) → Differs before ((values ++ value ∷ []) ++ next ∷ [])
Differs-push before [] value next differs = differs
Differs-push before (first ∷ values) value next differs = differs

-- the last tile ends later
Tiles-grow : {A : Type 0} (start stop stop' : ℕ) (ends : List ℕ) (values : List A) (value : A) → length values ≡ length ends → stop ≤ stop'
    → Tiles start stop (ends ++ stop ∷ []) (values ++ value ∷ []) → Tiles start stop' (ends ++ stop' ∷ []) (values ++ value ∷ [])
Tiles-grow start stop stop' [] [] value paired later tiles = let filled = tiles.0 in (omega arith, tt, refl)
Tiles-grow start stop stop' [] (first ∷ values) value paired later tiles = cc
Tiles-grow start stop stop' (end ∷ ends) [] value paired later tiles = cc
Tiles-grow start stop stop' (end ∷ ends) (first ∷ values) value paired later tiles =
    (tiles.0, tiles.1, Tiles-grow end stop stop' ends values value (omega arith) later tiles.2)

-- a tile is added, whose value is not that of the last
Tiles-push : {A : Type 0} (start stop stop' : ℕ) (ends : List ℕ) (values : List A) (value next : A) → length values ≡ length ends → stop < stop' → value ≢ next
    → Tiles start stop (ends ++ stop ∷ []) (values ++ value ∷ []) → Tiles start stop' ((ends ++ stop ∷ []) ++ stop' ∷ []) ((values ++ value ∷ []) ++ next ∷ [])
Tiles-push start stop stop' [] [] value next paired later differs tiles = (tiles.0, differs, (later, tt, refl))
Tiles-push start stop stop' [] (first ∷ values) value next paired later differs tiles = cc
Tiles-push start stop stop' (end ∷ ends) [] value next paired later differs tiles = cc
Tiles-push start stop stop' (end ∷ ends) (first ∷ values) value next paired later differs tiles =
    (tiles.0, Differs-push first values value next tiles.1, Tiles-push end stop stop' ends values value next (omega arith) later differs tiles.2)

-- where the last tile ends later, the rows before stay
shown_at-grow : {A : Type 0} (stop stop' position : ℕ) (ends : List ℕ) (values : List A) (value : A) → length values ≡ length ends → stop ≤ stop' → position < stop
    → shown_at (ends ++ stop' ∷ []) (values ++ value ∷ []) position ≡ shown_at (ends ++ stop ∷ []) (values ++ value ∷ []) position
shown_at-grow stop stop' position [] [] value paired later h =
    shown_at-here stop' [] value [] position (omega arith) ∙ sym (shown_at-here stop [] value [] position h)
shown_at-grow stop stop' position [] (first ∷ values) value paired later h = cc
shown_at-grow stop stop' position (end ∷ ends) [] value paired later h = cc
shown_at-grow stop stop' position (end ∷ ends) (first ∷ values) value paired later h = elim (cases_lt position end) [
  | inl before ↦
      shown_at-here end (ends ++ stop' ∷ []) first (values ++ value ∷ []) position before
      ∙ sym (shown_at-here end (ends ++ stop ∷ []) first (values ++ value ∷ []) position before)
  | inr past ↦
      shown_at-past end (ends ++ stop' ∷ []) first (values ++ value ∷ []) position past
      ∙ shown_at-grow stop stop' position ends values value (omega arith) later h
      ∙ sym (shown_at-past end (ends ++ stop ∷ []) first (values ++ value ∷ []) position past)
]

-- and the next row is of that tile
shown_at-grown : {A : Type 0} (start stop stop' : ℕ) (ends : List ℕ) (values : List A) (value : A) → length values ≡ length ends → stop < stop'
    → Tiles start stop (ends ++ stop ∷ []) (values ++ value ∷ []) → shown_at (ends ++ stop' ∷ []) (values ++ value ∷ []) stop ≡ Some value
shown_at-grown start stop stop' [] [] value paired later tiles = shown_at-here stop' [] value [] stop later
shown_at-grown start stop stop' [] (first ∷ values) value paired later tiles = cc
shown_at-grown start stop stop' (end ∷ ends) [] value paired later tiles = cc
shown_at-grown start stop stop' (end ∷ ends) (first ∷ values) value paired later tiles =
    shown_at-past end (ends ++ stop' ∷ []) first (values ++ value ∷ []) stop (Tiles-le end stop (ends ++ stop ∷ []) (values ++ value ∷ []) tiles.2)
    ∙ shown_at-grown end stop stop' ends values value (omega arith) later tiles.2

-- where a tile is added, the rows before stay
shown_at-push : {A : Type 0} (stop stop' position : ℕ) (ends : List ℕ) (values : List A) (value next : A) → length values ≡ length ends → position < stop
    → shown_at ((ends ++ stop ∷ []) ++ stop' ∷ []) ((values ++ value ∷ []) ++ next ∷ []) position ≡ shown_at (ends ++ stop ∷ []) (values ++ value ∷ []) position
shown_at-push stop stop' position [] [] value next paired h =
    shown_at-here stop (stop' ∷ []) value (next ∷ []) position h ∙ sym (shown_at-here stop [] value [] position h)
shown_at-push stop stop' position [] (first ∷ values) value next paired h = cc
shown_at-push stop stop' position (end ∷ ends) [] value next paired h = cc
shown_at-push stop stop' position (end ∷ ends) (first ∷ values) value next paired h = elim (cases_lt position end) [
  | inl before ↦
      shown_at-here end ((ends ++ stop ∷ []) ++ stop' ∷ []) first ((values ++ value ∷ []) ++ next ∷ []) position before
      ∙ sym (shown_at-here end (ends ++ stop ∷ []) first (values ++ value ∷ []) position before)
  | inr past ↦
      shown_at-past end ((ends ++ stop ∷ []) ++ stop' ∷ []) first ((values ++ value ∷ []) ++ next ∷ []) position past
      ∙ shown_at-push stop stop' position ends values value next (omega arith) h
      ∙ sym (shown_at-past end (ends ++ stop ∷ []) first (values ++ value ∷ []) position past)
]

-- and the next row is of the tile added
shown_at-pushed : {A : Type 0} (start stop stop' : ℕ) (ends : List ℕ) (values : List A) (next : A) → stop < stop' → Tiles start stop ends values
    → shown_at (ends ++ stop' ∷ []) (values ++ next ∷ []) stop ≡ Some next
shown_at-pushed start stop stop' [] [] next later tiles = shown_at-here stop' [] next [] stop later
shown_at-pushed start stop stop' [] (first ∷ values) next later tiles = absurd tiles
shown_at-pushed start stop stop' (end ∷ ends) [] next later tiles = absurd tiles
shown_at-pushed start stop stop' (end ∷ ends) (first ∷ values) next later tiles =
    shown_at-past end (ends ++ stop' ∷ []) first (values ++ next ∷ []) stop (Tiles-le end stop ends values tiles.2)
    ∙ shown_at-pushed end stop stop' ends values next later tiles.2

-- the parts of tiles, by index
Tiles-paired : {A : Type 0} (start stop : ℕ) (ends : List ℕ) (values : List A) → Tiles start stop ends values → length values ≡ length ends
Tiles-paired start stop [] [] tiles = refl
Tiles-paired start stop [] (value ∷ values) tiles = absurd tiles
Tiles-paired start stop (end ∷ ends) [] tiles = absurd tiles
Tiles-paired start stop (end ∷ ends) (value ∷ values) tiles = let rest = Tiles-paired end stop ends values tiles.2 in omega arith

Tiles-first : {A : Type 0} (start stop : ℕ) (ends : List ℕ) (values : List A) → Tiles start stop ends values → 0 < length ends → start < slice_index ends 0
Tiles-first start stop [] values tiles some = absurd (omega arith)
Tiles-first start stop (end ∷ ends) [] tiles some = absurd tiles
Tiles-first start stop (end ∷ ends) (value ∷ values) tiles some = tiles.0

Tiles-increasing : {A : Type 0} (start stop : ℕ) (ends : List ℕ) (values : List A) → Tiles start stop ends values → IsStrictlyIncreasing ends
Tiles-increasing start stop [] values tiles k h = absurd (omega arith)
Tiles-increasing start stop (end ∷ ends) [] tiles k h = absurd tiles
Tiles-increasing start stop (end ∷ ends) (value ∷ values) tiles zero h = Tiles-first end stop ends values tiles.2 (omega arith)
Tiles-increasing start stop (end ∷ ends) (value ∷ values) tiles (suc k) h =
    let at = Tiles-increasing end stop ends values tiles.2 k (omega arith) in rw add-one (rw add-one at at)

Tiles-last : {A : Type 0} (start stop : ℕ) (ends : List ℕ) (values : List A) → Tiles start stop ends values → 0 < length ends → last_end ends ≡ stop
Tiles-last start stop [] values tiles some = absurd (omega arith)
Tiles-last start stop (end ∷ ends) [] tiles some = absurd tiles
Tiles-last start stop (end ∷ []) (value ∷ []) tiles some = tiles.2
Tiles-last start stop (end ∷ []) (value ∷ next_value ∷ values) tiles some = absurd tiles.2
Tiles-last start stop (end ∷ next ∷ ends) (value ∷ values) tiles some = last_end-next end next ends ∙ Tiles-last end stop (next ∷ ends) values tiles.2 (omega arith)

Tiles-differ : {A : Type 0} (start stop : ℕ) (ends : List ℕ) (values : List A) → Tiles start stop ends values → AllAdjacentBelow (λ x y. x ≢ y) values (length values)
Tiles-differ start stop ends [] tiles k d h = absurd (omega arith)
Tiles-differ start stop [] (value ∷ values) tiles k d h = absurd tiles
Tiles-differ start stop (end ∷ ends) (value ∷ []) tiles k d h = absurd (omega arith)
Tiles-differ start stop (end ∷ ends) (value ∷ next_value ∷ values) tiles zero d h = tiles.1
Tiles-differ start stop (end ∷ ends) (value ∷ next_value ∷ values) tiles (suc k) d h =
    let at = Tiles-differ end stop ends (next_value ∷ values) tiles.2 k d (omega arith) in rw add-one (rw add-one at at)

-- without runs, tiles from 0 have 0 rows
Tiles-none : {A : Type 0} (stop : ℕ) (ends : List ℕ) (values : List A) → Tiles 0 stop ends values → length ends ≡ 0 → stop ≡ 0
Tiles-none stop [] [] tiles none = sym tiles
Tiles-none stop [] (value ∷ values) tiles none = absurd tiles
Tiles-none stop (end ∷ ends) values tiles none = cc

last_end-none : (ends : List ℕ) → length ends ≡ 0 → last_end ends ≡ 0
last_end-none [] none = refl
last_end-none (end ∷ ends) none = cc

-- they end where the last run ends
Tiles-stop : {A : Type 0} (stop : ℕ) (ends : List ℕ) (values : List A) → Tiles 0 stop ends values → last_end ends ≡ stop
Tiles-stop stop ends values tiles = elim (cases_lt 0 (length ends)) [
  | inl some ↦ Tiles-last 0 stop ends values tiles some
  | inr none ↦ last_end-none ends (omega arith) ∙ sym (Tiles-none stop ends values tiles (omega arith))
]

IsWindow-from_Tiles : {A : Type 0} (count : ℕ) (ends : List ℕ) (values : List A) → count < 2 ^ 64 → Tiles 0 count ends values → IsWindow ends 0 count
IsWindow-from_Tiles count ends values small tiles =
    let last = Tiles-stop count ends values tiles in
    record {
      increasing = Tiles-increasing 0 count ends values tiles;
      none = λ none. (refl, Tiles-none count ends values tiles none);
      first = λ _. omega arith;
      last = λ _. omega arith;
      small = omega arith;
    }

-- tiles that show the rows are a tight cover of them
pub IsTightCover-from_Tiles : {A : Type 0} (rows : List A) (ends : List ℕ) (values : List A) → length rows < 2 ^ 64 → Tiles 0 (length rows) ends values
    → ((i : ℕ) → i < length rows → slice_get rows i ≡ shown_at ends values i) → IsTightCover rows ends values
IsTightCover-from_Tiles rows ends values small tiles shows = record {
  covers = Covers-from_shown rows ends values 0 (length rows) (IsWindow-from_Tiles (length rows) ends values small tiles) (Tiles-paired 0 (length rows) ends values tiles) refl
      (λ i h. shows i h ∙ ap (shown_at ends values) (sym (zero-add i)));
  exact = record { start = refl; stop = Tiles-stop (length rows) ends values tiles };
  tight = record { filled = Tiles-first 0 (length rows) ends values tiles; differ = Tiles-differ 0 (length rows) ends values tiles };
}

-- an encoder has closed the runs of `ends` and `values`, and its open run of `value` reaches to row `reached`
pub record Open {A : Type 0} (rows : List A) (reached : ℕ) (ends : List ℕ) (values : List A) (value : A) : Type 0 where
  pub paired : length values ≡ length ends
  pub tiles : Tiles 0 reached (ends ++ reached ∷ []) (values ++ value ∷ [])
  pub shows : (i : ℕ) → i < reached → slice_get rows i ≡ shown_at (ends ++ reached ∷ []) (values ++ value ∷ []) i

-- the first row opens a run
pub Open-first : {A : Type 0} (rows : List A) (value : A) → slice_get rows 0 ≡ Some value → Open rows 1 [] [] value
Open-first rows value row = record {
  paired = refl;
  tiles = (omega arith, tt, refl);
  shows = λ i h.
      let first : i ≡ 0 = omega arith in
      ap (slice_get rows) first ∙ row ∙ sym (shown_at-here 1 [] value [] i h);
}

-- a row of the open run's value goes to the open run
pub Open-same : {A : Type 0} (rows : List A) (reached : ℕ) (ends : List ℕ) (values : List A) (value next : A) → slice_get rows reached ≡ Some next → next ≡ value
    → Open rows reached ends values value → Open rows (reached + 1) ends values value
Open-same rows reached ends values value next row same opened = record {
  paired = opened.paired;
  tiles = Tiles-grow 0 reached (reached + 1) ends values value opened.paired (omega arith) opened.tiles;
  shows = λ i h. elim (cases_lt i reached) [
    | inl before ↦ opened.shows i before ∙ sym (shown_at-grow reached (reached + 1) i ends values value opened.paired (omega arith) before)
    | inr past ↦
        let last : i ≡ reached = omega arith in
        let shown = shown_at-grown 0 reached (reached + 1) ends values value opened.paired (omega arith) opened.tiles in
        ap (slice_get rows) last ∙ row ∙ ap Some same ∙ sym shown ∙ ap (shown_at (ends ++ (reached + 1) ∷ []) (values ++ value ∷ [])) (sym last)
  ];
}

-- a row of another value closes the open run and opens the next
pub Open-next : {A : Type 0} (rows : List A) (reached : ℕ) (ends : List ℕ) (values : List A) (value next : A) → slice_get rows reached ≡ Some next → value ≢ next
    → Open rows reached ends values value → Open rows (reached + 1) (ends ++ reached ∷ []) (values ++ value ∷ []) next
Open-next rows reached ends values value next row differs opened = record {
  paired = length-append values (value ∷ []) ∙ ap (λ (n : ℕ). n + 1) opened.paired ∙ sym (length-append ends (reached ∷ []));
  tiles = Tiles-push 0 reached (reached + 1) ends values value next opened.paired (omega arith) differs opened.tiles;
  shows = λ i h. elim (cases_lt i reached) [
    | inl before ↦ opened.shows i before ∙ sym (shown_at-push reached (reached + 1) i ends values value next opened.paired before)
    | inr past ↦
        let last : i ≡ reached = omega arith in
        let shown = shown_at-pushed 0 reached (reached + 1) (ends ++ reached ∷ []) (values ++ value ∷ []) next (omega arith) opened.tiles in
        ap (slice_get rows) last ∙ row ∙ sym shown
        ∙ ap (shown_at ((ends ++ reached ∷ []) ++ (reached + 1) ∷ []) ((values ++ value ∷ []) ++ next ∷ [])) (sym last)
  ];
}

-- past the last row the open run is closed, and the runs are a tight cover
pub Open-done : {A : Type 0} (rows : List A) (reached : ℕ) (ends : List ℕ) (values : List A) (value : A) → length rows < 2 ^ 64 → reached ≡ length rows
    → Open rows reached ends values value → IsTightCover rows (ends ++ reached ∷ []) (values ++ value ∷ [])
Open-done rows reached ends values value small all opened = IsTightCover-from_Tiles rows (ends ++ reached ∷ []) (values ++ value ∷ []) small
    (subst (λ (n : ℕ). Tiles 0 n (ends ++ reached ∷ []) (values ++ value ∷ [])) all opened.tiles)
    (λ i h. opened.shows i (omega arith))

-- no rows have no runs
pub IsTightCover-of_none : {A : Type 0} (rows : List A) → length rows ≡ 0 → IsTightCover rows [] []
IsTightCover-of_none rows none = IsTightCover-from_Tiles rows [] [] (omega arith) (sym none) (λ i h. absurd (omega arith))
