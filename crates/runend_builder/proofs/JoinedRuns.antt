-- Encodings of joined rows.
use Rattle.std.proofs.Common.{◌≡◌, ◌≢◌, ◌∙◌, ◌+◌, ◌-◌, ◌<◌, ◌≤◌, ◌^◌, ◌++◌, ℕ, List, [], ◌∷◌, Option, Some, None, length, map, take, refl, sym, subst, ap, arith, inl, inr, zero, suc, zero-add}
use Rattle.std.specs.Prelude.{slice_get}
use Rattle.std.proofs.lemmas.Bool.{cases_lt}
use Rattle.std.proofs.lemmas.List.{length-append}
use native.Mathlib.Numerals.{unary_clauses}
use Rattle.column_core.specs.Value.{Value}
use Rattle.runend_windows.specs.Cover.{IsTightCover}
use Rattle.runend_windows.proofs.Grow.{IsTightCover-from_Tiles}
use Rattle.runend_windows.proofs.ShownRuns.{shown_at, shown_at-here, shown_at-past}
use Rattle.runend_windows.proofs.Tiles.{Differs, Tiles, Tiles-from_IsTightCover, Tiles-le, shown-from_IsTightCover}
use Rattle.runend_builder.specs.Encodings.{AtSeam, EncodingOfJoined, behind, without_last}

-- the last item of a list, and all but the last, go by the rest of the list
last_next : {X : Type 0} (x y : X) (xs : List X) → slice_get (x ∷ y ∷ xs) (length (x ∷ y ∷ xs) - 1) ≡ slice_get (y ∷ xs) (length (y ∷ xs) - 1)
last_next x y xs = simp unary_clauses

without_last-next : {X : Type 0} (x y : X) (xs : List X) → without_last (x ∷ y ∷ xs) ≡ x ∷ without_last (y ∷ xs)
without_last-next x y xs = simp unary_clauses

-- tiles after `count` rows
Tiles-behind : {A : Type 0} (count start stop : ℕ) (ends : List ℕ) (values : List A) → Tiles start stop ends values → Tiles (count + start) (count + stop) (behind count ends) values
Tiles-behind count start stop [] [] tiles = ap (λ (k : ℕ). count + k) tiles
Tiles-behind count start stop [] (value ∷ values) tiles = absurd tiles
Tiles-behind count start stop (end ∷ ends) [] tiles = absurd tiles
Tiles-behind count start stop (end ∷ ends) (value ∷ values) tiles =
    let filled = tiles.0 in
    (omega arith, tiles.1, Tiles-behind count end stop ends values tiles.2)

shown-behind : {A : Type 0} (count : ℕ) (ends : List ℕ) (values : List A) (i : ℕ) → shown_at (behind count ends) values (count + i) ≡ shown_at ends values i
shown-behind count [] values i = refl
shown-behind count (end ∷ ends) [] i = refl
shown-behind count (end ∷ ends) (value ∷ values) i = elim (cases_lt i end) [
  | inl before ↦ shown_at-here (count + end) (behind count ends) value values (count + i) (omega arith) ∙ sym (shown_at-here end ends value values i before)
  | inr past ↦
      shown_at-past (count + end) (behind count ends) value values (count + i) (omega arith)
      ∙ shown-behind count ends values i
      ∙ sym (shown_at-past end ends value values i past)
]

-- the values at the seam differ
abbrev DiffersAtSeam : {A : Type 0} → List A → List A → Type 0
DiffersAtSeam {A} values values' = (value value' : A) → slice_get values (length values - 1) ≡ Some value → slice_get values' 0 ≡ Some value' → value ≢ value'

-- a value that differs from the first one of a list, if there is one
differs : {A : Type 0} (value : A) (values : List A) → ((value' : A) → slice_get values 0 ≡ Some value' → value ≢ value') → Differs value values
differs value [] h = tt
differs value (next ∷ values) h = h next refl

-- tiles after tiles
Tiles-append : {A : Type 0} (start mid stop : ℕ) (ends ends' : List ℕ) (values values' : List A) → Tiles start mid ends values → Tiles mid stop ends' values'
    → DiffersAtSeam values values' → Tiles start stop (ends ++ ends') (values ++ values')
Tiles-append start mid stop [] ends' [] values' tiles tiles' seam = subst (λ (k : ℕ). Tiles k stop ends' values') (sym tiles) tiles'
Tiles-append start mid stop [] ends' (value ∷ values) values' tiles tiles' seam = absurd tiles
Tiles-append start mid stop (end ∷ ends) ends' [] values' tiles tiles' seam = absurd tiles
Tiles-append start mid stop (end ∷ []) ends' (value ∷ []) values' tiles tiles' seam =
    (tiles.0, differs value values' (λ value' first. seam value value' refl first), subst (λ (k : ℕ). Tiles k stop ends' values') (sym tiles.2) tiles')
Tiles-append start mid stop (end ∷ []) ends' (value ∷ next_value ∷ values) values' tiles tiles' seam = absurd tiles.2
Tiles-append start mid stop (end ∷ next ∷ ends) ends' (value ∷ []) values' tiles tiles' seam = absurd tiles.2
Tiles-append start mid stop (end ∷ next ∷ ends) ends' (value ∷ next_value ∷ values) values' tiles tiles' seam = (
  tiles.0,
  tiles.1,
  Tiles-append end mid stop (next ∷ ends) ends' (next_value ∷ values) values' tiles.2 tiles'
      (λ a b last first. seam a b (last_next value next_value values ∙ last) first),
)

-- what they show before the seam, and after it
shown-before : {A : Type 0} (start mid : ℕ) (ends ends' : List ℕ) (values values' : List A) (i : ℕ) → Tiles start mid ends values → start ≤ i → i < mid
    → shown_at (ends ++ ends') (values ++ values') i ≡ shown_at ends values i
shown-before start mid [] ends' [] values' i tiles from to = absurd (let same : start ≡ mid = tiles in omega arith)
shown-before start mid [] ends' (value ∷ values) values' i tiles from to = absurd tiles
shown-before start mid (end ∷ ends) ends' [] values' i tiles from to = absurd tiles
shown-before start mid (end ∷ ends) ends' (value ∷ values) values' i tiles from to = elim (cases_lt i end) [
  | inl here ↦ shown_at-here end (ends ++ ends') value (values ++ values') i here ∙ sym (shown_at-here end ends value values i here)
  | inr past ↦
      shown_at-past end (ends ++ ends') value (values ++ values') i past
      ∙ shown-before end mid ends ends' values values' i tiles.2 past to
      ∙ sym (shown_at-past end ends value values i past)
]

shown-behind_seam : {A : Type 0} (start mid : ℕ) (ends ends' : List ℕ) (values values' : List A) (i : ℕ) → Tiles start mid ends values → mid ≤ i
    → shown_at (ends ++ ends') (values ++ values') i ≡ shown_at ends' values' i
shown-behind_seam start mid [] ends' [] values' i tiles from = refl
shown-behind_seam start mid [] ends' (value ∷ values) values' i tiles from = absurd tiles
shown-behind_seam start mid (end ∷ ends) ends' [] values' i tiles from = absurd tiles
shown-behind_seam start mid (end ∷ ends) ends' (value ∷ values) values' i tiles from =
    let order = Tiles-le end mid ends values tiles.2 in
    shown_at-past end (ends ++ ends') value (values ++ values') i (omega arith) ∙ shown-behind_seam end mid ends ends' values values' i tiles.2 from

-- tiles that begin earlier, at a first run that is not empty
Tiles-earlier : {A : Type 0} (start mid stop : ℕ) (ends : List ℕ) (values : List A) (value : A) → start ≤ mid → slice_get values 0 ≡ Some value → Tiles mid stop ends values
    → Tiles start stop ends values
Tiles-earlier start mid stop [] [] value ordered first tiles = absurd (cc)
Tiles-earlier start mid stop [] (other ∷ values) value ordered first tiles = absurd tiles
Tiles-earlier start mid stop (end ∷ ends) [] value ordered first tiles = absurd tiles
Tiles-earlier start mid stop (end ∷ ends) (other ∷ values) value ordered first tiles = let filled = tiles.0 in (omega arith, tiles.1, tiles.2)

-- the last run of tiles, which shows the last value: the tiles before it, which end where it begins
pub record LastRun {A : Type 0} (start mid : ℕ) (ends : List ℕ) (values : List A) (value : A) : Type 0 where
  pub begun : ℕ
  pub ordered : begun < mid
  pub front : Tiles start begun (without_last ends) (without_last values)
  pub differ : (before : A) → slice_get (without_last values) (length (without_last values) - 1) ≡ Some before → before ≢ value
  pub shows : (i : ℕ) → begun ≤ i → i < mid → shown_at ends values i ≡ Some value
  pub shows_front : (i : ℕ) → start ≤ i → i < begun → shown_at ends values i ≡ shown_at (without_last ends) (without_last values) i

-- the first of all items but the last is the first
first_kept : {X : Type 0} (x : X) (xs : List X) (y : X) → slice_get (without_last (x ∷ xs)) 0 ≡ Some y → y ≡ x
first_kept x [] y first = absurd (cc)
first_kept x (z ∷ zs) y first =
    let e : Some x ≡ Some y = ap (λ ws. slice_get ws 0) (sym (without_last-next x z zs)) ∙ first in cc

-- the last but one of three and more items
last_of_two : {A : Type 0} (first second third : A) (values : List A)
    → slice_get (without_last (first ∷ second ∷ third ∷ values)) (length (without_last (first ∷ second ∷ third ∷ values)) - 1)
    ≡ slice_get (without_last (second ∷ third ∷ values)) (length (without_last (second ∷ third ∷ values)) - 1)
last_of_two first second third values =
    rw (without_last-next first second (third ∷ values), without_last-next second third values) (last_next first second (without_last (third ∷ values)))

-- the value before the last one differs from it
last_differs : {A : Type 0} (first second : A) (values : List A) (value : A) → first ≢ second → slice_get (second ∷ values) (length (second ∷ values) - 1) ≡ Some value
    → ((before : A) → slice_get (without_last (second ∷ values)) (length (without_last (second ∷ values)) - 1) ≡ Some before → before ≢ value)
    → (before : A) → slice_get (without_last (first ∷ second ∷ values)) (length (without_last (first ∷ second ∷ values)) - 1) ≡ Some before → before ≢ value
last_differs first second [] value distinct last rest before there = λ same.
    let one : Some first ≡ Some before = there in
    let two : Some second ≡ Some value = last in
    distinct (cc)
last_differs first second (third ∷ values) value distinct last rest before there =
    rest before (sym (last_of_two first second third values) ∙ there)

last_run : {A : Type 0} (start mid : ℕ) (ends : List ℕ) (values : List A) (value : A) → Tiles start mid ends values
    → slice_get values (length values - 1) ≡ Some value → LastRun start mid ends values value
last_run start mid [] [] value tiles last = absurd (cc)
last_run start mid [] (v ∷ values) value tiles last = absurd tiles
last_run start mid (end ∷ ends) [] value tiles last = absurd tiles
last_run start mid (end ∷ []) (v ∷ []) value tiles last =
    let filled = tiles.0 in
    let stop : end ≡ mid = tiles.2 in record {
      begun = start;
      ordered = omega arith;
      front = refl;
      differ = λ before there. absurd (cc);
      shows = λ i from to. shown_at-here end [] v [] i (omega arith) ∙ last;
      shows_front = λ i from to. absurd (omega arith);
    }
last_run start mid (end ∷ []) (v ∷ next_value ∷ values) value tiles last = absurd tiles.2
last_run start mid (end ∷ next ∷ ends) (v ∷ []) value tiles last = absurd tiles.2
last_run start mid (end ∷ next ∷ ends) (v ∷ next_value ∷ values) value tiles last =
    let rest = last_run end mid (next ∷ ends) (next_value ∷ values) value tiles.2 (sym (last_next v next_value values) ∙ last) in
    let order = Tiles-le end rest.begun (without_last (next ∷ ends)) (without_last (next_value ∷ values)) rest.front in record {
      begun = rest.begun;
      ordered = rest.ordered;
      front = rw (without_last-next end next ends, without_last-next v next_value values) (
        tiles.0,
        differs v (without_last (next_value ∷ values)) (λ other first same. tiles.1 (same ∙ first_kept next_value values other first)),
        rest.front,
      );
      differ = last_differs v next_value values value tiles.1 (sym (last_next v next_value values) ∙ last) rest.differ;
      shows = λ i from to. shown_at-past end (next ∷ ends) v (next_value ∷ values) i (omega arith) ∙ rest.shows i from to;
      shows_front = λ i from to. rw (without_last-next end next ends, without_last-next v next_value values) (elim (cases_lt i end) [
        | inl here ↦
            shown_at-here end (next ∷ ends) v (next_value ∷ values) i here
            ∙ sym (shown_at-here end (without_last (next ∷ ends)) v (without_last (next_value ∷ values)) i here)
        | inr past ↦
            shown_at-past end (next ∷ ends) v (next_value ∷ values) i past
            ∙ rest.shows_front i past to
            ∙ sym (shown_at-past end (without_last (next ∷ ends)) v (without_last (next_value ∷ values)) i past)
      ]);
    }

-- items of joined lists
get_before : {X : Type 0} (xs ys : List X) (k : ℕ) → k < length xs → slice_get (xs ++ ys) k ≡ slice_get xs k
get_before [] ys k within = absurd (omega arith)
get_before (x ∷ xs) ys zero within = refl
get_before (x ∷ xs) ys (suc k) within = get_before xs ys k (omega arith)

get_behind : {X : Type 0} (xs ys : List X) (k : ℕ) → slice_get (xs ++ ys) (length xs + k) ≡ slice_get ys k
get_behind [] ys k = ap (slice_get ys) (zero-add k)
get_behind (x ∷ xs) ys k =
    let next : length (x ∷ xs) + k ≡ suc (length xs + k) = omega arith in
    ap (slice_get (x ∷ xs ++ ys)) next ∙ get_behind xs ys k

-- the first run of tiles shows its value up to where they begin
first_shown : {A : Type 0} (start stop : ℕ) (ends : List ℕ) (values : List A) (value : A) (i : ℕ) → Tiles start stop ends values → slice_get values 0 ≡ Some value → i < start
    → shown_at ends values i ≡ Some value
first_shown start stop [] [] value i tiles first before = absurd (cc)
first_shown start stop [] (v ∷ values) value i tiles first before = absurd tiles
first_shown start stop (end ∷ ends) [] value i tiles first before = absurd tiles
first_shown start stop (end ∷ ends) (v ∷ values) value i tiles first before =
    let filled = tiles.0 in
    shown_at-here end ends v values i (omega arith) ∙ first

-- a row after the first part
shown_in_second : (rows rows' : List (Option Value)) (ends' : List ℕ) (values' : List (Option Value)) (i : ℕ) → IsTightCover rows' ends' values'
    → length rows ≤ i → i < length rows + length rows' → slice_get (rows ++ rows') i ≡ shown_at (behind (length rows) ends') values' i
shown_in_second rows rows' ends' values' i cover' from to =
    let parts : i ≡ length rows + (i - length rows) = omega arith in
    ap (slice_get (rows ++ rows')) parts
    ∙ get_behind rows rows' (i - length rows)
    ∙ sym (shown-from_IsTightCover rows' ends' values' (i - length rows) cover' (omega arith))
    ∙ sym (shown-behind (length rows) ends' values' (i - length rows))
    ∙ ap (shown_at (behind (length rows) ends') values') (sym parts)

-- tiles of the second part, after the first
second_tiles : (rows rows' : List (Option Value)) (ends' : List ℕ) (values' : List (Option Value)) → IsTightCover rows' ends' values'
    → Tiles (length rows) (length (rows ++ rows')) (behind (length rows) ends') values'
second_tiles rows rows' ends' values' cover' =
    let start : length rows + 0 ≡ length rows = omega arith in
    let stop : length rows + length rows' ≡ length (rows ++ rows') = sym (length-append rows rows') in
    let tiles : Tiles (length rows + 0) (length rows + length rows') (behind (length rows) ends') values' =
    Tiles-behind (length rows) 0 (length rows') ends' values' (Tiles-from_IsTightCover rows' ends' values' cover') in
    subst (λ (k : ℕ). Tiles k (length (rows ++ rows')) (behind (length rows) ends') values') start
    (subst (λ (k : ℕ). Tiles (length rows + 0) k (behind (length rows) ends') values') stop tiles)

-- runs that follow each other
apart : (rows rows' : List (Option Value)) (ends ends' : List ℕ) (values values' : List (Option Value))
    → length rows + length rows' < 2 ^ 64 → IsTightCover rows ends values → IsTightCover rows' ends' values'
    → DiffersAtSeam values values' → IsTightCover (rows ++ rows') (ends ++ behind (length rows) ends') (values ++ values')
apart rows rows' ends ends' values values' small cover cover' seam =
    let long = length-append rows rows' in
    let tiles = Tiles-from_IsTightCover rows ends values cover in
    let tiles' = second_tiles rows rows' ends' values' cover' in
    IsTightCover-from_Tiles (rows ++ rows') (ends ++ behind (length rows) ends') (values ++ values') (omega arith)
    (Tiles-append 0 (length rows) (length (rows ++ rows')) ends (behind (length rows) ends') values values' tiles tiles' seam)
    (λ i within. elim (cases_lt i (length rows)) [
      | inl before ↦
          get_before rows rows' i before
          ∙ sym (shown-from_IsTightCover rows ends values i cover before)
          ∙ sym (shown-before 0 (length rows) ends (behind (length rows) ends') values values' i tiles (omega arith) before)
      | inr from ↦
          shown_in_second rows rows' ends' values' i cover' from (omega arith)
          ∙ sym (shown-behind_seam 0 (length rows) ends (behind (length rows) ends') values values' i tiles from)
    ])

-- the two runs at the seam are one
together : (rows rows' : List (Option Value)) (ends ends' : List ℕ) (values values' : List (Option Value))
    → length rows + length rows' < 2 ^ 64 → IsTightCover rows ends values → IsTightCover rows' ends' values' → (value : Option Value) → AtSeam values values' value value
    → IsTightCover (rows ++ rows') (without_last ends ++ behind (length rows) ends') (without_last values ++ values')
together rows rows' ends ends' values values' small cover cover' value seam =
    let long = length-append rows rows' in
    let tiles = Tiles-from_IsTightCover rows ends values cover in
    let tiles' = second_tiles rows rows' ends' values' cover' in
    let run = last_run 0 (length rows) ends values value tiles seam.last in
    let ordered = run.ordered in
    let earlier = Tiles-earlier run.begun (length rows) (length (rows ++ rows')) (behind (length rows) ends') values' value (omega arith) seam.first tiles' in
    let distinct : DiffersAtSeam (without_last values) values' =
    λ before first last there same. let one : Some first ≡ Some value = sym there ∙ seam.first in run.differ before last (same ∙ (let e : first ≡ value = cc in e)) in
    IsTightCover-from_Tiles (rows ++ rows') (without_last ends ++ behind (length rows) ends') (without_last values ++ values') (omega arith)
    (Tiles-append 0 run.begun (length (rows ++ rows')) (without_last ends) (behind (length rows) ends') (without_last values) values' run.front earlier distinct)
    (λ i within. elim (cases_lt i (length rows)) [
      | inl before ↦ get_before rows rows' i before ∙ sym (shown-from_IsTightCover rows ends values i cover before) ∙ elim (cases_lt i run.begun) [
        | inl front ↦
            run.shows_front i (omega arith) front
            ∙ sym (shown-before 0 run.begun (without_last ends) (behind (length rows) ends') (without_last values) values' i run.front (omega arith) front)
        | inr last ↦
            run.shows i last before
            ∙ sym (first_shown (length rows) (length (rows ++ rows')) (behind (length rows) ends') values' value i tiles' seam.first before)
            ∙ sym (shown-behind_seam 0 run.begun (without_last ends) (behind (length rows) ends') (without_last values) values' i run.front last)
      ]
      | inr from ↦
          shown_in_second rows rows' ends' values' i cover' from (omega arith)
          ∙ sym (shown-behind_seam 0 run.begun (without_last ends) (behind (length rows) ends') (without_last values) values' i run.front (omega arith))
    ])

pub encoding_of_joined : EncodingOfJoined
encoding_of_joined rows rows' ends ends' values values' small cover cover' = (
  (λ distinct. apart rows rows' ends ends' values values' small cover cover'
      (λ value value' last first. distinct value value' (record { last = last; first = first }))),
  (λ value seam. together rows rows' ends ends' values values' small cover cover' value seam),
)
