-- Ends that are moved one after another, in the memory that they are in.
use Rattle.std.proofs.Common.{◌≡◌, ◌≢◌, ℕ, ◌+◌, ◌-◌, ◌<◌, ◌≤◌, List, [], ◌∷◌, ◌++◌, length, map, min, drop, take, get_or, set, slice_index, refl, sym, ◌∙◌, ap, arith, append-nil, append_assoc, inl, inr}
use Rattle.std.proofs.lemmas.Bool.{cases_eq, cases_lt}
use Rattle.std.proofs.lemmas.List.{drop_all, drop_more, ext_get_or, get_or-append_right, get_or-map, get_or-set_other, get_or-set_same, length-map, length-set, length-take-le, map_more, set_at, take_all}
use Rattle.runend_windows.specs.Window.{last_end, IsWindow}
use Rattle.runend_windows.proofs.RunAt.{ended_before, ends_past}
use Rattle.runend_encode.specs.Joined.{AllHaveRows}
use Rattle.runend_encode.proofs.Joining.{last-windowed, long-windowed, windowed, windowed-at}

-- the ends before an index are moved
abbrev pub moved_before : List ℕ → ℕ → ℕ → List ℕ
moved_before ends rows i = map (λ end. end - rows) (take i ends) ++ drop i ends

-- the end at the index is as it was
moved-here : (ends : List ℕ) (rows i : ℕ) → i < length ends → slice_index (moved_before ends rows i) i ≡ slice_index ends i
moved-here ends rows i within =
    let moved = map (λ end. end - rows) (take i ends) in
    let long : length moved ≡ i = length-map (take i ends) (λ end. end - rows) ∙ length-take-le i ends (omega arith) in
    let none : i - i ≡ 0 = omega arith in
    ap (λ (rest : List ℕ). slice_index (moved ++ rest) i) (drop_more ends i 0 within)
    ∙ get_or-append_right moved (slice_index ends i ∷ drop (i + 1) ends) i i 0 long (omega arith) ∙ rw none refl

pub read-here : {S : Type 0} (natural : S → ℕ) (ends before : List S) (rows i : ℕ) (x : S) → i < length ends → i < length before
    → map natural ends ≡ moved_before (map natural before) rows i → natural (get_or ends i x) ≡ natural (get_or before i x)
read-here natural ends before rows i x within inside moved =
    let long = length-map before natural in
    sym (get_or-map natural ends i x 0 within) ∙ ap (λ (ns : List ℕ). slice_index ns i) moved
    ∙ moved-here (map natural before) rows i (omega arith) ∙ get_or-map natural before i x 0 inside

-- and is moved next
pub moved-next : (ends before : List ℕ) (rows i end : ℕ) → i < length before → end ≡ slice_index before i - rows → ends ≡ moved_before before rows i
    → set ends i end ≡ moved_before before rows (i + 1)
moved-next ends before rows i end within is moved =
    let done = map (λ end. end - rows) (take i before) in
    let rest = drop (i + 1) before in
    let long : length done ≡ i = length-map (take i before) (λ end. end - rows) ∙ length-take-le i before (omega arith) in
    let next : map (λ end. end - rows) (take (i + 1) before) ++ rest ≡ done ++ ((slice_index before i - rows) ∷ rest) =
    ap (λ (ns : List ℕ). ns ++ rest) (map_more (λ end. end - rows) before i 0 within) ∙ append_assoc done ((slice_index before i - rows) ∷ []) rest in
    ap (λ (ns : List ℕ). set ns i end) (moved ∙ ap (λ (ns : List ℕ). done ++ ns) (drop_more before i 0 within))
    ∙ set_at done (slice_index before i) rest end i long ∙ ap (λ (n : ℕ). done ++ (n ∷ rest)) is ∙ sym next

-- until all are
pub moved-all : (ends before : List ℕ) (rows i : ℕ) → length before ≤ i → ends ≡ moved_before before rows i → ends ≡ map (λ end. end - rows) before
moved-all ends before rows i all moved =
    moved ∙ ap (λ (ns : List ℕ). map (λ end. end - rows) (take i before) ++ ns) (drop_all i before all) ∙ append-nil (map (λ end. end - rows) (take i before))
    ∙ ap (map (λ end. end - rows)) (take_all i before all)

-- no rows move no end
pub moved-none : (ends : List ℕ) (rows : ℕ) → rows ≡ 0 → ends ≡ map (λ end. end - rows) ends
moved-none [] rows none = refl
moved-none (end ∷ ends) rows none =
    let same : end ≡ end - rows = omega arith in
    ap (λ (n : ℕ). n ∷ ends) same ∙ ap (λ (ns : List ℕ). (end - rows) ∷ ns) (moved-none ends rows none)

-- an item that is put where it is
set-here : (items : List ℕ) (k item : ℕ) → slice_index items k ≡ item → set items k item ≡ items
set-here items k item is =
    ext_get_or 0 (set items k item) items (length-set items k item)
    (λ j h. let within : j < length items = omega (arith, h, length-set items k item) in elim (cases_eq j k) [
      | inl same ↦ rw same (get_or-set_same items k item 0 (omega arith) ∙ sym is)
      | inr other ↦ get_or-set_other items k j item 0 other
    ])

-- each run that shows a row ends past the offset
pub past-offset : (ends : List ℕ) (offset count run : ℕ) → AllHaveRows ends offset count → run < length ends → offset < slice_index ends run
past-offset ends offset count run shown within =
    let has = shown run within in
    let holds = has.holds in
    let past : offset + has.row < slice_index ends run = rw holds at (ends_past ends (offset + has.row) (omega arith)) in
    omega arith

-- the last run ends no earlier than the window
pub last-moved : (ends : List ℕ) (offset count : ℕ) → IsWindow ends offset count → count ≤ last_end (map (λ end. end - offset) ends)
last-moved [] offset count window = let none = (window.none refl).1 in omega arith
last-moved (end ∷ ends) offset count window =
    let all = end ∷ ends in
    let long = length-map all (λ end. end - offset) in
    let place : length (map (λ end. end - offset) all) - 1 ≡ length all - 1 = omega arith in
    let is = ap (slice_index (map (λ end. end - offset) all)) place ∙ get_or-map (λ end. end - offset) all (length all - 1) 0 0 (omega arith) in
    elim (cases_lt 0 count) [
      | inl some ↦ let last = window.last some in omega arith
      | inr none ↦ omega arith
    ]

-- where each run shows a row, only the last one ends after the window
pub windowed-moved : (ends : List ℕ) (offset count : ℕ) → IsWindow ends offset count → AllHaveRows ends offset count
    → set (map (λ end. end - offset) ends) (length ends - 1) count ≡ map (λ end. min (end - offset) count) ends
windowed-moved ends offset count window shown =
    let moved = map (λ end. end - offset) ends in
    let long = length-map ends (λ end. end - offset) in
    let stop = last-windowed ends offset count window in
    ext_get_or 0 (set moved (length ends - 1) count) (windowed ends offset count) (length-set moved (length ends - 1) count ∙ long ∙ sym (long-windowed ends offset count))
    (λ k h. let within : k < length ends = omega (arith, h, length-set moved (length ends - 1) count) in elim (cases_lt k (length ends - 1)) [
      | inl before ↦
          let has = shown (k + 1) (omega arith) in
          let inside = has.within in
          let ended = ended_before ends (offset + has.row) k (omega (arith, has.holds)) in
          let other : k ≢ length ends - 1 = λ same. omega arith in
          get_or-set_other moved (length ends - 1) k count 0 other ∙ get_or-map (λ end. end - offset) ends k 0 0 within ∙ omega (arith, windowed-at ends offset count k within)
      | inr last ↦
          let at : k ≡ length ends - 1 = omega arith in
          let all = long-windowed ends offset count in
          let place : length (windowed ends offset count) - 1 ≡ length ends - 1 = omega arith in
          rw at (get_or-set_same moved (length ends - 1) count 0 (omega arith) ∙ sym stop ∙ ap (slice_index (windowed ends offset count)) place)
    ])

-- without an offset, ends of which the last is that of the window stay
pub windowed-same : (ends : List ℕ) (offset count : ℕ) → IsWindow ends offset count → AllHaveRows ends offset count → offset ≡ 0 → last_end ends ≡ count
    → ends ≡ map (λ end. min (end - offset) count) ends
windowed-same ends offset count window shown first last =
    sym (set-here ends (length ends - 1) count last) ∙ ap (λ (ns : List ℕ). set ns (length ends - 1) count) (moved-none ends offset first)
    ∙ windowed-moved ends offset count window shown
