-- What runs show at a position, by one recursion along ends and values, and covers by it.
use Rattle.std.proofs.Common.{◌≡◌, ℕ, ◌+◌, ◌<◌, ◌≤◌, List, [], ◌∷◌, Option, Some, None, length, if◌then◌else◌, nat_lt, sym, ◌∙◌, ap, arith, add-one, inl, inr}
use Rattle.std.proofs.lemmas.Bool.{cases_lt}
use Rattle.std.proofs.lemmas.Bool.Decides.{nat_tests}
use Rattle.std.proofs.lemmas.Option.{slice_get_past}
use Rattle.std.specs.List.{slice_get}
use Rattle.runend_windows.specs.Cover.{Covers}
use Rattle.runend_windows.specs.Window.{run_at, IsRunAt, IsWindow}
use Rattle.runend_windows.proofs.Lists.{equal_by_slice_get}
use Rattle.runend_windows.proofs.RunAt.{run_at-here, run_at-past, run_at-from_IsRunAt}

-- the value of the first run that ends past the position: proofs go along both lists at once
abbrev pub shown_at : {A : Type 0} → List ℕ → List A → ℕ → Option A
shown_at [] values position = None
shown_at (end ∷ ends) [] position = None
shown_at (end ∷ ends) (value ∷ values) position = if nat_lt position end then Some value else shown_at ends values position

pub shown_at-here : {A : Type 0} (end : ℕ) (ends : List ℕ) (value : A) (values : List A) (position : ℕ) → position < end
    → shown_at (end ∷ ends) (value ∷ values) position ≡ Some value
shown_at-here end ends value values position h = grind (arith, nat_tests)

pub shown_at-past : {A : Type 0} (end : ℕ) (ends : List ℕ) (value : A) (values : List A) (position : ℕ) → end ≤ position
    → shown_at (end ∷ ends) (value ∷ values) position ≡ shown_at ends values position
shown_at-past end ends value values position h = grind (arith, nat_tests)

-- it is the value of the position's run
pub shown_at-run_at : {A : Type 0} (ends : List ℕ) (values : List A) (position : ℕ) → length values ≡ length ends
    → shown_at ends values position ≡ slice_get values (run_at ends position)
shown_at-run_at [] values position paired = sym (slice_get_past values 0 (omega arith))
shown_at-run_at (end ∷ ends) [] position paired = cc
shown_at-run_at (end ∷ ends) (value ∷ values) position paired = elim (cases_lt position end) [
  | inl before ↦ shown_at-here end ends value values position before ∙ ap (slice_get (value ∷ values)) (sym (run_at-here end ends position before))
  | inr past ↦
      shown_at-past end ends value values position past
      ∙ shown_at-run_at ends values position (omega arith)
      ∙ ap (slice_get (value ∷ values)) (sym (run_at-past end ends position past ∙ add-one (run_at ends position)))
]

-- and of the run given by index
pub shown_at-run : {A : Type 0} (ends : List ℕ) (values : List A) (position run : ℕ) → length values ≡ length ends → IsRunAt ends position run
    → shown_at ends values position ≡ slice_get values run
shown_at-run ends values position run paired r = shown_at-run_at ends values position paired ∙ ap (slice_get values) (run_at-from_IsRunAt ends position run r)

-- each row of a cover is shown
pub shown-from_Covers : {A : Type 0} (rows : List A) (ends : List ℕ) (values : List A) (offset count i : ℕ) → Covers rows ends values offset count
    → i < count → slice_get rows i ≡ shown_at ends values (offset + i)
shown-from_Covers rows ends values offset count i cover h = cover.each i h ∙ sym (shown_at-run_at ends values (offset + i) cover.paired)

-- runs that show each row of a window cover it
pub Covers-from_shown : {A : Type 0} (rows : List A) (ends : List ℕ) (values : List A) (offset count : ℕ) → IsWindow ends offset count → length values ≡ length ends
    → length rows ≡ count → ((i : ℕ) → i < count → slice_get rows i ≡ shown_at ends values (offset + i)) → Covers rows ends values offset count
Covers-from_shown rows ends values offset count window paired counted shows = record {
  window = window;
  paired = paired;
  counted = counted;
  each = λ i h. shows i h ∙ shown_at-run_at ends values (offset + i) paired;
}

-- two lists covered by the same parts are equal
pub equal_from_Covers : {A : Type 0} (rows rows' : List A) (ends : List ℕ) (values : List A) (offset count : ℕ)
    → Covers rows ends values offset count → Covers rows' ends values offset count → rows ≡ rows'
equal_from_Covers rows rows' ends values offset count cover cover' =
    equal_by_slice_get rows rows' (cover.counted ∙ sym cover'.counted) (λ i h.
    let counted = cover.counted in
    let row = cover.each i (omega arith) in
    let row' = cover'.each i (omega arith) in
    cc)
