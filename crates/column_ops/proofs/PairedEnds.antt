-- The least and the greatest of rows that are looked at in two ranges at once, a row of each in turn.
use Rattle.std.proofs.Common.{◌≡◌, ◌≢◌, ◌∙◌, ◌+◌, ◌<◌, ◌≤◌, ◌⊎◌, ℕ, List, Bool, true, false, Option, Some, None, cond, get_or, length, refl, sym, ap, subst, arith, inl, inr}
use Rattle.std.specs.Prelude.{Contains, IsSome, slice_get, slice_range}
use Rattle.std.specs.Ordering.{is_gt, is_lt, ord_max, ord_min, ordering_reverse}
use Rattle.std.specs.declared.cmp.Ordering.{Ordering}
use Rattle.std.specs.declared.cmp.Ordering.TheVariants.{Less, Equal, Greater}
use Rattle.std.proofs.lemmas.Bool.{cases_lt, false≢true}
use Rattle.std.proofs.lemmas.Cmp.{tied_itself, upto}
use Rattle.column_core.specs.Value.{FlatValue, Value}
use Rattle.column_ops.specs.Items.{flagged_rows, item_row}
use Rattle.column_ops.specs.Order.{flat_cmp, row_cmp}
use Rattle.column_ops.specs.OrderFacts.{IsFurthest}
use Rattle.column_ops.proofs.ItemRows.{null-here, valid-here}
use Rattle.column_ops.proofs.OrderLaws.{row_total}
use Rattle.column_ops.proofs.RowRanges.{Contains-from_range, Contains-range}

-- ---- no row past another

not_greater : (o : Ordering) → o ≢ Greater → is_gt o ≡ false
not_greater Less h = refl
not_greater Equal h = refl
not_greater Greater h = absurd (h refl)

from_not_gt : (o : Ordering) → is_gt o ≡ false → o ≢ Greater
from_not_gt Less h = λ e. cc
from_not_gt Equal h = λ e. cc
from_not_gt Greater h = cc

not_back : (a b : Option Value) → row_cmp a b ≢ Less → row_cmp b a ≢ Greater
not_back a b h = λ e. h (row_total.antisymm a b ∙ ap ordering_reverse e)

not_forth : (a b : Option Value) → row_cmp b a ≢ Greater → row_cmp a b ≢ Less
not_forth a b h = λ e. h (row_total.antisymm b a ∙ ap ordering_reverse e)

-- what is not past a row that is not past another is not past that one
not_past-chain : (side : Ordering) (a b c : Option Value) → side ≢ Equal → row_cmp a b ≢ side → row_cmp b c ≢ side → row_cmp a c ≢ side
not_past-chain Less a b c sided h g =
    not_forth a c
    (from_not_gt (row_cmp c a) (upto row_total c b a (not_greater (row_cmp c b) (not_back b c g)) (not_greater (row_cmp b a) (not_back a b h))))
not_past-chain Equal a b c sided h g = absurd (sided refl)
not_past-chain Greater a b c sided h g =
    from_not_gt (row_cmp a c) (upto row_total a b c (not_greater (row_cmp a b) h) (not_greater (row_cmp b c) g))

-- no row is past itself
not_past-itself : (side : Ordering) (a : Option Value) → side ≢ Equal → row_cmp a a ≢ side
not_past-itself side a sided = λ e. sided (sym e ∙ tied_itself row_total a)

-- ---- the one of two items that is further to a side

-- one of both, and neither is past it
pub record IsFurther {S : Type 0} (side : Ordering) (value : S → FlatValue) (left right one : S) : Type 0 where
  pub either : (one ≡ left) ⊎ (one ≡ right)
  pub left_not_past : row_cmp (item_row value left) (item_row value one) ≢ side
  pub right_not_past : row_cmp (item_row value right) (item_row value one) ≢ side

min-of_cmp : {S : Type 0} (value : S → FlatValue) (left right : S) (o : Ordering) → row_cmp (item_row value right) (item_row value left) ≡ o
    → IsFurther Less value left right (cond (is_lt o) right left)
min-of_cmp value left right Less e = record {
  either = inr refl;
  left_not_past = not_forth (item_row value left) (item_row value right) (rw e (λ f. cc));
  right_not_past = not_past-itself Less (item_row value right) (λ f. cc);
}
min-of_cmp value left right Equal e = record {
  either = inl refl;
  left_not_past = not_past-itself Less (item_row value left) (λ f. cc);
  right_not_past = rw e (λ f. cc);
}
min-of_cmp value left right Greater e = record {
  either = inl refl;
  left_not_past = not_past-itself Less (item_row value left) (λ f. cc);
  right_not_past = rw e (λ f. cc);
}

-- the lesser of two items
pub min-further : {S : Type 0} (value : S → FlatValue) (cmp : S → S → Ordering) → ((a b : S) → cmp a b ≡ flat_cmp (value a) (value b)) → (left right : S)
    → IsFurther Less value left right (ord_min cmp left right)
min-further value cmp ordered left right = min-of_cmp value left right (cmp right left) (sym (ordered right left))

max-of_cmp : {S : Type 0} (value : S → FlatValue) (left right : S) (o : Ordering) → row_cmp (item_row value right) (item_row value left) ≡ o
    → IsFurther Greater value left right (cond (is_lt o) left right)
max-of_cmp value left right Less e = record {
  either = inl refl;
  left_not_past = not_past-itself Greater (item_row value left) (λ f. cc);
  right_not_past = rw e (λ f. cc);
}
max-of_cmp value left right Equal e = record {
  either = inr refl;
  left_not_past = λ f. let g : row_cmp (item_row value right) (item_row value left) ≡ Less = row_total.antisymm (item_row value right) (item_row value left) ∙ ap ordering_reverse f in cc;
  right_not_past = not_past-itself Greater (item_row value right) (λ f. cc);
}
max-of_cmp value left right Greater e = record {
  either = inr refl;
  left_not_past = λ f. let g : row_cmp (item_row value right) (item_row value left) ≡ Less = row_total.antisymm (item_row value right) (item_row value left) ∙ ap ordering_reverse f in cc;
  right_not_past = not_past-itself Greater (item_row value right) (λ f. cc);
}

-- the greater of two items
pub max-further : {S : Type 0} (value : S → FlatValue) (cmp : S → S → Ordering) → ((a b : S) → cmp a b ≡ flat_cmp (value a) (value b)) → (left right : S)
    → IsFurther Greater value left right (ord_max cmp left right)
max-further value cmp ordered left right = max-of_cmp value left right (cmp right left) (sym (ordered right left))

-- ---- rows that were looked at

-- no row at these places is a value past this one
abbrev pub NonePast : Ordering → List (Option Value) → ℕ → ℕ → Option Value → Type 0
NonePast side rows start stop best = (k : ℕ) → start ≤ k → k < stop → (row : Option Value) → slice_get rows k ≡ Some row → IsSome row → row_cmp row best ≢ side

-- what an item that was looked at in place of a row says of it: it is among all rows, and is the row, where that is a value
pub record IsLookedAt (rows all : List (Option Value)) (place : ℕ) (shown : Option Value) : Type 0 where
  pub among : Contains all shown
  pub is : (row : Option Value) → slice_get rows place ≡ Some row → IsSome row → row ≡ shown

-- a row among all of them past which no row of two ranges is
pub record IsFurthestOfTwo (side : Ordering) (rows all : List (Option Value)) (start stop second end : ℕ) (best : Option Value) : Type 0 where
  pub among : Contains all best
  pub low : NonePast side rows start stop best
  pub high : NonePast side rows second end best

-- a range goes on by a row that is not past the new best one, past which the old one is not
NonePast-next : (side : Ordering) (rows all : List (Option Value)) (start stop : ℕ) (best shown next : Option Value) → side ≢ Equal
    → IsLookedAt rows all stop shown → row_cmp best next ≢ side → row_cmp shown next ≢ side → NonePast side rows start stop best → NonePast side rows start (stop + 1) next
NonePast-next side rows all start stop best shown next sided looked stays here before k low high row at some =
    elim (cases_lt k stop) [
      | inl earlier ↦ not_past-chain side row best next sided (before k low earlier row at some) stays
      | inr from ↦
          let place : k ≡ stop = omega arith in
          let same : row ≡ shown = looked.is row (ap (slice_get rows) (sym place) ∙ at) some in
          rw same here
    ]

-- either of two that are among all rows is
either-among : (all : List (Option Value)) (S : Type 0) (value : S → FlatValue) (left right one : S) → (one ≡ left) ⊎ (one ≡ right)
    → Contains all (item_row value left) → Contains all (item_row value right) → Contains all (item_row value one)
either-among all S value left right one (inl is) first second = rw is first
either-among all S value left right one (inr is) first second = rw is second

-- both ranges go on by one row: the further of the two rows is compared with the furthest so far
pub two-next : {S : Type 0} (side : Ordering) (value : S → FlatValue) (rows all : List (Option Value)) (start stop second end : ℕ) (best left right pair next : S) → side ≢ Equal
    → IsLookedAt rows all stop (item_row value left) → IsLookedAt rows all end (item_row value right)
    → IsFurther side value left right pair → IsFurther side value best pair next
    → IsFurthestOfTwo side rows all start stop second end (item_row value best)
    → IsFurthestOfTwo side rows all start (stop + 1) second (end + 1) (item_row value next)
two-next {S = S} side value rows all start stop second end best left right pair next sided first last of_pair of_next before =
    let row : S → Option Value = item_row value in
    let low = not_past-chain side (row left) (row pair) (row next) sided of_pair.left_not_past of_next.right_not_past in
    let high = not_past-chain side (row right) (row pair) (row next) sided of_pair.right_not_past of_next.right_not_past in
    record {
      among = either-among all S value best pair next of_next.either before.among (either-among all S value left right pair of_pair.either first.among last.among);
      low = NonePast-next side rows all start stop (row best) (row left) (row next) sided first of_next.left_not_past low before.low;
      high = NonePast-next side rows all second end (row best) (row right) (row next) sided last of_next.left_not_past high before.high;
    }

-- before any row of either range
pub two-none : (side : Ordering) (rows all : List (Option Value)) (start stop second end : ℕ) (best : Option Value) → stop ≤ start → end ≤ second → Contains all best
    → IsFurthestOfTwo side rows all start stop second end best
two-none side rows all start stop second end best none nor has = record {
  among = has;
  low = λ k low high row at some. absurd (omega (arith, low, high, none));
  high = λ k low high row at some. absurd (omega (arith, low, high, nor));
}

-- what is among rows is among these and the next ones
pub Contains-longer : (rows : List (Option Value)) (start stop last : ℕ) (row : Option Value) → start ≤ stop → stop ≤ last → last ≤ length rows
    → Contains (slice_range rows start stop) row → Contains (slice_range rows start last) row
Contains-longer rows start stop last row ordered later within has =
    let found = Contains-from_range rows start stop row ordered (omega (arith, later, within)) has in
    Contains-range rows start last found.0 row within found.1 (omega (arith, found.2, later)) found.3

-- before any row of the second range: the furthest of the rows of the first one
pub two-init : (side : Ordering) (rows : List (Option Value)) (start stop last second : ℕ) (best : Option Value) → start ≤ stop → stop ≤ last → last ≤ length rows
    → IsFurthest side (slice_range rows start stop) best → IsFurthestOfTwo side rows (slice_range rows start last) start stop second second best
two-init side rows start stop last second best ordered later within furthest = record {
  among = Contains-longer rows start stop last best ordered later within furthest.among;
  low = λ k low high row at some. furthest.none_past row (Contains-range rows start stop k row (omega (arith, later, within)) low high at) some;
  high = λ k low high row at some. absurd (omega (arith, low, high));
}

-- once the first range has reached the second one, and that its end: the furthest of all rows
pub two-all : (side : Ordering) (rows : List (Option Value)) (start stop second last : ℕ) (best : Option Value) → start ≤ last → last ≤ length rows → second ≤ stop → IsSome best
    → IsFurthestOfTwo side rows (slice_range rows start last) start stop second last best → IsFurthest side (slice_range rows start last) best
two-all side rows start stop second last best ordered within met value two = record {
  value = value;
  among = two.among;
  none_past = λ other has some.
      let at = Contains-from_range rows start last other ordered within has in
      elim (cases_lt at.0 stop) [
        | inl early ↦ two.low at.0 at.1 early other at.3 some
        | inr late ↦ two.high at.0 (omega (arith, late)) at.2 other at.3 some
      ];
}

-- ---- what is looked at

-- an item in the place of its row
pub looked-valid : {S : Type 0} (value : S → FlatValue) (rows all : List (Option Value)) (place : ℕ) (item : S) → slice_get rows place ≡ Some (item_row value item)
    → Contains all (item_row value item) → IsLookedAt rows all place (item_row value item)
looked-valid value rows all place item here has = record {
  among = has;
  is = λ row at some. let same : Some row ≡ Some (item_row value item) = sym at ∙ here in cc;
}

looked-null : (rows all : List (Option Value)) (place : ℕ) (shown : Option Value) → slice_get rows place ≡ Some None → Contains all shown → IsLookedAt rows all place shown
looked-null rows all place shown here has = record {
  among = has;
  is = λ row at some. let same : Some row ≡ Some None = sym at ∙ here in let none : row ≡ None = cc in absurd (false≢true (subst IsSome none some));
}

-- an item in the place of its row where its flag is true, else one that is among the rows already
pub looked-flagged : {S : Type 0} (value : S → FlatValue) (items : List S) (flags : List Bool) (start last place : ℕ) (item first : S) (flag : Bool)
    → place < length items → last ≤ length (flagged_rows value items flags) → start ≤ place → place < last → item ≡ get_or items place item → slice_get flags place ≡ Some flag
    → Contains (slice_range (flagged_rows value items flags) start last) (item_row value first)
    → IsLookedAt (flagged_rows value items flags) (slice_range (flagged_rows value items flags) start last) place (item_row value (cond flag item first))
looked-flagged value items flags start last place item first true inside within low high is flag has =
    let rows = flagged_rows value items flags in
    let here = valid-here value items flags place item inside is flag in
    looked-valid value rows (slice_range rows start last) place item here (Contains-range rows start last place (item_row value item) within low high here)
looked-flagged value items flags start last place item first false inside within low high is flag has =
    let rows = flagged_rows value items flags in
    looked-null rows (slice_range rows start last) place (item_row value first) (null-here value items flags place inside flag) has
