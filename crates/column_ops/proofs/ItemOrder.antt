-- Rows that are all one, and rows that step up, by what loops over items answer.
use Rattle.std.proofs.Common.{◌≡◌, ◌∙◌, ◌+◌, ◌-◌, ◌<◌, ◌≤◌, ℕ, zero, suc, List, Bool, true, false, ◌&&◌, Option, Some, None, add-zero, length, get_or, refl, sym, ap, arith}
use Rattle.std.specs.Prelude.{◌↔◌, slice_get, slice_range, All, IsTrue}
use Rattle.std.specs.Ordering.{is_eq}
use Rattle.std.specs.declared.cmp.Ordering.{Ordering}
use Rattle.std.specs.declared.cmp.Ordering.TheVariants.{Less, Equal, Greater}
use Rattle.std.proofs.lemmas.Bool.{and_from, and_parts, false≢true}
use Rattle.std.proofs.lemmas.Cmp.{tied_itself}
use Rattle.std.proofs.lemmas.List.Elements.{All-contains}
use Rattle.std.proofs.lemmas.Option.{slice_get-get_or}
use Rattle.column_base.proofs.Ranges.{get_or-slice_range, length-slice_range}
use Rattle.column_core.specs.Value.{FlatValue, Value}
use Rattle.column_ops.specs.Items.{item_row, AreAll}
use Rattle.column_ops.specs.Order.{flat_cmp, row_cmp}
use Rattle.column_ops.specs.OrderFacts.{IsConstant, IsSorted}
use Rattle.column_ops.specs.Steps.{is_step_of, AreSteps}
use Rattle.column_ops.proofs.ItemRows.{from-join, from-next}
use Rattle.column_ops.proofs.OrderLaws.{flat_equal, flat_total}
use Rattle.column_ops.proofs.RowRanges.{get_or-read, steps_of_sorted, Contains-range, IsConstant-same, IsSorted-steps}

-- rows that are all one are constant
pub IsConstant-all : (rows : List (Option Value)) (start stop : ℕ) (row : Option Value) → start ≤ stop → stop ≤ length rows → AreAll rows start stop row
    → IsConstant (slice_range rows start stop)
IsConstant-all rows start stop row ordered inside all =
    IsConstant-same rows start stop ordered inside (λ k low high. all k low high ∙ sym (all start (omega arith) (omega arith)))

-- constant rows are all the first one
pub AreAll-constant : (rows : List (Option Value)) (start stop : ℕ) (row : Option Value) → stop ≤ length rows → slice_get rows start ≡ Some row
    → IsConstant (slice_range rows start stop) → AreAll rows start stop row
AreAll-constant rows start stop row inside here constant k low high =
    let other = get_or rows k row in
    let there : slice_get rows k ≡ Some other = slice_get-get_or rows k row (omega arith) in
    let same = constant other row (Contains-range rows start stop k other inside low high there) (Contains-range rows start stop start row inside (omega arith) (omega arith) here) in
    there ∙ ap (λ (r : Option Value). Some r) same

-- rows that are all null are constant
pub IsConstant-nulls : (rows : List (Option Value)) → All (λ row. row ≡ None) rows → IsConstant rows
IsConstant-nulls rows nulls a b left right =
    All-contains (λ (row : Option Value). row ≡ None) rows a nulls left ∙ sym (All-contains (λ (row : Option Value). row ≡ None) rows b nulls right)

-- items that are equal in the order have one row
row-equal : {S : Type 0} (value : S → FlatValue) (a b : S) (o : Ordering) → o ≡ flat_cmp (value a) (value b) → is_eq o ≡ true → item_row value a ≡ item_row value b
row-equal value a b Less e h = cc
row-equal value a b Equal e h = ap (item_row (λ (v : FlatValue). v)) (flat_equal (value a) (value b) (sym e))
row-equal value a b Greater e h = cc

-- items of one row are equal in the order
equal-row : {S : Type 0} (value : S → FlatValue) (cmp : S → S → Ordering) → ((a b : S) → cmp a b ≡ flat_cmp (value a) (value b)) → (a b : S)
    → item_row value a ≡ item_row value b → is_eq (cmp a b) ≡ true
equal-row value cmp ordered a b same =
    let one : value a ≡ value b = cc in
    let tied : flat_cmp (value a) (value b) ≡ Equal = rw one (tied_itself flat_total (value b)) in
    ap is_eq (ordered a b ∙ tied)

-- one more row is this one exactly where its item is equal to it in the order
pub AreAll-next : {S : Type 0} (value : S → FlatValue) (cmp : S → S → Ordering) → ((a b : S) → cmp a b ≡ flat_cmp (value a) (value b))
    → (rows : List (Option Value)) (start stop : ℕ) (item given : S) (same equal : Bool) → start ≤ stop → slice_get rows stop ≡ Some (item_row value item)
    → equal ≡ is_eq (cmp item given) → IsTrue same ↔ AreAll rows start stop (item_row value given)
    → IsTrue (same && equal) ↔ AreAll rows start (stop + 1) (item_row value given)
AreAll-next value cmp ordered rows start stop item given same equal low here told so_far = (
  λ both.
      let parts = and_parts same equal both in
      let one = row-equal value item given (cmp item given) (ordered item given) (sym told ∙ parts.1) in
      from-next (λ (k : ℕ). slice_get rows k ≡ Some (item_row value given)) start stop (so_far.0 parts.0) (here ∙ ap (λ (r : Option Value). Some r) one),
  λ all.
      let last = all stop low (omega arith) in
      let one : item_row value item ≡ item_row value given = let e : Some (item_row value item) ≡ Some (item_row value given) = sym here ∙ last in cc in
      and_from same equal (so_far.1 (λ k from before. all k from (omega arith))) (told ∙ equal-row value cmp ordered item given one),
)

-- one more row steps up exactly where its item does
pub AreSteps-more : {S : Type 0} (value : S → FlatValue) (cmp : S → S → Ordering) → ((a b : S) → cmp a b ≡ flat_cmp (value a) (value b))
    → (strict : Bool) (rows : List (Option Value)) (start stop : ℕ) (left right : S) (steps step : Bool) → start ≤ stop
    → slice_get rows stop ≡ Some (item_row value left) → slice_get rows (stop + 1) ≡ Some (item_row value right)
    → step ≡ is_step_of strict (cmp left right) → IsTrue steps ↔ AreSteps strict rows start stop
    → IsTrue (steps && step) ↔ AreSteps strict rows start (stop + 1)
AreSteps-more value cmp ordered strict rows start stop left right steps step low here there told so_far = (
  λ both.
      let parts = and_parts steps step both in
      from-next (λ (k : ℕ). (a b : Option Value) → slice_get rows k ≡ Some a → slice_get rows (k + 1) ≡ Some b → is_step_of strict (row_cmp a b) ≡ true)
      start stop (so_far.0 parts.0)
      (λ a b first second.
      let one : a ≡ item_row value left = let e : Some a ≡ Some (item_row value left) = sym first ∙ here in cc in
      let two : b ≡ item_row value right = let e : Some b ≡ Some (item_row value right) = sym second ∙ there in cc in
      rw (one, two) (ap (is_step_of strict) (sym (ordered left right)) ∙ sym told ∙ parts.1)),
  λ all.
      and_from steps step (so_far.1 (λ k from before. all k from (omega arith)))
      (told ∙ ap (is_step_of strict) (ordered left right) ∙ all stop low (omega arith) (item_row value left) (item_row value right) here there),
)

-- rows that are sorted step up
pub AreSteps-sorted : (strict : Bool) (rows : List (Option Value)) (start stop : ℕ) → start ≤ stop → stop ≤ length rows → IsSorted strict (slice_range rows start stop)
    → AreSteps strict rows start (stop - 1)
AreSteps-sorted strict rows start stop ordered inside sorted k low high a b left right =
    let long = length-slice_range rows start stop ordered inside in
    let place : start + (k - start) ≡ k = omega arith in
    let next : start + (k - start + 1) ≡ k + 1 = omega arith in
    let step = steps_of_sorted strict (slice_range rows start stop) sorted (k - start) a (omega arith) in
    let one : get_or (slice_range rows start stop) (k - start) a ≡ a =
    get_or-slice_range rows start stop (k - start) a (omega arith) ∙ ap (λ (i : ℕ). get_or rows i a) place ∙ get_or-read rows k a a left in
    let two : get_or (slice_range rows start stop) (k - start + 1) a ≡ b =
    get_or-slice_range rows start stop (k - start + 1) a (omega arith) ∙ ap (λ (i : ℕ). get_or rows i a) next ∙ get_or-read rows (k + 1) b a right in
    rw (one, two) at step

-- a null and a row that is none differ
pub mixed-not_constant : (rows : List (Option Value)) (start stop j k : ℕ) (seen : Value) → stop ≤ length rows → start ≤ j → j < stop → start ≤ k → k < stop
    → slice_get rows j ≡ Some (Some seen) → slice_get rows k ≡ Some None → ¬ IsConstant (slice_range rows start stop)
mixed-not_constant rows start stop j k seen inside low_j high_j low_k high_k valid null constant =
    let same : Some seen ≡ None = constant (Some seen) None (Contains-range rows start stop j (Some seen) inside low_j high_j valid) (Contains-range rows start stop k None inside low_k high_k null) in
    cc

-- two nulls in a row are not a strict step
pub two-nulls : (strict : Bool) (rows : List (Option Value)) (start last : ℕ) → strict ≡ true → start < last → slice_get rows start ≡ Some None
    → slice_get rows (start + 1) ≡ Some None → ¬ AreSteps strict rows start last
two-nulls true rows start last asked some first second steps = false≢true (steps start (omega arith) some None None first second)
two-nulls false rows start last asked some first second steps = cc

-- after a row that is not null only such a row may come
step-some : (strict : Bool) (left : Value) (right : Option Value) → is_step_of strict (row_cmp (Some left) right) ≡ true → (seen : Value) × (right ≡ Some seen)
step-some true left None h = absurd (false≢true h)
step-some false left None h = absurd (false≢true h)
step-some strict left (Some seen) h = (seen, refl)

-- from a row that is not null on, no row is one
some-after : (strict : Bool) (rows : List (Option Value)) (from last : ℕ) (seen : Value) → last < length rows → AreSteps strict rows from last → slice_get rows from ≡ Some (Some seen)
    → (n : ℕ) → from + n ≤ last → (other : Value) × (slice_get rows (from + n) ≡ Some (Some other))
some-after strict rows from last seen inside steps here zero within = (seen, rw add-zero here)
some-after strict rows from last seen inside steps here (suc n) within =
    let before = some-after strict rows from last seen inside steps here n (omega arith) in
    let next : slice_get rows (from + n + 1) ≡ Some (get_or rows (from + n + 1) None) = slice_get-get_or rows (from + n + 1) None (omega arith) in
    let one = step-some strict before.0 (get_or rows (from + n + 1) None) (steps (from + n) (omega arith) (omega arith) (Some before.0) (get_or rows (from + n + 1) None) before.1 next) in
    let place : from + suc n ≡ from + n + 1 = omega arith in
    (one.0, ap (slice_get rows) place ∙ next ∙ ap (λ (r : Option Value). Some r) one.1)

-- a null after a row that is not null is out of order
pub null-behind : (strict : Bool) (rows : List (Option Value)) (start from k stop : ℕ) (seen : Value) → start ≤ from → from ≤ k → k < stop → stop ≤ length rows
    → slice_get rows from ≡ Some (Some seen) → slice_get rows k ≡ Some None → ¬ IsSorted strict (slice_range rows start stop)
null-behind strict rows start from k stop seen ordered low high inside valid null sorted =
    let steps = AreSteps-sorted strict rows start stop (omega arith) inside sorted in
    let after = some-after strict rows from (stop - 1) seen (omega arith) (λ j above below. steps j (omega arith) below) valid (k - from) (omega arith) in
    let place : from + (k - from) ≡ k = omega arith in
    let same : Some (Some after.0) ≡ Some None = sym after.1 ∙ ap (slice_get rows) place ∙ null in
    cc

-- a null is a step below a row that is not null, and below a null unless steps are strict
step-null : (strict : Bool) (right : Option Value) → (strict ≡ true → (seen : Value) × (right ≡ Some seen)) → is_step_of strict (row_cmp None right) ≡ true
step-null true right some = let seen = some refl in rw seen.1 refl
step-null false None some = refl
step-null false (Some seen) some = refl

-- rows that begin with nulls are sorted where those after them are, and where strict order is asked there is one null
-- at most
pub sorted-behind : (strict : Bool) (rows : List (Option Value)) (start from stop : ℕ) → start ≤ from → from ≤ stop → stop ≤ length rows
    → ((k : ℕ) → start ≤ k → k < from → slice_get rows k ≡ Some None) → (strict ≡ true → from ≤ start + 1)
    → (from < stop → (seen : Value) × (slice_get rows from ≡ Some (Some seen)))
    → IsSorted strict (slice_range rows from stop) ↔ IsSorted strict (slice_range rows start stop)
sorted-behind strict rows start from stop low high inside nulls few valid = (
  λ sorted.
      let all = from-join (λ (k : ℕ). k < stop - 1 → (a b : Option Value) → slice_get rows k ≡ Some a → slice_get rows (k + 1) ≡ Some b → is_step_of strict (row_cmp a b) ≡ true) start from (stop - 1)
      (λ k above below before a b first second.
      let null : a ≡ None = let e : Some a ≡ Some None = sym first ∙ nulls k above below in cc in
      rw null (step-null strict b (λ asked.
      let one = few asked in
      let place : k + 1 ≡ from = omega arith in
      let seen = valid (omega arith) in
      let e : Some b ≡ Some (Some seen.0) = sym second ∙ ap (slice_get rows) place ∙ seen.1 in
      (seen.0, cc))))
      (λ k above below _ a b first second. AreSteps-sorted strict rows from stop high inside sorted k above below a b first second) in
      IsSorted-steps strict rows start stop (stop - 1) (omega arith) inside (omega arith) (λ k above below. all k above below below),
  λ sorted.
      IsSorted-steps strict rows from stop (stop - 1) high inside (omega arith)
      (λ k above below. AreSteps-sorted strict rows start stop (omega arith) inside sorted k (omega arith) below),
)
