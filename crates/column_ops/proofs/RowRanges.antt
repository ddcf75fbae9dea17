-- Rows of a range, from those of the whole column.
use Rattle.std.proofs.Common.{◌≡◌, ◌∙◌, ◌+◌, ◌-◌, ◌<◌, ◌≤◌, ℕ, List, [], ◌∷◌, ◌++◌, Bool, true, false, Option, Some, None, length, take, drop, get_or, refl, sym, ap, arith, inl, inr}
use Rattle.std.specs.Prelude.{slice_get, slice_range, option_map, Contains, IsTrue}
use Rattle.std.specs.List.{AllAdjacentBelow}
use Rattle.std.specs.Ordering.{is_ne}
use Rattle.std.specs.declared.cmp.Ordering.{Ordering}
use Rattle.std.specs.declared.cmp.Ordering.TheVariants.{Less, Equal, Greater}
use Rattle.std.proofs.lemmas.Bool.{cases_lt, false≢true}
use Rattle.std.proofs.lemmas.Cmp.{tied_itself}
use Rattle.std.proofs.lemmas.List.{length-map, take_more, length-drop, get_or-drop}
use Rattle.std.proofs.lemmas.Option.{slice_get-map, slice_get-get_or, slice_get_within}
use Rattle.column_base.proofs.Ranges.{get_or-slice_range, length-slice_range}
use Rattle.column_core.specs.Leaf.{Leaf, leaf_rows, single_rows}
use Rattle.column_core.specs.Value.{FlatValue, Single, Value}
use Rattle.column_ops.specs.Order.{row_cmp}
use Rattle.column_ops.specs.OrderFacts.{IsConstant, IsSorted}
use Rattle.column_ops.specs.Steps.{HasOrderAt, is_step_of}
pub use Rattle.column_ops.specs.Steps.{AreSteps}
use Rattle.column_ops.proofs.OrderLaws.{row_equal, row_total}

-- an item that is read is the item with any default
pub get_or-read : {X : Type 0} (xs : List X) (k : ℕ) (x d : X) → slice_get xs k ≡ Some x → get_or xs k d ≡ x
get_or-read xs k x d here =
    let within = slice_get_within xs k x here in
    let read = slice_get-get_or xs k d within in cc

-- an item of a range is one of the list, at a place within the range
pub Contains-from_range : {X : Type 0} (xs : List X) (start stop : ℕ) (x : X) → start ≤ stop → stop ≤ length xs → Contains (slice_range xs start stop) x
    → (k : ℕ) × (start ≤ k) × (k < stop) × (slice_get xs k ≡ Some x)
Contains-from_range xs start stop x ordered inside has =
    let long = length-slice_range xs start stop ordered inside in
    let near : has.0 < stop - start = omega (arith, has.1) in
    let at : get_or xs (start + has.0) x ≡ x = sym (get_or-slice_range xs start stop has.0 x near) ∙ has.2 in
    (start + has.0, omega arith, omega arith, slice_get-get_or xs (start + has.0) x (omega arith) ∙ ap Some at)

-- an item at a place within a range is one of the range
pub Contains-range : {X : Type 0} (xs : List X) (start stop k : ℕ) (x : X) → stop ≤ length xs → start ≤ k → k < stop → slice_get xs k ≡ Some x
    → Contains (slice_range xs start stop) x
Contains-range xs start stop k x inside low high here =
    let long = length-slice_range xs start stop (omega arith) inside in
    let place : start + (k - start) ≡ k = omega arith in
    (k - start, omega arith, get_or-slice_range xs start stop (k - start) x (omega arith) ∙ ap (λ (i : ℕ). get_or xs i x) place ∙ get_or-read xs k x x here)

-- a range that goes on by one item ends with it
pub slice_range-next : {X : Type 0} (xs : List X) (start stop : ℕ) (x : X) → start ≤ stop → slice_get xs stop ≡ Some x
    → slice_range xs start (stop + 1) ≡ slice_range xs start stop ++ x ∷ []
slice_range-next xs start stop x ordered here =
    let within = slice_get_within xs stop x here in
    let rest = length-drop start xs in
    let more : stop + 1 - start ≡ (stop - start) + 1 = omega arith in
    let place : start + (stop - start) ≡ stop = omega arith in
    let item : get_or (drop start xs) (stop - start) x ≡ x = get_or-drop start xs (stop - start) x ∙ ap (λ (i : ℕ). get_or xs i x) place ∙ get_or-read xs stop x x here in
    ap (λ (n : ℕ). take n (drop start xs)) more ∙ take_more (drop start xs) (stop - start) x (omega arith) ∙ ap (λ y. take (stop - start) (drop start xs) ++ y ∷ []) item

-- a row of a flat column is null or a flat value
flat_row : (o : Option (Option FlatValue)) (a : Option Value) → option_map (option_map (λ (v : FlatValue). Single v)) o ≡ Some a
    → (v : Option FlatValue) × (option_map (λ (w : FlatValue). Single w) v ≡ a)
flat_row None a h = cc
flat_row (Some v) a h = (v, cc)

-- rows of a flat column that are equal in the order are one
pub rows_equal : (leaf : Leaf) (j k : ℕ) (a b : Option Value) → slice_get (single_rows leaf) j ≡ Some a → slice_get (single_rows leaf) k ≡ Some b
    → row_cmp a b ≡ Equal → a ≡ b
rows_equal leaf j k a b left right same =
    let f : Option FlatValue → Option Value = option_map (λ (v : FlatValue). Single v) in
    let v = flat_row (slice_get (leaf_rows leaf) j) a (sym (slice_get-map f (leaf_rows leaf) j) ∙ left) in
    let w = flat_row (slice_get (leaf_rows leaf) k) b (sym (slice_get-map f (leaf_rows leaf) k) ∙ right) in
    let told : row_cmp (f v.0) (f w.0) ≡ Equal = rw (v.1, w.1) same in
    sym v.1 ∙ ap f (row_equal v.0 w.0 told) ∙ w.1

-- an ordering that is neither of the others is equality
is_ne-Equal : (o : Ordering) → is_ne o ≡ false → o ≡ Equal
is_ne-Equal Less h = cc
is_ne-Equal Equal h = refl
is_ne-Equal Greater h = cc

-- the rows from one on, up to a place, are that one
abbrev pub AreSame : List (Option Value) → ℕ → ℕ → Type 0
AreSame rows start stop = (k : ℕ) → start ≤ k → k < stop → slice_get rows k ≡ slice_get rows start

-- the next row is the same where it compares so with the first
pub AreSame-next : (leaf : Leaf) (start stop : ℕ) (o : Ordering) → HasOrderAt (single_rows leaf) start stop o → is_ne o ≡ false
    → AreSame (single_rows leaf) start stop → AreSame (single_rows leaf) start (stop + 1)
AreSame-next leaf start stop o at told same k low high =
    elim (cases_lt k stop) [
      | inl before ↦ same k low before
      | inr from ↦
          let here : k ≡ stop = omega arith in
          let one = rows_equal leaf start stop at.0 at.1 at.2 at.3 (sym at.4 ∙ is_ne-Equal o told) in
          ap (slice_get (single_rows leaf)) here ∙ at.3 ∙ ap Some (sym one) ∙ sym at.2
    ]

-- rows that are all the same are constant
pub IsConstant-same : (rows : List (Option Value)) (start stop : ℕ) → start ≤ stop → stop ≤ length rows → AreSame rows start stop
    → IsConstant (slice_range rows start stop)
IsConstant-same rows start stop ordered inside same a b left right =
    let j = Contains-from_range rows start stop a ordered inside left in
    let k = Contains-from_range rows start stop b ordered inside right in
    let first = same j.0 j.1 j.2 in
    let second = same k.0 k.1 k.2 in
    let one : Some a ≡ Some b = sym j.3 ∙ first ∙ sym second ∙ k.3 in
    cc

-- a row that differs from the first one is in the way
pub IsConstant-not : (rows : List (Option Value)) (start stop k : ℕ) (o : Ordering) → stop ≤ length rows → start ≤ k → k < stop
    → HasOrderAt rows start k o → is_ne o ≡ true → ¬ IsConstant (slice_range rows start stop)
IsConstant-not rows start stop k o inside low high at told constant =
    let one = constant at.0 at.1 (Contains-range rows start stop start at.0 inside (omega arith) (omega arith) at.2) (Contains-range rows start stop k at.1 inside low high at.3) in
    let tied : row_cmp at.0 at.1 ≡ Equal = rw one (tied_itself row_total at.1) in
    let other : is_ne o ≡ false = ap is_ne (at.4 ∙ tied) in
    cc

-- so does the next one
pub AreSteps-next : (strict : Bool) (rows : List (Option Value)) (start stop : ℕ) (o : Ordering) → HasOrderAt rows stop (stop + 1) o → is_step_of strict o ≡ true
    → AreSteps strict rows start stop → AreSteps strict rows start (stop + 1)
AreSteps-next strict rows start stop o at told steps k low high a b left right =
    elim (cases_lt k stop) [
      | inl before ↦ steps k low before a b left right
      | inr from ↦
          let here : k ≡ stop = omega arith in
          let one : a ≡ at.0 = let e : Some a ≡ Some at.0 = sym left ∙ ap (slice_get rows) here ∙ at.2 in cc in
          let two : b ≡ at.1 = let e : Some b ≡ Some at.1 = sym right ∙ ap (λ (i : ℕ). slice_get rows (i + 1)) here ∙ at.3 in cc in
          rw (one, two, ← at.4) told
    ]

-- whether rows are sorted goes by their steps
sorted_by_steps : (strict : Bool) (rows : List (Option Value)) → AllAdjacentBelow (λ a b. IsTrue (is_step_of strict (row_cmp a b))) rows (length rows) → IsSorted strict rows
sorted_by_steps true rows h = h
sorted_by_steps false rows h = h

pub steps_of_sorted : (strict : Bool) (rows : List (Option Value)) → IsSorted strict rows → AllAdjacentBelow (λ a b. IsTrue (is_step_of strict (row_cmp a b))) rows (length rows)
steps_of_sorted true rows h = h
steps_of_sorted false rows h = h

-- rows of which each steps to the next are sorted
pub IsSorted-steps : (strict : Bool) (rows : List (Option Value)) (start stop last : ℕ) → start ≤ stop → stop ≤ length rows → stop ≤ last + 1
    → AreSteps strict rows start last → IsSorted strict (slice_range rows start stop)
IsSorted-steps strict rows start stop last ordered inside past steps = sorted_by_steps strict (slice_range rows start stop)
    (λ k d h.
    let long = length-slice_range rows start stop ordered inside in
    let next : start + (k + 1) ≡ start + k + 1 = omega arith in
    let left = get_or-slice_range rows start stop k d (omega arith) in
    let right : get_or (slice_range rows start stop) (k + 1) d ≡ get_or rows (start + k + 1) d = get_or-slice_range rows start stop (k + 1) d (omega arith) ∙ ap (λ (i : ℕ). get_or rows i d) next in
    rw (left, right)
    (steps (start + k) (omega arith) (omega arith) (get_or rows (start + k) d) (get_or rows (start + k + 1) d)
    (slice_get-get_or rows (start + k) d (omega arith)) (slice_get-get_or rows (start + k + 1) d (omega arith))))

-- a row that may not compare so with the next is in the way
pub IsSorted-not : (strict : Bool) (rows : List (Option Value)) (start stop k : ℕ) (o : Ordering) → stop ≤ length rows → start ≤ k → k + 1 < stop
    → HasOrderAt rows k (k + 1) o → is_step_of strict o ≡ false → ¬ IsSorted strict (slice_range rows start stop)
IsSorted-not strict rows start stop k o inside low high at told sorted =
    let long = length-slice_range rows start stop (omega arith) inside in
    let place : start + (k - start) ≡ k = omega arith in
    let next : start + (k - start + 1) ≡ k + 1 = omega arith in
    let step = steps_of_sorted strict (slice_range rows start stop) sorted (k - start) at.0 (omega arith) in
    let left : get_or (slice_range rows start stop) (k - start) at.0 ≡ at.0 =
    get_or-slice_range rows start stop (k - start) at.0 (omega arith) ∙ ap (λ (i : ℕ). get_or rows i at.0) place ∙ get_or-read rows k at.0 at.0 at.2 in
    let right : get_or (slice_range rows start stop) (k - start + 1) at.0 ≡ at.1 =
    get_or-slice_range rows start stop (k - start + 1) at.0 (omega arith) ∙ ap (λ (i : ℕ). get_or rows i at.0) next ∙ get_or-read rows (k + 1) at.1 at.0 at.3 in
    let step2 : is_step_of strict (row_cmp at.0 at.1) ≡ true = rw (left, right) at step in
    false≢true (sym told ∙ ap (is_step_of strict) at.4 ∙ step2)

-- there are as many rows as values as there are rows
pub length-single_rows : (leaf : Leaf) → length (single_rows leaf) ≡ length (leaf_rows leaf)
length-single_rows leaf = length-map (leaf_rows leaf) (option_map (λ (v : FlatValue). Single v))
