-- What rests on the order of values, of joined rows.
use Rattle.std.proofs.Common.{◌≡◌, ◌≢◌, ◌∙◌, ◌+◌, ◌-◌, ◌<◌, ◌≤◌, ◌++◌, ◌↔◌, ◌⊎◌, ℕ, zero, suc, Bool, true, false, List, [], ◌∷◌, Option, Some, None, length, get_or, refl, sym, subst, ap, arith, inl, inr}
use Rattle.std.specs.Prelude.{All, Contains, IsSome, IsTrue, slice_get}
use Rattle.std.specs.List.{AllAdjacentBelow}
use Rattle.std.specs.Ordering.{ordering_reverse}
use Rattle.std.specs.declared.cmp.Ordering.{Ordering}
use Rattle.std.specs.declared.cmp.Ordering.TheVariants.{Less, Equal, Greater}
use Rattle.std.proofs.lemmas.Bool.{cases_lt, false≢true}
use Rattle.std.proofs.lemmas.Cmp.{tied_itself}
use Rattle.std.proofs.lemmas.List.{length-append, get_or_append_left, get_or-append-add}
use Rattle.std.proofs.lemmas.List.Elements.{All-append, All-contains, Contains-append_cases, Contains-append_left, Contains-append_right}
use Rattle.std.proofs.lemmas.Option.{get_or_from_slice_get, slice_get_within}
use Rattle.column_core.specs.Value.{Value}
use Rattle.column_ops.specs.Order.{row_cmp}
use Rattle.column_ops.specs.OrderFacts.{IsConstant, IsFurthest, IsSorted}
use Rattle.column_ops.specs.Steps.{is_step_of}
use Rattle.column_ops.proofs.OrderLaws.{row_total, side_chain}
use Rattle.runend_builder.specs.Orders.{AreNull, ConstantOfJoined, ExtremesOfJoined, FurthestOfJoined, HasStepAtSeam, HaveEqualFirsts, SortedOfJoined}

-- a row among rows that are all null is null
no_value_among : (rows : List (Option Value)) (row : Option Value) → AreNull rows → Contains rows row → IsSome row → ⊥
no_value_among rows row all has some =
    let none : row ≡ None = All-contains (λ (r : Option Value). r ≡ None) rows row all has in
    false≢true (subst IsSome none some)

-- an ordering that is not on a side is a tie, or on the other side
other_way : (side o : Ordering) → side ≢ Equal → o ≢ side → (o ≡ Equal) ⊎ (ordering_reverse o ≡ side)
other_way Less Less sided other = absurd (other refl)
other_way Less Equal sided other = inl refl
other_way Less Greater sided other = inr refl
other_way Equal o sided other = absurd (sided refl)
other_way Greater Less sided other = inr refl
other_way Greater Equal sided other = inl refl
other_way Greater Greater sided other = absurd (other refl)

-- what is not past the second is not past the first where the second is not past the first either
not_past_first : (side : Ordering) (a b c : Option Value) → side ≢ Equal → row_cmp c b ≢ side → row_cmp b a ≢ side → row_cmp c a ≡ side → ⊥
not_past_first side a b c sided first second past = elim (other_way side (row_cmp b a) sided second) [
  | inl tie ↦
      let level : row_cmp b c ≡ row_cmp a c = row_total.congr b a c tie in
      first (row_total.antisymm c b ∙ ap ordering_reverse level ∙ sym (row_total.antisymm c a) ∙ past)
  | inr turned ↦ first (side_chain row_total side c a b past (row_total.antisymm a b ∙ turned))
]

furthest : (side : Ordering) (rows rows' : List (Option Value)) → side ≢ Equal → FurthestOfJoined side rows rows'
furthest side rows rows' sided = record {
  second = λ row row' best best' past. record {
    value = best'.value;
    among = Contains-append_right rows rows' row' best'.among;
    none_past = λ other has some. elim (Contains-append_cases rows rows' other has) [
      | inl here ↦ λ e. best.none_past other here some (side_chain row_total side other row' row e past)
      | inr here ↦ best'.none_past other here some
    ];
  };
  first = λ row row' best best' behind. record {
    value = best.value;
    among = Contains-append_left rows rows' row best.among;
    none_past = λ other has some. elim (Contains-append_cases rows rows' other has) [
      | inl here ↦ best.none_past other here some
      | inr here ↦ λ e. not_past_first side row row' other sided (best'.none_past other here some) behind e
    ];
  };
  null_before = λ row' nulls best'. record {
    value = best'.value;
    among = Contains-append_right rows rows' row' best'.among;
    none_past = λ other has some. elim (Contains-append_cases rows rows' other has) [
      | inl here ↦ absurd (no_value_among rows other nulls here some)
      | inr here ↦ best'.none_past other here some
    ];
  };
  null_behind = λ row best nulls. record {
    value = best.value;
    among = Contains-append_left rows rows' row best.among;
    none_past = λ other has some. elim (Contains-append_cases rows rows' other has) [
      | inl here ↦ best.none_past other here some
      | inr here ↦ absurd (no_value_among rows' other nulls here some)
    ];
  };
  null = λ nulls nulls'. All-append (λ (row : Option Value). row ≡ None) rows rows' nulls nulls';
}

pub extremes_of_joined : ExtremesOfJoined
extremes_of_joined rows rows' = (furthest Less rows rows' (λ e. cc), furthest Greater rows rows' (λ e. cc))

-- an item that is there
got : {X : Type 0} (xs : List X) (k : ℕ) (x d : X) → slice_get xs k ≡ Some x → get_or xs k d ≡ x
got xs k x d at = get_or_from_slice_get xs k x d at

gets : {X : Type 0} (xs : List X) (k : ℕ) (d : X) → k < length xs → slice_get xs k ≡ Some (get_or xs k d)
gets [] k d within = absurd (omega arith)
gets (x ∷ xs) zero d within = refl
gets (x ∷ xs) (suc k) d within = gets xs k d (omega arith)

-- the first of some items is among them
first_among : (rows : List (Option Value)) (row : Option Value) → Contains rows row → (first : Option Value) × (slice_get rows 0 ≡ Some first) × Contains rows first
first_among [] row has = absurd (let within = has.1 in omega arith)
first_among (first ∷ rows) row has = (first, refl, (0, omega arith, refl))

Contains-get : (rows : List (Option Value)) (k : ℕ) (row : Option Value) → slice_get rows k ≡ Some row → Contains rows row
Contains-get rows k row at = (k, slice_get_within rows k row at, get_or_from_slice_get rows k row row at)

-- a row of each part, where the first rows are equal
across : (rows rows' : List (Option Value)) → IsConstant rows → IsConstant rows' → HaveEqualFirsts rows rows' → (a b : Option Value) → Contains rows a → Contains rows' b → a ≡ b
across rows rows' constant constant' firsts a b left right =
    let first = first_among rows a left in
    let first' = first_among rows' b right in
    constant a first.0 left first.2 ∙ firsts first.0 first'.0 first.1 first'.1 ∙ constant' first'.0 b first'.2 right

joined_constant : (rows rows' : List (Option Value)) → IsConstant rows → IsConstant rows' → HaveEqualFirsts rows rows' → IsConstant (rows ++ rows')
joined_constant rows rows' constant constant' firsts a b has_a has_b =
    elim (Contains-append_cases rows rows' a has_a) [
      | inl left ↦ elim (Contains-append_cases rows rows' b has_b) [
        | inl right ↦ constant a b left right
        | inr right ↦ across rows rows' constant constant' firsts a b left right
      ]
      | inr left ↦ elim (Contains-append_cases rows rows' b has_b) [
        | inl right ↦ sym (across rows rows' constant constant' firsts b a right left)
        | inr right ↦ constant' a b left right
      ]
    ]

pub constant_of_joined : ConstantOfJoined
constant_of_joined rows rows' = (
  (λ constant. (
    (λ a b has_a has_b. constant a b (Contains-append_left rows rows' a has_a) (Contains-append_left rows rows' b has_b)),
    (λ a b has_a has_b. constant a b (Contains-append_right rows rows' a has_a) (Contains-append_right rows rows' b has_b)),
    (λ a b first first'. constant a b (Contains-append_left rows rows' a (Contains-get rows 0 a first)) (Contains-append_right rows rows' b (Contains-get rows' 0 b first'))),
  )),
  (λ parts. joined_constant rows rows' parts.0 parts.1 parts.2),
)

-- each row steps to the next
abbrev AreSteps : Bool → List (Option Value) → Type 0
AreSteps strict rows = AllAdjacentBelow (λ a b. IsTrue (is_step_of strict (row_cmp a b))) rows (length rows)

sorted-from_steps : (strict : Bool) (rows : List (Option Value)) → AreSteps strict rows → IsSorted strict rows
sorted-from_steps true rows h = h
sorted-from_steps false rows h = h

steps-from_sorted : (strict : Bool) (rows : List (Option Value)) → IsSorted strict rows → AreSteps strict rows
steps-from_sorted true rows h = h
steps-from_sorted false rows h = h

-- a property of neighbours in joined lists, from that in the parts and that of the pair at the seam
joined_neighbours : {X : Type 0} (R : X → X → Type 0) (xs ys : List X) → AllAdjacentBelow R xs (length xs) → AllAdjacentBelow R ys (length ys)
    → ((x y : X) → slice_get xs (length xs - 1) ≡ Some x → slice_get ys 0 ≡ Some y → R x y) → AllAdjacentBelow R (xs ++ ys) (length (xs ++ ys))
joined_neighbours R xs ys left right seam k d within =
    let long = length-append xs ys in
    elim (cases_lt (k + 1) (length xs)) [
      | inl before ↦ rw (get_or_append_left xs ys d k (omega arith), get_or_append_left xs ys d (k + 1) before) (left k d before)
      | inr from ↦ elim (cases_lt k (length xs)) [
        | inl last ↦
            let here : length xs - 1 ≡ k = omega arith in
            let there : k + 1 ≡ length xs + 0 = omega arith in
            let first = get_or_append_left xs ys d k last in
            let second : get_or (xs ++ ys) (k + 1) d ≡ get_or ys 0 d = ap (λ (i : ℕ). get_or (xs ++ ys) i d) there ∙ get_or-append-add xs ys 0 d in
            rw (first, second) (seam (get_or xs k d) (get_or ys 0 d) (ap (slice_get xs) here ∙ gets xs k d last) (gets ys 0 d (omega arith)))
        | inr past ↦
            let here : k ≡ length xs + (k - length xs) = omega arith in
            let next : k + 1 ≡ length xs + (k - length xs + 1) = omega arith in
            let first : get_or (xs ++ ys) k d ≡ get_or ys (k - length xs) d = ap (λ (i : ℕ). get_or (xs ++ ys) i d) here ∙ get_or-append-add xs ys (k - length xs) d in
            let second : get_or (xs ++ ys) (k + 1) d ≡ get_or ys (k - length xs + 1) d = ap (λ (i : ℕ). get_or (xs ++ ys) i d) next ∙ get_or-append-add xs ys (k - length xs + 1) d in
            rw (first, second) (right (k - length xs) d (omega arith))
      ]
    ]

left_neighbours : {X : Type 0} (R : X → X → Type 0) (xs ys : List X) → AllAdjacentBelow R (xs ++ ys) (length (xs ++ ys)) → AllAdjacentBelow R xs (length xs)
left_neighbours R xs ys all k d within =
    let long = length-append xs ys in
    let at = all k d (omega arith) in
    rw (get_or_append_left xs ys d k (omega arith), get_or_append_left xs ys d (k + 1) within) at at

right_neighbours : {X : Type 0} (R : X → X → Type 0) (xs ys : List X) → AllAdjacentBelow R (xs ++ ys) (length (xs ++ ys)) → AllAdjacentBelow R ys (length ys)
right_neighbours R xs ys all k d within =
    let long = length-append xs ys in
    let next : length xs + k + 1 ≡ length xs + (k + 1) = omega arith in
    let at = all (length xs + k) d (omega arith) in
    let second : get_or (xs ++ ys) (length xs + k + 1) d ≡ get_or ys (k + 1) d = ap (λ (i : ℕ). get_or (xs ++ ys) i d) next ∙ get_or-append-add xs ys (k + 1) d in
    rw (get_or-append-add xs ys k d, second) at at

seam_neighbours : {X : Type 0} (R : X → X → Type 0) (xs ys : List X) → AllAdjacentBelow R (xs ++ ys) (length (xs ++ ys))
    → (x y : X) → slice_get xs (length xs - 1) ≡ Some x → slice_get ys 0 ≡ Some y → R x y
seam_neighbours R xs ys all x y last first =
    let long = length-append xs ys in
    let within = slice_get_within xs (length xs - 1) x last in
    let within' = slice_get_within ys 0 y first in
    let next : length xs - 1 + 1 ≡ length xs + 0 = omega arith in
    let at = all (length xs - 1) x (omega arith) in
    let one : get_or (xs ++ ys) (length xs - 1) x ≡ x = get_or_append_left xs ys x (length xs - 1) within ∙ get_or_from_slice_get xs (length xs - 1) x x last in
    let two : get_or (xs ++ ys) (length xs - 1 + 1) x ≡ y = ap (λ (i : ℕ). get_or (xs ++ ys) i x) next ∙ get_or-append-add xs ys 0 x ∙ get_or_from_slice_get ys 0 y x first in
    rw (one, two) at at

pub sorted_of_joined : SortedOfJoined
sorted_of_joined strict rows rows' =
    let R = λ (a b : Option Value). IsTrue (is_step_of strict (row_cmp a b)) in (
      (λ sorted.
          let steps = steps-from_sorted strict (rows ++ rows') sorted in (
            sorted-from_steps strict rows (left_neighbours R rows rows' steps),
            sorted-from_steps strict rows' (right_neighbours R rows rows' steps),
            seam_neighbours R rows rows' steps,
          )),
      (λ parts. sorted-from_steps strict (rows ++ rows')
          (joined_neighbours R rows rows' (steps-from_sorted strict rows parts.0) (steps-from_sorted strict rows' parts.1) parts.2)),
    )
