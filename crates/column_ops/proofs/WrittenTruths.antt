-- Optional booleans that are written row by row, and the answers of a comparison that they are.
use Rattle.std.proofs.Common.{◌≡◌, ◌∙◌, ◌+◌, ◌≤◌, ℕ, zero, suc, List, [], ◌∷◌, ◌++◌, Bool, true, false, Option, Some, None, length, map, take, replicate, refl, sym, ap, subst, arith, length-append}
use Rattle.std.specs.Prelude.{All, IsSome, is_some, unwrap_or, option_map, slice_get, if◌then◌else◌}
use Rattle.std.proofs.lemmas.Bool.{false≢true}
use Rattle.std.proofs.lemmas.List.{length-map, map-append, take_all, take_more}
use Rattle.std.proofs.lemmas.List.Elements.{All-head, All-tail, All-nil, All-push}
use Rattle.std.proofs.lemmas.Option.{slice_get-map, slice_get_within}
use Rattle.column_base.specs.declared.dtype.Nullability.{Nullability}
use Rattle.column_base.specs.declared.dtype.Nullability.TheVariants.{NonNullable, Nullable}
use Rattle.column_base.specs.declared.dtype.DType.{DType}
use Rattle.column_base.specs.declared.dtype.DType.TheVariants as column
use Rattle.column_base.specs.Types.{nullability_of}
use Rattle.column_base.specs.ValidityForm.{NeverNull}
use Rattle.column_core.specs.BoolForm.{bool_with}
use Rattle.column_core.specs.Optionals.{optionals, AreBlankAtNulls}
use Rattle.column_core.specs.ScalarView.{sees, IsViewOf}
use Rattle.column_core.specs.Value.{FlatValue, Value, Single, Truth, MayBeNull}
use Rattle.column_core.specs.declared.view.ScalarView.{ScalarView}
use Rattle.column_core.specs.declared.view.ScalarView.TheVariants as view
use Rattle.column_core.proofs.OptionalRows.{optionals-push, AreBlankAtNulls-push}
use Rattle.column_ops.specs.Comparing.{compare_rows, compare_with, compared, either_nullability, IsStoredComparison}
use Rattle.column_ops.specs.declared.operator.CompareOperator.{CompareOperator}
use Rattle.column_ops.proofs.RowRanges.{get_or-read}

-- a boolean as a value
abbrev pub truth_value : Bool → Value
truth_value truth = Single (Truth truth)

-- bits and flags that say these answers, with false under null, and no null in a type without it
pub record AreWritten (nullability : Nullability) (answers : List (Option Value)) (bits flags : List Bool) : Type 0 where
  pub paired : length flags ≡ length bits
  pub rows : map (option_map truth_value) (optionals bits flags) ≡ answers
  pub blank : AreBlankAtNulls false bits flags
  pub typed : nullability ≡ NonNullable → All (λ flag. flag ≡ true) flags

-- before the first row nothing is written
pub AreWritten-none : (nullability : Nullability) (answers : List (Option Value)) → AreWritten nullability (take 0 answers) [] []
AreWritten-none nullability answers = record { paired = refl; rows = refl; blank = tt; typed = λ _. All-nil (λ (flag : Bool). flag ≡ true) }

-- an optional boolean from its bit and its flag
truth-parts : (truth : Option Bool) → (if is_some truth then Some (unwrap_or truth false) else None) ≡ truth
truth-parts None = refl
truth-parts (Some b) = refl

-- the bit of null is false
blank-part : (truth : Option Bool) → is_some truth ≡ false → unwrap_or truth false ≡ false
blank-part None h = refl
blank-part (Some b) h = cc

-- an answer that is not null is of a boolean that is none
some-part : (truth : Option Bool) (answer : Option Value) → option_map truth_value truth ≡ answer → IsSome answer → is_some truth ≡ true
some-part None answer h some = absurd (false≢true (subst IsSome (sym h) some))
some-part (Some b) answer h some = refl

-- the next answer is written
pub AreWritten-next : (nullability : Nullability) (answers : List (Option Value)) (bits flags : List Bool) (truth : Option Bool) (answer : Option Value)
    → option_map truth_value truth ≡ answer → (nullability ≡ NonNullable → IsSome answer) → AreWritten nullability answers bits flags
    → AreWritten nullability (answers ++ answer ∷ []) (bits ++ unwrap_or truth false ∷ []) (flags ++ is_some truth ∷ [])
AreWritten-next nullability answers bits flags truth answer says some written = record {
  paired = let paired = written.paired in omega (arith, length-append bits (unwrap_or truth false ∷ []), length-append flags (is_some truth ∷ []));
  rows =
      ap (map (option_map truth_value)) (optionals-push bits flags (unwrap_or truth false) (is_some truth) written.paired ∙ ap (λ o. optionals bits flags ++ o ∷ []) (truth-parts truth))
      ∙ map-append (option_map truth_value) (optionals bits flags) (truth ∷ [])
      ∙ ap (λ (xs : List (Option Value)). xs ++ option_map truth_value truth ∷ []) written.rows
      ∙ ap (λ (o : Option Value). answers ++ o ∷ []) says;
  blank = AreBlankAtNulls-push false bits flags (unwrap_or truth false) (is_some truth) written.paired (blank-part truth) written.blank;
  typed = λ e. All-push (λ (flag : Bool). flag ≡ true) flags (is_some truth) (written.typed e) (some-part truth answer says (some e));
}

-- the next of many answers is written
pub AreWritten-more : (nullability : Nullability) (all : List (Option Value)) (k : ℕ) (bits flags : List Bool) (truth : Option Bool) (answer : Option Value)
    → slice_get all k ≡ Some answer → option_map truth_value truth ≡ answer → (nullability ≡ NonNullable → IsSome answer) → AreWritten nullability (take k all) bits flags
    → AreWritten nullability (take (k + 1) all) (bits ++ unwrap_or truth false ∷ []) (flags ++ is_some truth ∷ [])
AreWritten-more nullability all k bits flags truth answer here says some written =
    let within = slice_get_within all k answer here in
    let grown : take (k + 1) all ≡ take k all ++ answer ∷ [] = take_more all k answer within ∙ ap (λ (o : Option Value). take k all ++ o ∷ []) (get_or-read all k answer answer here) in
    subst (λ (xs : List (Option Value)). AreWritten nullability xs (bits ++ unwrap_or truth false ∷ []) (flags ++ is_some truth ∷ [])) (sym grown)
    (AreWritten-next nullability (take k all) bits flags truth answer says some written)

-- booleans as rows are booleans as values
two_maps : (truths : List (Option Bool)) → map (option_map (λ (v : FlatValue). Single v)) (map (option_map (λ (b : Bool). Truth b)) truths) ≡ map (option_map truth_value) truths
two_maps [] = refl
two_maps (None ∷ truths) = ap (λ (xs : List (Option Value)). None ∷ xs) (two_maps truths)
two_maps (Some b ∷ truths) = ap (λ (xs : List (Option Value)). Some (Single (Truth b)) ∷ xs) (two_maps truths)

-- past the last answer the rows are the answers
pub AreWritten-all : (nullability : Nullability) (all : List (Option Value)) (k : ℕ) (bits flags : List Bool) (truths : List (Option Bool))
    → length all ≤ k → truths ≡ optionals bits flags → AreWritten nullability (take k all) bits flags
    → map (option_map (λ (v : FlatValue). Single v)) (map (option_map (λ (b : Bool). Truth b)) truths) ≡ all
AreWritten-all nullability all k bits flags truths past same written =
    two_maps truths ∙ ap (map (option_map truth_value)) same ∙ written.rows ∙ take_all k all past

-- a row of a type without null is not null
pub some_view : {A : Type 0} (t : DType) (v : ScalarView A) → IsViewOf t v → nullability_of t ≡ NonNullable → IsSome (sees v)
some_view (column.Bool n) view.Null h e = absurd (subst MayBeNull e h)
some_view (column.Primitive p n) view.Null h e = absurd (subst MayBeNull e h)
some_view (column.Decimal d n) view.Null h e = absurd (subst MayBeNull e h)
some_view (column.Utf8 n) view.Null h e = absurd (subst MayBeNull e h)
some_view (column.Binary n) view.Null h e = absurd (subst MayBeNull e h)
some_view (column.List i n) view.Null h e = absurd (subst MayBeNull e h)
some_view t v h e = refl

-- the comparison of two rows that are not null is not null
compared-some : (operator : CompareOperator) (left right : Option Value) → IsSome left → IsSome right → IsSome (compared operator left right)
compared-some operator None right l r = absurd (false≢true l)
compared-some operator (Some a) None l r = absurd (false≢true r)
compared-some operator (Some a) (Some b) l r = refl

-- a comparison is of a type without null where both types are
without_null : (m n : Nullability) → either_nullability m n ≡ NonNullable → (m ≡ NonNullable) × (n ≡ NonNullable)
without_null NonNullable n h = (refl, h)
without_null Nullable n h = cc

-- where neither type has null, a comparison is not null
pub compared-typed : {A B : Type 0} (operator : CompareOperator) (t u : DType) (left : ScalarView A) (right : ScalarView B) → IsViewOf t left → IsViewOf u right
    → either_nullability (nullability_of t) (nullability_of u) ≡ NonNullable → IsSome (compared operator (sees left) (sees right))
compared-typed operator t u left right is_left is_right e =
    let parts = without_null (nullability_of t) (nullability_of u) e in
    compared-some operator (sees left) (sees right) (some_view t left is_left parts.0) (some_view u right is_right parts.1)

-- the answer at a row, of one optional value
pub compare_with-at : (operator : CompareOperator) (rows : List (Option Value)) (right : Option Value) (k : ℕ) (left : Option Value) → slice_get rows k ≡ Some left
    → slice_get (compare_with operator rows right) k ≡ Some (compared operator left right)
compare_with-at operator rows right k left here =
    slice_get-map (λ (row : Option Value). compared operator row right) rows k ∙ ap (option_map (λ (row : Option Value). compared operator row right)) here

-- there are as many answers as rows
pub length-compare_with : (operator : CompareOperator) (rows : List (Option Value)) (right : Option Value) → length (compare_with operator rows right) ≡ length rows
length-compare_with operator rows right = length-map rows (λ (row : Option Value). compared operator row right)

-- the answer at a row, from the two rows there
pub compare_rows-at : (operator : CompareOperator) (lefts rights : List (Option Value)) (k : ℕ) (left right : Option Value) → slice_get lefts k ≡ Some left
    → slice_get rights k ≡ Some right → slice_get (compare_rows operator lefts rights) k ≡ Some (compared operator left right)
compare_rows-at operator [] rights k left right h g = cc
compare_rows-at operator (l ∷ lefts) [] k left right h g = cc
compare_rows-at operator (l ∷ lefts) (r ∷ rights) zero left right h g = let one : l ≡ left = cc in let other : r ≡ right = cc in ap Some (rw (one, other) refl)
compare_rows-at operator (l ∷ lefts) (r ∷ rights) (suc k) left right h g = compare_rows-at operator lefts rights k left right h g

-- there are no more answers than rows
pub length-compare_rows : (operator : CompareOperator) (lefts rights : List (Option Value)) → length (compare_rows operator lefts rights) ≤ length lefts
length-compare_rows operator [] rights = omega arith
length-compare_rows operator (l ∷ lefts) [] = omega arith
length-compare_rows operator (l ∷ lefts) (r ∷ rights) = let rest = length-compare_rows operator lefts rights in omega arith

-- flags that are all true are copies of true
copies_of_true : (flags : List Bool) → All (λ flag. flag ≡ true) flags → replicate (length flags) true ≡ flags
copies_of_true [] all = refl
copies_of_true (b ∷ flags) all =
    let first : b ≡ true = All-head (λ (flag : Bool). flag ≡ true) b flags all in
    let rest = copies_of_true flags (All-tail (λ (flag : Bool). flag ≡ true) b flags all) in
    cc

-- and so they are as many as the bits
pub flags-all_true : (bits flags : List Bool) → length flags ≡ length bits → All (λ flag. flag ≡ true) flags → replicate (length bits) true ≡ flags
flags-all_true bits flags paired all = ap (λ (n : ℕ). replicate n true) (sym paired) ∙ copies_of_true flags all

-- a comparison of types without null is stored
pub IsStoredComparison-never_null : (bits flags : List Bool) → replicate (length bits) true ≡ flags → AreBlankAtNulls false bits flags → IsStoredComparison (bool_with bits NeverNull)
IsStoredComparison-never_null bits flags marks blank = record {
  normal = tt;
  some = λ e. absurd (cc);
  blank = subst (AreBlankAtNulls false bits) (sym marks) blank;
}

-- to be compared with copies of one row is to be compared with that row
pub compare_rows-copies : (operator : CompareOperator) (rows : List (Option Value)) (right : Option Value)
    → compare_rows operator rows (replicate (length rows) right) ≡ compare_with operator rows right
compare_rows-copies operator [] right = refl
compare_rows-copies operator (row ∷ rows) right = ap (λ (xs : List (Option Value)). compared operator row right ∷ xs) (compare_rows-copies operator rows right)
