-- The row furthest to one side among the rows so far.
use Rattle.std.proofs.Common.{◌≡◌, ◌≢◌, ◌∙◌, ◌-◌, ℕ, List, [], ◌∷◌, ◌++◌, true, false, Option, Some, None, refl, sym, subst, arith, inl, inr}
use Rattle.std.specs.Prelude.{◌==◌, All, Contains, IsSome, MatchOption, slice_range}
use Rattle.std.specs.Ordering.{ordering_index, ordering_reverse}
use Rattle.std.specs.declared.cmp.Ordering.{Ordering}
use Rattle.std.specs.declared.cmp.Ordering.TheVariants.{Less, Equal, Greater}
use Rattle.std.proofs.lemmas.Bool.{false≢true}
use Rattle.std.proofs.lemmas.Cmp.{tied_itself}
use Rattle.std.proofs.lemmas.List.Elements.{All-nil, All-push, All-contains, Contains-append_left, Contains-push, Contains-push_cases}
use Rattle.column_core.specs.Value.{Value}
use Rattle.column_ops.specs.Order.{row_cmp}
use Rattle.column_ops.specs.OrderFacts.{IsFurthest}
use Rattle.column_ops.specs.Steps.{is_past}
use Rattle.column_ops.proofs.OrderLaws.{row_total, side_chain}

-- the best row so far, and all rows are null where there is none
abbrev pub IsBest : Ordering → List (Option Value) → Option (Option Value) → Type 0
IsBest side rows best = MatchOption best (All (λ row. row ≡ None) rows) (λ row. IsFurthest side rows row)

-- orderings of one index are one
same_ordering : (o side : Ordering) → (ordering_index o == ordering_index side) ≡ true → o ≡ side
same_ordering Less Less h = refl
same_ordering Equal Equal h = refl
same_ordering Greater Greater h = refl
same_ordering o side h = cc

-- orderings of two indices are two
other_ordering : (o side : Ordering) → (ordering_index o == ordering_index side) ≡ false → o ≢ side
other_ordering Less Less h = cc
other_ordering Equal Equal h = cc
other_ordering Greater Greater h = cc
other_ordering o side h = λ e. cc

-- no row is past itself
not_itself : (side : Ordering) (row : Option Value) → side ≢ Equal → row_cmp row row ≢ side
not_itself side row sided e = sided (sym e ∙ tied_itself row_total row)

-- no value is among rows that are all null
none_among : (rows : List (Option Value)) (value : Value) → All (λ row. row ≡ None) rows → Contains rows (Some value) → ⊥
none_among rows value all has = let e : Some value ≡ None = All-contains (λ (row : Option Value). row ≡ None) rows (Some value) all has in cc

some_among : (rows : List (Option Value)) (row : Option Value) → IsSome row → All (λ r. r ≡ None) rows → Contains rows row → ⊥
some_among rows None some all has = false≢true some
some_among rows (Some value) some all has = none_among rows value all has

-- before the first row none is the best one
pub IsBest-none : (side : Ordering) (xs : List (Option Value)) (start : ℕ) → IsBest side (slice_range xs start start) None
IsBest-none side xs start = let none : start - start ≡ 0 = omega arith in rw none (All-nil (λ (row : Option Value). row ≡ None))

-- the next row is the best one where it is past the best one so far
pub IsBest-past : (side : Ordering) (rows : List (Option Value)) (row : Option Value) (best : Option (Option Value)) → side ≢ Equal
    → is_past side row best ≡ true → IsBest side rows best → IsBest side (rows ++ row ∷ []) (Some row)
IsBest-past side rows None best sided past is_best = cc
IsBest-past side rows (Some value) None sided past all = record {
  value = refl;
  among = Contains-push rows (Some value);
  none_past = λ other has some. elim (Contains-push_cases rows (Some value) other has) [
    | inl before ↦ absurd (some_among rows other some all before)
    | inr here ↦ rw (← here) (not_itself side (Some value) sided)
  ];
}
IsBest-past side rows (Some value) (Some best) sided past furthest = record {
  value = refl;
  among = Contains-push rows (Some value);
  none_past = λ other has some. elim (Contains-push_cases rows (Some value) other has) [
    | inl before ↦ λ e. furthest.none_past other before some
        (side_chain row_total side other (Some value) best e (same_ordering (row_cmp (Some value) best) side past))
    | inr here ↦ rw (← here) (not_itself side (Some value) sided)
  ];
}

-- the best row so far stays where the next one is not past it
pub IsBest-stays : (side : Ordering) (rows : List (Option Value)) (row : Option Value) (best : Option (Option Value))
    → is_past side row best ≡ false → IsBest side rows best → IsBest side (rows ++ row ∷ []) best
IsBest-stays side rows None None past all = All-push (λ (r : Option Value). r ≡ None) rows None all refl
IsBest-stays side rows (Some value) None past all = cc
IsBest-stays side rows None (Some best) past furthest = record {
  value = furthest.value;
  among = Contains-append_left rows (None ∷ []) best furthest.among;
  none_past = λ other has some. elim (Contains-push_cases rows None other has) [
    | inl before ↦ furthest.none_past other before some
    | inr here ↦ absurd (false≢true (subst IsSome (sym here) some))
  ];
}
IsBest-stays side rows (Some value) (Some best) past furthest = record {
  value = furthest.value;
  among = Contains-append_left rows (Some value ∷ []) best furthest.among;
  none_past = λ other has some. elim (Contains-push_cases rows (Some value) other has) [
    | inl before ↦ furthest.none_past other before some
    | inr here ↦ rw (← here) (other_ordering (row_cmp (Some value) best) side past)
  ];
}

-- two rows are tied where neither of them may be past the other
tied : (side o : Ordering) → side ≢ Equal → o ≢ side → ordering_reverse o ≢ side → o ≡ Equal
tied Less Less sided first second = absurd (first refl)
tied Less Equal sided first second = refl
tied Less Greater sided first second = absurd (second refl)
tied Equal o sided first second = absurd (sided refl)
tied Greater Less sided first second = absurd (second refl)
tied Greater Equal sided first second = refl
tied Greater Greater sided first second = absurd (first refl)

-- two rows that are furthest to one side are equal in the order
pub IsFurthest-tied : (side : Ordering) (rows : List (Option Value)) (a b : Option Value) → side ≢ Equal → IsFurthest side rows a → IsFurthest side rows b → row_cmp a b ≡ Equal
IsFurthest-tied side rows a b sided first second =
    tied side (row_cmp a b) sided (second.none_past a first.among first.value)
    (λ e. first.none_past b second.among second.value (row_total.antisymm b a ∙ e))
