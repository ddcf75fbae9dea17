-- The first refusal is that of the first sum that does not fit.
use Rattle.std.proofs.Common.{◌≡◌, ◌∙◌, ◌+◌, ◌<◌, ℕ, List, Some, ap, arith, get_or, inl, inr, subst, sym}
use Rattle.std.specs.Prelude.{slice_get}
use Rattle.std.proofs.lemmas.Bool.{cases_lt}
use Rattle.std.proofs.lemmas.Option.{get_or_from_slice_get}
use Rattle.runend_pairs.specs.declared.group_fault.GroupError.{GroupError}
use Rattle.runend_pairs.specs.declared.group_fault.GroupError.TheVariants as groups
use Rattle.typed_columns.specs.Typed.{TypedForm}
use Rattle.typed_groups.specs.Answers.{IsLargeGroup}
use Rattle.tables.specs.declared.fault.TableError.{TableError}
use Rattle.tables.specs.GroupFaults.{IsAnswerRefusal, IsAnswersRefusal, IsErrorOf, IsFirstLargeSum, IsLargeSum}
use Rattle.tables.specs.Grouping.{AskedForm}
use Rattle.tables.specs.Tables.{IsNamed, IsTable, TableForm}
use Rattle.tables.proofs.Keyed.{named_once}

-- no sum of the column of this name is too large
pub none_large_named : (t : TableForm) (ends : List ℕ) (asks : AskedForm) (column : TypedForm) → IsTable t → IsNamed t asks.column column → ((group : ℕ) → ¬ IsLargeGroup ends asks.fold column group) → (group : ℕ) → ¬ IsLargeSum t ends asks group
none_large_named t ends asks column table named fits group large =
    let same = named_once t asks.column large.column column table large.named named in
    fits group (subst (λ (c : TypedForm). IsLargeGroup ends asks.fold c group) same large.first)

-- ---- the first refusal

-- one answer more without a large sum
pub none_large_more : (t : TableForm) (ends : List ℕ) (asked : List AskedForm) (place : ℕ) (asks : AskedForm) → slice_get asked place ≡ Some asks → ((group : ℕ) → ¬ IsLargeSum t ends asks group)
    → ((k : ℕ) (d : AskedForm) → k < place → (group : ℕ) → ¬ IsLargeSum t ends (get_or asked k d) group) → (k : ℕ) (d : AskedForm) → k < place + 1 → (group : ℕ) → ¬ IsLargeSum t ends (get_or asked k d) group
none_large_more t ends asked place asks there none before k d below = elim (cases_lt k place) [
  | inl under ↦ before k d under
  | inr past ↦ let at : k ≡ place = omega (arith, past, below) in
      subst (λ (a : AskedForm). (group : ℕ) → ¬ IsLargeSum t ends a group) (sym (ap (λ (i : ℕ). get_or asked i d) at ∙ get_or_from_slice_get asked place asks d there)) none
]

-- the first answer that has one
pub first_large : (t : TableForm) (ends : List ℕ) (asked : List AskedForm) (place group : ℕ) (asks : AskedForm) → slice_get asked place ≡ Some asks → IsLargeSum t ends asks group
    → ((k : ℕ) (d : AskedForm) → k < place → (earlier : ℕ) → ¬ IsLargeSum t ends (get_or asked k d) earlier) → IsFirstLargeSum t ends asked place group
first_large t ends asked place group asks there large before = record {
  asks = asks;
  there = there;
  large = large;
  before = λ k other below is. subst (λ (a : AskedForm). (earlier : ℕ) → ¬ IsLargeSum t ends a earlier) (get_or_from_slice_get asked k other other is) (before k other below);
}

-- answers are refused as the first one is that is
pub answers_refused : (t : TableForm) (ends : List ℕ) (asked : List AskedForm) (place : ℕ) (asks : AskedForm) (given : GroupError) (error : TableError) → slice_get asked place ≡ Some asks → IsAnswerRefusal t ends asks given → IsErrorOf place given error
    → ((k : ℕ) (d : AskedForm) → k < place → (earlier : ℕ) → ¬ IsLargeSum t ends (get_or asked k d) earlier) → IsAnswersRefusal t ends asked error
answers_refused t ends asked place asks (groups.SumOverflow group) error there refused is before = subst (IsAnswersRefusal t ends asked) (sym is) (first_large t ends asked place group asks there refused before)
answers_refused t ends asked place asks (groups.Refused reason) error there refused is before = subst (IsAnswersRefusal t ends asked) (sym is) refused
