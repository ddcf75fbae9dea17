-- Answers that are put one after the other.
use Rattle.std.proofs.Common.{◌≡◌, ◌∙◌, ◌+◌, ◌<◌, ◌++◌, ℕ, List, [], ◌∷◌, Option, None, ap, arith, get_or, inl, inr, length, subst, sym}
use Rattle.std.specs.Prelude.{slice_index_or}
use Rattle.std.proofs.lemmas.Bool.{cases_lt}
use Rattle.std.proofs.lemmas.List.{get_or_append_left, get_or_at, length-append}
use Rattle.column_core.specs.Value.{Value}
use Rattle.runend_pairs.specs.Groups.{group_rows}
use Rattle.runend_pairs.specs.declared.group_fault.GroupError.{GroupError}
use Rattle.runend_pairs.specs.declared.group_fault.GroupError.TheVariants.{Refused, SumOverflow}
use Rattle.typed_groups.specs.declared.question.Question.{Question}
use Rattle.typed_groups.specs.declared.question.Question.TheVariants as asks
use Rattle.typed_groups.specs.Group.{AreAnswersTo, IsEachRefusal, IsFirstWithout, IsGroupRefusal}
use Rattle.typed_groups.specs.Questions.{HasAnswer, IsAnswer}

-- without groups there is no answer
pub none_answered : (question : Question) (ends : List ℕ) (rows : List (Option Value)) (count : ℕ) (answers : List (Option Value)) → answers ≡ [] → count ≡ 0 → AreAnswersTo question ends rows count answers
none_answered question ends rows count answers empty none = record {
  counted = ap length empty ∙ sym none;
  each = λ group below. absurd (omega (arith, none, below));
}

-- an answer more
pub one_more_answered : (question : Question) (ends : List ℕ) (rows : List (Option Value)) (count : ℕ) (answers next : List (Option Value)) (answer : Option Value) → AreAnswersTo question ends rows count answers → IsAnswer question (group_rows ends rows count) answer
    → next ≡ answers ++ answer ∷ [] → AreAnswersTo question ends rows (count + 1) next
one_more_answered question ends rows count answers next answer before here pushed = record {
  counted = ap length pushed ∙ length-append answers (answer ∷ []) ∙ ap (λ (n : ℕ). n + 1) before.counted;
  each = λ group below. elim (cases_lt group count) [
    | inl under ↦
        let inside : group < length answers = omega (arith, under, before.counted) in
        subst (IsAnswer question (group_rows ends rows group)) (sym (ap (λ (l : List (Option Value)). get_or l group None) pushed ∙ get_or_append_left answers (answer ∷ []) None group inside)) (before.each group under)
    | inr past ↦
        let last : group ≡ count = omega (arith, past, below) in
        let value : get_or next count None ≡ answer = ap (λ (l : List (Option Value)). get_or l count None) pushed ∙ get_or_at answers answer [] None count before.counted in
        subst (λ (i : ℕ). IsAnswer question (group_rows ends rows i) (get_or next i None)) (sym last) (subst (IsAnswer question (group_rows ends rows count)) (sym value) here)
  ];
}

-- rows that are answered have an answer
pub has_answer : (question : Question) (rows : List (Option Value)) (answer : Option Value) → IsAnswer question rows answer → HasAnswer question rows
has_answer asks.Count rows answer is = tt
has_answer (asks.FloatSum f) rows answer is = tt
has_answer asks.DecimalSum rows answer is = is.0
has_answer (asks.LeastNumber f) rows answer is = tt
has_answer (asks.GreatestNumber f) rows answer is = tt
has_answer asks.Least rows answer is = tt
has_answer asks.Greatest rows answer is = tt
has_answer asks.First rows answer is = tt
has_answer asks.Last rows answer is = tt

-- the group after those that are answered is refused
pub refused_after : (question : Question) (ends : List ℕ) (rows : List (Option Value)) (count : ℕ) (answers : List (Option Value)) (error : GroupError) → AreAnswersTo question ends rows count answers → count < length ends
    → IsGroupRefusal question (group_rows ends rows count) count error → IsEachRefusal question ends rows error
refused_after question ends rows count answers (Refused error) before within refused = refused
refused_after question ends rows count answers (SumOverflow group) before within refused =
    subst (IsFirstWithout question ends rows) (sym refused.0) (record {
      within = within;
      here = refused.1;
      before = λ earlier below. has_answer question (group_rows ends rows earlier) (slice_index_or answers earlier None) (before.each earlier below);
    })

-- the answers of as many groups as there are
pub all_answered : (question : Question) (ends : List ℕ) (rows : List (Option Value)) (count : ℕ) (answers given : List (Option Value)) → AreAnswersTo question ends rows count answers → count ≡ length ends → given ≡ answers → AreAnswersTo question ends rows (length ends) given
all_answered question ends rows count answers given made counted same =
    subst (AreAnswersTo question ends rows (length ends)) (sym same) (subst (λ (n : ℕ). AreAnswersTo question ends rows n answers) counted made)

-- where all groups are answered none is without an answer
pub none_without : (question : Question) (ends : List ℕ) (rows answers : List (Option Value)) → AreAnswersTo question ends rows (length ends) answers → (group : ℕ) → ¬ IsFirstWithout question ends rows group
none_without question ends rows answers made group without =
    without.here (has_answer question (group_rows ends rows group) (slice_index_or answers group None) (made.each group without.within))
