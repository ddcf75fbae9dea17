-- Runs of the same commands agree.
use Rattle.std.proofs.Common.{◌≡◌, [], ◌∷◌, ◌∙◌, ℕ, List, Bool, true, false, Option, Some, None, refl, sym, ap, subst}
use Rattle.std.specs.Prelude.{◌≢◌, ◌↔◌, All, IsSome, IsTrue, option_map}
use Rattle.std.specs.declared.cmp.Ordering.TheVariants.{Less, Greater}
use Rattle.std.proofs.lemmas.Bool.{false≢true}
use Rattle.std.proofs.lemmas.List.Elements.{All-contains, All-head, All-tail}
use Rattle.column_base.specs.declared.dtype.DType.{DType}
use Rattle.column_base.specs.declared.dtype.DType.TheVariants as column
use Rattle.column_base.specs.declared.error.VortexError.TheVariants.{OutOfMemory}
use Rattle.column_core.specs.ScalarForm.{ScalarForm}
use Rattle.column_core.specs.Value.{FlatValue, PlainColumn, Single, Value}
use Rattle.column_ops.specs.OrderFacts as order
use Rattle.column_ops.proofs.BestRows.{IsFurthest-tied}
use Rattle.column_ops.proofs.OrderLaws.{row_equal}
use Rattle.column_sums.specs.SumAnswer.{IsSumAnswer}
use Rattle.column_sums.specs.declared.answer.SumAnswer.{SumAnswer}
use Rattle.runend_array.specs.declared.array_ref.ArrayRef.{ArrayRef}
use Rattle.runend_commands.specs.declared.command.Command.{Command}
use Rattle.runend_commands.specs.declared.command.Command.TheVariants.{At, Sum, MinMax, IsConstant, IsSorted}
use Rattle.runend_commands.specs.declared.command.Answer.{Answer}
use Rattle.runend_commands.specs.declared.command.Answer.TheVariants.{Value as ValueIs, Sum as SumIs, MinMax as MinMaxIs, Bool as BoolIs, Refused}
use Rattle.runend_commands.specs.Extremes.{AreExtremes, AreExtremesIfAny, shown}
use Rattle.runend_commands.specs.Laws.{RunsAgree}
use Rattle.runend_commands.specs.Meaning.{dtype_after, rows_after, plain, AreExtremesOf, IsAnswer, IsRowValue, IsSumOf, IsTruthOf}
use Rattle.runend_commands.specs.Refusal.{refusal}
use Rattle.runend_commands.specs.Step.{IsStep, IsShort, IsRefused, Does}

-- a flat value is determined by the value that it is
one_single : (a b : Option FlatValue) → option_map (λ (v : FlatValue). Single v) a ≡ option_map (λ (v : FlatValue). Single v) b → a ≡ b
one_single None None same = refl
one_single None (Some b) same = absurd (cc)
one_single (Some a) None same = absurd (cc)
one_single (Some a) (Some b) same = cc

-- a row has one value
one_row_value : {A : Type 0} (column : PlainColumn) (index : ℕ) (a b : Answer A) → IsRowValue column index a → IsRowValue column index b → a ≡ b
one_row_value column index (ValueIs s) (ValueIs t) h h' =
    let dtypes = h.0 ∙ sym h'.0 in
    let values = one_single s.value t.value (cc) in
    λ i. ValueIs (record { dtype = dtypes i; value = values i })
one_row_value column index (ValueIs s) b h h' = absurd h'
one_row_value column index a b h h' = absurd h

-- rows have one sum
one_sum_answer : (t : DType) (rows : List (Option Value)) (a b : SumAnswer) → IsSumAnswer t rows a → IsSumAnswer t rows b → a ≡ b
one_sum_answer (column.Primitive p n) rows a b h h' = h ∙ sym h'
one_sum_answer t rows a b h h' = absurd h

one_sum : {A : Type 0} (before : PlainColumn) (a b : Answer A) → IsSumOf before a → IsSumOf before b → a ≡ b
one_sum before (SumIs a) (SumIs b) h h' = ap SumIs (one_sum_answer before.dtype before.rows a b h h')
one_sum before (SumIs a) b h h' = absurd h'
one_sum before a b h h' = absurd h

-- a fact is true or not
one_bool : (P : Type 0) (a b : Bool) → (IsTrue a ↔ P) → (IsTrue b ↔ P) → a ≡ b
one_bool P true true h h' = refl
one_bool P true false h h' = absurd (false≢true (h'.1 (h.0 refl)))
one_bool P false true h h' = absurd (false≢true (h.1 (h'.0 refl)))
one_bool P false false h h' = refl

one_truth : {A : Type 0} (P : Type 0) (a b : Answer A) → IsTruthOf P a → IsTruthOf P b → a ≡ b
one_truth P (BoolIs a) (BoolIs b) h h' = ap BoolIs (one_bool P a b h h')
one_truth P (BoolIs a) b h h' = absurd h'
one_truth P a b h h' = absurd h

-- rows that are all null have no least one
none_least : (before : PlainColumn) (least greatest : ScalarForm) → All (λ row. row ≡ None) before.rows → AreExtremes before least greatest → ⊥
none_least before least greatest none extremes =
    let null = All-contains (λ (row : Option Value). row ≡ None) before.rows (shown least) none extremes.least.among in
    false≢true (subst (λ (row : Option Value). IsSome row) null extremes.least.value)

-- there is one least row, and one greatest
one_pair : (before : PlainColumn) (a b : Option (ScalarForm × ScalarForm)) → AreExtremesIfAny before a → AreExtremesIfAny before b → a ≡ b
one_pair before None None h h' = refl
one_pair before None (Some b) h h' = absurd (none_least before b.0 b.1 h h')
one_pair before (Some a) None h h' = absurd (none_least before a.0 a.1 h' h)
one_pair before (Some a) (Some b) h h' =
    let least_dtypes = h.first_dtype ∙ sym h'.first_dtype in
    let least_values = row_equal a.0.value b.0.value (IsFurthest-tied Less before.rows (shown a.0) (shown b.0) (λ e. cc) h.least h'.least) in
    let greatest_dtypes = h.last_dtype ∙ sym h'.last_dtype in
    let greatest_values = row_equal a.1.value b.1.value (IsFurthest-tied Greater before.rows (shown a.1) (shown b.1) (λ e. cc) h.greatest h'.greatest) in
    λ i. Some (record { dtype = least_dtypes i; value = least_values i }, record { dtype = greatest_dtypes i; value = greatest_values i })

one_extremes : {A : Type 0} (before : PlainColumn) (a b : Answer A) → AreExtremesOf before a → AreExtremesOf before b → a ≡ b
one_extremes before (MinMaxIs a) (MinMaxIs b) h h' = ap MinMaxIs (one_pair before a b h h')
one_extremes before (MinMaxIs a) b h h' = absurd h'
one_extremes before a b h h' = absurd h

-- a command has one answer
one_answer : {A : Type 0} (column : PlainColumn) (command : Command A) (a b : Answer A) → IsAnswer column command a → IsAnswer column command b → a ≡ b
one_answer column (At index) a b h h' = one_row_value column index a b h h'
one_answer column Sum a b h h' = one_sum column a b h h'
one_answer column MinMax a b h h' = one_extremes column a b h h'
one_answer column IsConstant a b h h' = one_truth (order.IsConstant column.rows) a b h h'
one_answer column (IsSorted strict) a b h h' = one_truth (order.IsSorted strict column.rows) a b h h'
one_answer column command a b h h' = h ∙ sym h'

-- steps of one command that do not run out of memory agree
step_agrees : {A : Type 0} (first second first_after second_after : ArrayRef A) (command : Command A) (answer other : Answer A)
    → plain first ≡ plain second → IsStep first command answer first_after → IsStep second command other second_after
    → answer ≢ Refused OutOfMemory → other ≢ Refused OutOfMemory → (answer ≡ other) × (plain first_after ≡ plain second_after)
step_agrees first second first_after second_after command answer other same step step' long long' =
    let refusals = ap (λ (c : PlainColumn). refusal c command) same in
    elim step [
      | IsShort short kept ↦ absurd (long short)
      | IsRefused error is answers kept ↦ elim step' [
        | IsShort short kept' ↦ absurd (long' short)
        | IsRefused error' is' answers' kept' ↦
            let one : Some error ≡ Some error' = sym is ∙ refusals ∙ is' in
            (cc, ap plain kept ∙ same ∙ sym (ap plain kept'))
        | Does done' ↦ absurd (cc (is, done'.accepted))
      ]
      | Does done ↦ elim step' [
        | IsShort short kept' ↦ absurd (long' short)
        | IsRefused error' is' answers' kept' ↦ absurd (cc (is', done.accepted))
        | Does done' ↦
            let rows = done.rows ∙ ap (λ (c : PlainColumn). rows_after c command) same ∙ sym done'.rows in
            let dtypes = done.dtype ∙ ap (λ (c : PlainColumn). dtype_after c command) same ∙ sym done'.dtype in
            let answered = subst (λ (c : PlainColumn). IsAnswer c command answer) same done.answered in
            (one_answer (plain second) command answer other answered done'.answered, λ i. record { dtype = dtypes i; rows = rows i })
      ]
    ]

pub runs_agree : {A : Type 0} → RunsAgree A
runs_agree first second first_after second_after [] [] [] same run run' long long' = (refl, ap plain run ∙ same ∙ sym (ap plain run'))
runs_agree first second first_after second_after [] [] (b ∷ others) same run run' long long' = absurd run'
runs_agree first second first_after second_after [] (a ∷ answers) others same run run' long long' = absurd run
runs_agree first second first_after second_after (q ∷ commands) [] others same run run' long long' = absurd run
runs_agree first second first_after second_after (q ∷ commands) (a ∷ answers) [] same run run' long long' = absurd run'
runs_agree first second first_after second_after (q ∷ commands) (a ∷ answers) (b ∷ others) same run run' long long' =
    let short = λ (answer : Answer _). answer ≢ Refused OutOfMemory in
    let here = step_agrees first second run.0 run'.0 q a b same run.1 run'.1 (All-head short a answers long) (All-head short b others long') in
    let rest = runs_agree run.0 run'.0 first_after second_after commands answers others here.1 run.2 run'.2 (All-tail short a answers long) (All-tail short b others long') in
    (λ i. here.0 i ∷ rest.0 i, rest.1)
