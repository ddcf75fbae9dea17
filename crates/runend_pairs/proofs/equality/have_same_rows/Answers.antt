use Rattle.std.proofs.Common.{◌≡◌, ◌∙◌, ℕ, Some, true, ap, refl, subst, sym}
use Rattle.std.specs.Prelude.{IfOk}
use Rattle.std.proofs.lemmas.Bool.{false≢true}
use Rattle.column_core.specs.FlatColumn.{leaf_of}
use Rattle.column_core.specs.Value.{Single, Truth}
use Rattle.runend_pairs.specs.Faults.{IsZipRefusal}
use Rattle.runend_pairs.specs.Operations.{same_test}
use Rattle.runend_pairs.specs.Runs.{rows_in, AreColumnRuns}
use Rattle.runend_pairs.specs.Zipped.{zip_rows, AllHave}
use Rattle.runend_pairs.proofs.Same.{all_same, some_differ}
use Rattle.runend_pairs.proofs.equality.have_same_rows.Goals as goal

pub returns-in-Ok-clause-equal : goal.returns-in-Ok-clause-equal
returns-in-Ok-clause-equal g c =
    let left = c.in_ok-left_runs.left_runs in
    let right = c.in_ok-right_runs.right_runs in
    let count = c.len-count.result in
    let many : count ≡ _ = c.len-count.ensures in
    let other : count ≡ _ = c.len-count.ensures ∙ c.requires.counted in
    let left_is = ap (λ (n : ℕ). rows_in left.ends left.offset (leaf_of left.values) n) many ∙ c.in_ok-left_runs.ensures.rows in
    let right_is = ap (λ (n : ℕ). rows_in right.ends right.offset (leaf_of right.values) n) other ∙ c.in_ok-right_runs.ensures.rows in
    let left_runs = subst (λ (n : ℕ). AreColumnRuns left.ends left.offset (leaf_of left.values) n) (sym many) c.in_ok-left_runs.ensures.runs in
    let right_runs = subst (λ (n : ℕ). AreColumnRuns right.ends right.offset (leaf_of right.values) n) (sym other) c.in_ok-right_runs.ensures.runs in
    let had = subst (λ r. IfOk r (λ runs. AllHave (λ answer. answer ≡ Some (Single (Truth true))) (zip_rows same_test (rows_in left.ends left.offset (leaf_of left.values) count)
    (rows_in right.ends right.offset (leaf_of right.values) count)))) c.in-Ok.is c.zip_runs-answers.ensures.had in
    let same = all_same left.ends left.offset (leaf_of left.values) right.ends right.offset (leaf_of right.values) count left_runs right_runs had in
    (λ _. sym left_is ∙ same ∙ right_is, λ _. refl)

pub returns-in-Overflow-clause-equal : goal.returns-in-Overflow-clause-equal
returns-in-Overflow-clause-equal g c =
    let left = c.in_ok-left_runs.left_runs in
    let right = c.in_ok-right_runs.right_runs in
    let count = c.len-count.result in
    let lefts = rows_in left.ends left.offset (leaf_of left.values) count in
    let rights = rows_in right.ends right.offset (leaf_of right.values) count in
    let left_is = ap (λ (n : ℕ). rows_in left.ends left.offset (leaf_of left.values) n) c.len-count.ensures ∙ c.in_ok-left_runs.ensures.rows in
    let right_is = ap (λ (n : ℕ). rows_in right.ends right.offset (leaf_of right.values) n) (c.len-count.ensures ∙ c.requires.counted) ∙ c.in_ok-right_runs.ensures.rows in
    let without = subst (IsZipRefusal (λ answer. answer ≡ Some (Single (Truth true))) (zip_rows same_test lefts rights)) c.in-Overflow.is c.in-Err.ensures.refused in
    (λ h. absurd (false≢true h), λ same. absurd (some_differ lefts rights _ without (left_is ∙ same ∙ sym right_is)))
