use Rattle.std.proofs.Common.{◌≡◌, ◌∙◌, ℕ, Bool, List, Option, ap, length, subst, sym}
use Rattle.std.specs.Prelude.{IfErr, IfOk}
use Rattle.column_base.specs.declared.dtype.DType.{DType}
use Rattle.column_base.specs.Types.{nullability_of}
use Rattle.column_core.specs.FlatColumn.{leaf_of}
use Rattle.column_core.specs.Leaf.{leaf_dtype}
use Rattle.column_core.specs.Value.{Value}
use Rattle.runend_array.specs.Array.{column_of, dtype_of, rows}
use Rattle.runend_pairs.specs.Faults.{IsZipRefusal}
use Rattle.runend_pairs.specs.Operations.{IsNeverNull}
use Rattle.runend_pairs.specs.Runs.{rows_in}
use Rattle.runend_pairs.specs.Zipped.{zip_rows, AllHave, IsAnswerColumn, IsOneRow}
use Rattle.runend_pairs.proofs.AnswerColumns.{one_answer_row}
use Rattle.runend_pairs.proofs.Mapped.{same_answers}
use Rattle.runend_pairs.proofs.columns.zip_columns.Goals as goal

pub zip_shown-answers-requires-clause-filled : goal.zip_shown-answers-requires-clause-filled
zip_shown-answers-requires-clause-filled g c = λ required.
    let f = g.O.Pairwise.answer_of c.args.operation.now in
    subst (λ (t : DType). IsNeverNull (nullability_of t) (nullability_of (leaf_dtype (leaf_of c.in-Ok.right_runs.values))) f) (sym c.in_ok-left_runs.ensures.dtype)
    (subst (λ (t : DType). IsNeverNull (nullability_of (dtype_of c.args.left.now)) (nullability_of t) f) (sym c.in-Ok.ensures.dtype) (c.requires.filled required))

pub zip_shown-answers-requires-clause-one : goal.zip_shown-answers-requires-clause-one
zip_shown-answers-requires-clause-one g c = λ constant.
    let f = g.O.Pairwise.answer_of c.args.operation.now in
    let left = c.in_ok-left_runs.left_runs in
    let right = c.in-Ok.right_runs in
    let lefts = rows c.args.left.now in
    let rights = rows c.args.right.now in
    let count = c.len-count.result in
    let as_many = c.requires.counted in
    let left_is : rows_in left.ends left.offset (leaf_of left.values) count ≡ lefts = ap (λ (n : ℕ). rows_in left.ends left.offset (leaf_of left.values) n) c.len-count.ensures ∙ c.in_ok-left_runs.ensures.rows in
    let right_is : rows_in right.ends right.offset (leaf_of right.values) count ≡ rights =
    ap (λ (n : ℕ). rows_in right.ends right.offset (leaf_of right.values) n) (c.len-count.ensures ∙ as_many) ∙ c.in-Ok.ensures.rows in
    subst (λ (n : ℕ). IsOneRow n (zip_rows f (rows_in left.ends left.offset (leaf_of left.values) count) (rows_in right.ends right.offset (leaf_of right.values) count))) (sym c.len-count.ensures)
    (subst (λ (answers : List (Option Value)). IsOneRow (length lefts) answers) (sym (same_answers f lefts rights _ _ left_is right_is))
    (one_answer_row f (column_of c.args.left.now) (column_of c.args.right.now) (sym c.are_constants.ensures ∙ constant) as_many))

pub returns-clause-answers : goal.returns-clause-answers
returns-clause-answers g c =
    let f = g.O.Pairwise.answer_of c.args.operation.now in
    let left = c.in_ok-left_runs.left_runs in
    let right = c.in-Ok.right_runs in
    let lefts = rows c.args.left.now in
    let rights = rows c.args.right.now in
    let dtype = g.K.Stored.dtype_in c.args.stored.now c.args.nullability in
    let count = c.len-count.result in
    let left_is : rows_in left.ends left.offset (leaf_of left.values) count ≡ lefts = ap (λ (n : ℕ). rows_in left.ends left.offset (leaf_of left.values) n) c.len-count.ensures ∙ c.in_ok-left_runs.ensures.rows in
    let right_is : rows_in right.ends right.offset (leaf_of right.values) count ≡ rights =
    ap (λ (n : ℕ). rows_in right.ends right.offset (leaf_of right.values) n) (c.len-count.ensures ∙ c.requires.counted) ∙ c.in-Ok.ensures.rows in
    subst (λ (constant : Bool). IfOk c.zip_shown-answers.result (λ made. IsAnswerColumn constant (zip_rows f lefts rights) dtype (column_of made))) c.are_constants.ensures
    (subst (λ (answers : List (Option Value)). IfOk c.zip_shown-answers.result (λ made. IsAnswerColumn c.are_constants.result answers dtype (column_of made))) (same_answers f lefts rights _ _ left_is right_is)
    c.zip_shown-answers.ensures.answers)

pub returns-clause-had : goal.returns-clause-had
returns-clause-had g c =
    let f = g.O.Pairwise.answer_of c.args.operation.now in
    let left = c.in_ok-left_runs.left_runs in
    let right = c.in-Ok.right_runs in
    let lefts = rows c.args.left.now in
    let rights = rows c.args.right.now in
    let count = c.len-count.result in
    let left_is : rows_in left.ends left.offset (leaf_of left.values) count ≡ lefts = ap (λ (n : ℕ). rows_in left.ends left.offset (leaf_of left.values) n) c.len-count.ensures ∙ c.in_ok-left_runs.ensures.rows in
    let right_is : rows_in right.ends right.offset (leaf_of right.values) count ≡ rights =
    ap (λ (n : ℕ). rows_in right.ends right.offset (leaf_of right.values) n) (c.len-count.ensures ∙ c.requires.counted) ∙ c.in-Ok.ensures.rows in
    subst (λ (answers : List (Option Value)). IfOk c.zip_shown-answers.result (λ made. AllHave (g.O.Pairwise.has c.args.operation.now) answers)) (same_answers f lefts rights _ _ left_is right_is) c.zip_shown-answers.ensures.had

pub returns-clause-refused : goal.returns-clause-refused
returns-clause-refused g c =
    let f = g.O.Pairwise.answer_of c.args.operation.now in
    let left = c.in_ok-left_runs.left_runs in
    let right = c.in-Ok.right_runs in
    let lefts = rows c.args.left.now in
    let rights = rows c.args.right.now in
    let count = c.len-count.result in
    let left_is : rows_in left.ends left.offset (leaf_of left.values) count ≡ lefts = ap (λ (n : ℕ). rows_in left.ends left.offset (leaf_of left.values) n) c.len-count.ensures ∙ c.in_ok-left_runs.ensures.rows in
    let right_is : rows_in right.ends right.offset (leaf_of right.values) count ≡ rights =
    ap (λ (n : ℕ). rows_in right.ends right.offset (leaf_of right.values) n) (c.len-count.ensures ∙ c.requires.counted) ∙ c.in-Ok.ensures.rows in
    subst (λ (answers : List (Option Value)). IfErr c.zip_shown-answers.result (IsZipRefusal (g.O.Pairwise.has c.args.operation.now) answers)) (same_answers f lefts rights _ _ left_is right_is) c.zip_shown-answers.ensures.refused
