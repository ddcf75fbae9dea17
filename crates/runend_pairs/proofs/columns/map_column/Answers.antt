use Rattle.std.proofs.Common.{◌≡◌, ◌∙◌, ℕ, Bool, List, Option, ap, length, subst, sym}
use Rattle.std.specs.Prelude.{IfErr, IfOk}
use Rattle.column_core.specs.FlatColumn.{leaf_of}
use Rattle.column_core.specs.Value.{Value}
use Rattle.runend_array.specs.Array.{column_of, rows}
use Rattle.runend_pairs.specs.Faults.{IsZipRefusal}
use Rattle.runend_pairs.specs.Runs.{rows_in}
use Rattle.runend_pairs.specs.Zipped.{zip_rows, IsAnswerColumn, IsOneRow}
use Rattle.runend_pairs.proofs.Mapped.{one_mapped_row, same_answers}
use Rattle.runend_pairs.proofs.columns.map_column.Goals as goal

pub zip_shown-answers-requires-clause-one : goal.zip_shown-answers-requires-clause-one
zip_shown-answers-requires-clause-one g c = λ constant.
    let f = g.O.Pairwise.answer_of c.args.operation.now in
    let runs = c.in_ok-runs.runs in
    let own = rows c.args.column.now in
    let count = c.len-count.result in
    let shown_is : rows_in runs.ends runs.offset (leaf_of runs.values) count ≡ own = ap (λ (n : ℕ). rows_in runs.ends runs.offset (leaf_of runs.values) n) c.len-count.ensures ∙ c.in_ok-runs.ensures.rows in
    subst (λ (n : ℕ). IsOneRow n (zip_rows f (rows_in runs.ends runs.offset (leaf_of runs.values) count) (rows_in runs.ends runs.offset (leaf_of runs.values) count))) (sym c.len-count.ensures)
    (subst (λ (answers : List (Option Value)). IsOneRow (length own) answers) (sym (same_answers f own own _ _ shown_is shown_is))
    (one_mapped_row f (column_of c.args.column.now) (sym c.is_filled_constant.ensures ∙ constant)))

pub returns-clause-answers : goal.returns-clause-answers
returns-clause-answers g c =
    let f = g.O.Pairwise.answer_of c.args.operation.now in
    let runs = c.in_ok-runs.runs in
    let own = rows c.args.column.now in
    let dtype = g.K.Stored.dtype_in c.args.stored.now c.args.nullability in
    let count = c.len-count.result in
    let shown_is : rows_in runs.ends runs.offset (leaf_of runs.values) count ≡ own = ap (λ (n : ℕ). rows_in runs.ends runs.offset (leaf_of runs.values) n) c.len-count.ensures ∙ c.in_ok-runs.ensures.rows in
    subst (λ (constant : Bool). IfOk c.zip_shown-answers.result (λ made. IsAnswerColumn constant (zip_rows f own own) dtype (column_of made))) c.is_filled_constant.ensures
    (subst (λ (answers : List (Option Value)). IfOk c.zip_shown-answers.result (λ made. IsAnswerColumn c.is_filled_constant.result answers dtype (column_of made))) (same_answers f own own _ _ shown_is shown_is)
    c.zip_shown-answers.ensures.answers)

pub returns-clause-refused : goal.returns-clause-refused
returns-clause-refused g c =
    let f = g.O.Pairwise.answer_of c.args.operation.now in
    let runs = c.in_ok-runs.runs in
    let own = rows c.args.column.now in
    let count = c.len-count.result in
    let shown_is : rows_in runs.ends runs.offset (leaf_of runs.values) count ≡ own = ap (λ (n : ℕ). rows_in runs.ends runs.offset (leaf_of runs.values) n) c.len-count.ensures ∙ c.in_ok-runs.ensures.rows in
    subst (λ (answers : List (Option Value)). IfErr c.zip_shown-answers.result (IsZipRefusal (g.O.Pairwise.has c.args.operation.now) answers)) (same_answers f own own _ _ shown_is shown_is) c.zip_shown-answers.ensures.refused
