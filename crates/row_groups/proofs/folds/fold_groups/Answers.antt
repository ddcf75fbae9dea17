use Rattle.std.proofs.Common.{◌∙◌, ℕ, List, length, map, subst, sym}
use Rattle.column_core.specs.FlatColumn.{leaf_of}
use Rattle.column_core.specs.PrimitiveForm.{PrimitiveForm, optional_numbers}
use Rattle.column_sums.specs.SumAnswer.{number_in}
use Rattle.runend_array.specs.Array.{dtype_of, rows}
use Rattle.runend_pairs.specs.GroupAnswers.{answer_of}
use Rattle.runend_pairs.specs.GroupFaults.{groups_fault}
use Rattle.runend_pairs.specs.Groups.{AreGroupAnswers}
use Rattle.row_groups.proofs.GroupRuns.{fold_refused, found_ends, keys_fit}
use Rattle.row_groups.proofs.folds.fold_groups.Goals as goal

pub returns-in_err-groups-clause-refused : goal.returns-in_err-groups-clause-refused
returns-in_err-groups-clause-refused g c =
    let keys = c.in_ok-keys.keys in
    let values = c.args.values.now in
    let fit = keys_fit (dtype_of keys) (dtype_of values) (length (rows keys)) (length (rows values)) c.in_ok-keys.ensures.dtype c.requires.numbers (c.in_ok-keys.ensures.count ∙ c.len.ensures) in
    fold_refused c.from_residual-in_err-groups.result (groups_fault (dtype_of keys) (dtype_of values) (length (rows keys)) (length (rows values))) c.args.fold (dtype_of values) (rows keys) c.args.ends.now (map number_in (rows values))
    c.in_err-groups.field-0.0 c.from_residual-in_err-groups.ensures.1 fit c.in_ok-keys.ensures.cover c.in_err-groups.ensures.refused

pub returns-clause-answers : goal.returns-clause-answers
returns-clause-answers g c =
    let keys = c.in_ok-keys.keys in
    let groups = c.in_ok-groups.groups in
    let same = found_ends (rows keys) (dtype_of keys) groups.ends (leaf_of groups.keys) c.args.ends.now c.in_ok-groups.ensures.groups c.in_ok-keys.ensures.cover in
    subst (λ (answers : PrimitiveForm). AreGroupAnswers (answer_of c.args.fold) c.args.ends.now (map number_in (rows c.args.values.now)) (optional_numbers answers)) (sym c.answers_of.ensures)
    (subst (λ (ends : List ℕ). AreGroupAnswers (answer_of c.args.fold) ends (map number_in (rows c.args.values.now)) (optional_numbers groups.answers)) same c.in_ok-groups.ensures.answers)
