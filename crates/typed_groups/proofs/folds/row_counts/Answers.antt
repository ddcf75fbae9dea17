use Rattle.std.proofs.Common.{◌≡◌, ◌∙◌, ℕ, ap, length, map, subst, sym}
use Rattle.std.proofs.lemmas.List.{length-map}
use Rattle.std.proofs.lemmas.Result.{IfErr-weaker, IfOk-weaker}
use Rattle.column_core.specs.Kinds.{is_numbers}
use Rattle.column_core.specs.PrimitiveForm.{optional_numbers}
use Rattle.column_sums.specs.SumAnswer.{number_in}
use Rattle.row_groups.specs.Groups.{AreEndsOf}
use Rattle.runend_array.specs.Array.{dtype_of, rows}
use Rattle.runend_array.specs.Column.{Column, column_dtype, column_rows}
use Rattle.typed_groups.proofs.Counts.{count_refused, counts_alike, zeros_long}
use Rattle.typed_groups.proofs.folds.row_counts.Goals as goal

pub fold_groups-counts-requires-clause-ends : goal.fold_groups-counts-requires-clause-ends
fold_groups-counts-requires-clause-ends g c =
    let long : length (rows c.zeros-column.result) ≡ c.args.count = ap (λ (form : Column). length (column_rows form)) c.zeros-column.ensures ∙ zeros_long c.args.count in
    subst (λ (n : ℕ). AreEndsOf n c.args.ends.now) (sym long) c.requires.ends

pub fold_groups-counts-requires-clause-numbers : goal.fold_groups-counts-requires-clause-numbers
fold_groups-counts-requires-clause-numbers g c = ap (λ (form : Column). is_numbers (column_dtype form)) c.zeros-column.ensures

pub returns-clause-answers : goal.returns-clause-answers
returns-clause-answers g c = λ all counted.
    let zeros = rows c.zeros-column.result in
    let long : length zeros ≡ c.args.count = ap (λ (form : Column). length (column_rows form)) c.zeros-column.ensures ∙ zeros_long c.args.count in
    IfOk-weaker c.fold_groups-counts.result _ _ (λ counts made. counts_alike c.args.ends.now (map number_in zeros) all (optional_numbers counts) (length-map zeros number_in ∙ long ∙ sym counted) made) c.fold_groups-counts.ensures.answers

pub returns-clause-only : goal.returns-clause-only
returns-clause-only g c =
    IfErr-weaker c.fold_groups-counts.result _ _ (λ error refused. count_refused (dtype_of c.zeros-column.result) c.args.ends.now (map number_in (rows c.zeros-column.result)) error refused) c.fold_groups-counts.ensures.refused
