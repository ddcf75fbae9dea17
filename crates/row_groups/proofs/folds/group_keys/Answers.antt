use Rattle.std.proofs.Common.{◌∙◌, List, Option, ap, length, subst, sym}
use Rattle.std.proofs.lemmas.Result.{IfOk-weaker}
use Rattle.column_core.specs.Value.{Value}
use Rattle.runend_array.specs.Column.{column_rows}
use Rattle.runend_windows.specs.Cover.{IsTightCover}
use Rattle.runend_windows.proofs.RunRows.{length-run_rows}
use Rattle.row_groups.specs.Folded.{end_rows}
use Rattle.row_groups.proofs.GroupRuns.{key_parts, key_rows, named_cover}
use Rattle.row_groups.proofs.folds.group_keys.Goals as goal

pub new_unchecked-runs-requires : goal.new_unchecked-runs-requires
new_unchecked-runs-requires g c = key_parts c.in-Ok.stops c.in_ok-values.values c.args.ends.now c.args.count c.in-Ok.ensures.stored c.in_ok-values.ensures.stored c.requires.ends

pub returns-clause-cover : goal.returns-clause-cover
returns-clause-cover g c =
    let ends = c.args.ends.now in
    let shown = key_rows c.in-Ok.stops c.in_ok-values.values ends c.args.count c.in-Ok.ensures.stored c.in_ok-values.ensures.stored c.new_unchecked-runs.result c.new_unchecked-runs.ensures in
    IfOk-weaker c.of_runs.result _ _ (λ keys is. subst (λ (all : List (Option Value)). IsTightCover all ends (end_rows ends)) (sym (ap column_rows is ∙ shown)) (named_cover ends c.args.count c.requires.ends)) c.of_runs.ensures.form

pub returns-clause-count : goal.returns-clause-count
returns-clause-count g c =
    let ends = c.args.ends.now in
    let shown = key_rows c.in-Ok.stops c.in_ok-values.values ends c.args.count c.in-Ok.ensures.stored c.in_ok-values.ensures.stored c.new_unchecked-runs.result c.new_unchecked-runs.ensures in
    IfOk-weaker c.of_runs.result _ _ (λ keys is. ap length (ap column_rows is ∙ shown) ∙ length-run_rows ends (end_rows ends) 0 c.args.count) c.of_runs.ensures.form
