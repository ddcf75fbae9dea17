use Rattle.std.proofs.Common.{◌∙◌, Bool, refl, ap, subst, sym}
use Rattle.std.specs.Prelude.{option_map}
use Rattle.column_core.specs.FlatColumn.{leaf_of}
use Rattle.column_core.specs.Leaf.{leaf_dtype, single_rows}
use Rattle.column_core.specs.ScalarView.{sees}
use Rattle.column_core.specs.Value.{FlatValue, Single}
use Rattle.runend_array.specs.Array.{column_of}
use Rattle.runend_array.specs.Column.{Constant, OfConstant, column_of_runs}
use Rattle.runend_windows.specs.Ends.{ends_of}
use Rattle.runend_windows.proofs.RunRows.{length-run_rows}
use Rattle.runend_builder.proofs.Parts.{parts_of_rows}
use Rattle.runend_pairs.specs.Runs.{rows_in}
use Rattle.runend_pairs.specs.Zipped.{IsAnswerColumn}
use Rattle.runend_pairs.proofs.AnswerColumns.{constant_answers, run_answers, value_is}
use Rattle.runend_pairs.proofs.columns.column_over.Goals as goal

pub returns-then-constant-clause-column : goal.returns-then-constant-clause-column
returns-then-constant-clause-column g c =
    let ends = c.args.ends in
    let values = leaf_of c.args.values in
    let rows = rows_in ends 0 values c.args.count in
    let dtype = leaf_dtype values in
    let all = value_is rows dtype ends values c.args.count c.requires.encoding (c.requires.one c.if-constant.true) (sees c.get.result) c.get.ensures.row in
    subst (λ (constant : Bool). IsAnswerColumn constant rows dtype (OfConstant c.new.result)) (sym c.if-constant.true)
    (constant_answers rows dtype c.args.count c.new.result (sees c.get.result) (OfConstant c.new.result) all
    (ap (λ (k : Constant). k.dtype) c.new.ensures ∙ c.in_ok-scalar.ensures.dtype ∙ c.dtype.ensures)
    (ap (λ (k : Constant). option_map (λ (v : FlatValue). Single v) k.value) c.new.ensures ∙ c.in_ok-scalar.ensures.value) (ap (λ (k : Constant). k.count) c.new.ensures) refl)

pub new_unchecked-runs-requires : goal.new_unchecked-runs-requires
new_unchecked-runs-requires g c =
    let ends = c.args.ends in
    let values = leaf_of c.args.values in
    let rows = rows_in ends 0 values c.args.count in
    parts_of_rows rows (leaf_dtype values) ends values c.args.count (column_of c.array_of.result) c.requires.encoding (sym (length-run_rows (ends_of ends) (single_rows values) 0 c.args.count)) c.array_of.ensures

pub returns-clause-column : goal.returns-clause-column
returns-clause-column g c =
    let ends = c.args.ends in
    let values = leaf_of c.args.values in
    let rows = rows_in ends 0 values c.args.count in
    let dtype = leaf_dtype values in
    let answers = column_of c.in_ok-answers.answers in
    subst (λ (constant : Bool). IsAnswerColumn constant rows dtype answers) (sym c.if-constant.false)
    (run_answers rows dtype ends values c.args.count (column_of c.array_of.result) answers c.requires.encoding (length-run_rows (ends_of ends) (single_rows values) 0 c.args.count) c.array_of.ensures
    (c.in_ok-answers.ensures.form ∙ ap column_of_runs c.new_unchecked-runs.ensures))
