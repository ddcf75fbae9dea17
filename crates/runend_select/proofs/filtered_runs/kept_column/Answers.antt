use Rattle.std.proofs.Common.{◌∙◌, ℕ, ap, sym, subst}
use Rattle.column_core.specs.Leaf.{OfNumbers}
use Rattle.runend_array.specs.Array.{column_of}
use Rattle.runend_array.specs.Column.{AreParts, OfLeaf, Runs, column_dtype, column_rows, runs_of}
use Rattle.runend_windows.specs.Ends.{ends_of}
use Rattle.runend_windows.specs.Window.{run_rows}
use Rattle.runend_select.specs.FilterForm.{AreSelectedRuns}
use Rattle.runend_column.proofs.PassedOn.{no_value, only_error}
use Rattle.runend_select.proofs.filtered_runs.kept_column.Goals as goal

pub new_unchecked-requires : goal.new_unchecked-requires
new_unchecked-requires g c =
    subst (λ (n : ℕ). AreParts (OfLeaf (OfNumbers c.in_ok-ends.ends)) (column_of c.in_ok-ends.values) 0 n) (sym c.requires.counted) c.in_ok-ends.ensures.parts

pub returns-clause-rows : goal.returns-clause-rows
returns-clause-rows g c =
    rw c.new_unchecked.ensures (ap (run_rows (ends_of c.in_ok-ends.ends) (column_rows (column_of c.in_ok-ends.values)) 0) c.requires.counted ∙ c.in_ok-ends.ensures.rows)

pub returns-clause-dtype : goal.returns-clause-dtype
returns-clause-dtype g c =
    ap (λ (r : Runs). column_dtype r.values) c.new_unchecked.ensures ∙ c.in_ok-ends.ensures.dtype

pub returns-clause-form : goal.returns-clause-form
returns-clause-form g c =
    let made = c.new_unchecked.ensures ∙ ap (runs_of (OfLeaf (OfNumbers c.in_ok-ends.ends)) (column_of c.in_ok-ends.values) 0) c.requires.counted in
    subst (λ (part : Runs). AreSelectedRuns c.args.array.now (g.S.Ranked.bits c.args.selected.now) part) (sym made) c.in_ok-ends.ensures.form

pub returns-in_err-ends-clause-only : goal.returns-in_err-ends-clause-only
returns-in_err-ends-clause-only g c =
    only_error c.from_residual.result c.in_err-ends.field-0.0 _ c.from_residual.ensures.1 c.in_err-ends.ensures.only

pub returns-in_err-ends-clause-rows : goal.returns-in_err-ends-clause-rows
returns-in_err-ends-clause-rows g c =
    no_value _ c.from_residual.result c.from_residual.ensures.0

pub returns-in_err-ends-clause-dtype : goal.returns-in_err-ends-clause-dtype
returns-in_err-ends-clause-dtype g c =
    no_value _ c.from_residual.result c.from_residual.ensures.0

pub returns-in_err-ends-clause-form : goal.returns-in_err-ends-clause-form
returns-in_err-ends-clause-form g c =
    no_value _ c.from_residual.result c.from_residual.ensures.0
