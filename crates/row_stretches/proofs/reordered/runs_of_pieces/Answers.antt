use Rattle.std.proofs.Common.{◌≡◌, ◌∙◌, ℕ, List, Option, ap, subst, sym}
use Rattle.std.proofs.lemmas.Result.{IfOk-weaker}
use Rattle.column_core.specs.FlatColumn.{leaf_of}
use Rattle.column_core.specs.Leaf.{single_rows}
use Rattle.column_core.specs.Value.{Value}
use Rattle.runend_windows.specs.Ends.{ends_of}
use Rattle.runend_windows.specs.Window.{run_rows}
use Rattle.runend_array.specs.Array.{rows}
use Rattle.runend_array.specs.Column.{Column, column_of_runs, column_rows}
use Rattle.runend_array.specs.Lists.{list_rows}
use Rattle.runend_encode.proofs.Joining.{AllHaveRows-exact}
use Rattle.runend_encode.specs.Joined.{AllHaveRows}
use Rattle.runend_encode.specs.Starts.{rows_at}
use Rattle.row_stretches.proofs.reordered.runs_of_pieces.Goals as goal

pub joined_runs-requires-clause-shown : goal.joined_runs-requires-clause-shown
joined_runs-requires-clause-shown g c =
    let p = c.args.pieces.now in
    let are = c.requires.pieces in
    subst (λ (ends : List ℕ). AllHaveRows ends 0 p.count) (sym (c.in-Ok.ensures.least.shown ∙ c.deref.ensures.value)) (AllHaveRows-exact p.ends.items p.count are.window.increasing are.filled are.stop)

pub returns-in-Flat-clause-rows : goal.returns-in-Flat-clause-rows
returns-in-Flat-clause-rows g c =
    let p = c.args.pieces.now in
    let own = column_rows c.args.runs.now.values in
    let values = single_rows (leaf_of c.in-Flat.values) in
    let taken : values ≡ rows_at (rows c.values.result.now) c.as_slice.result.now = rw c.in-Flat.is at c.in_ok-values.ensures.rows in
    let shown : values ≡ rows_at own p.runs.items = taken ∙ ap (rows_at (rows c.values.result.now)) c.as_slice.ensures.value ∙ ap (λ (column : Column). rows_at (column_rows column) p.runs.items) c.values.ensures.form in
    IfOk-weaker c.joined_runs.result (λ made. column_rows (column_of_runs made) ≡ run_rows (ends_of c.in-Ok.ends) values 0 p.count)
    (λ made. column_rows (column_of_runs made) ≡ run_rows p.ends.items (rows_at own p.runs.items) 0 p.count)
    (λ made is. is ∙ ap (λ (ends : List ℕ). run_rows ends values 0 p.count) (c.in-Ok.ensures.least.shown ∙ c.deref.ensures.value) ∙ ap (λ (vs : List (Option Value)). run_rows p.ends.items vs 0 p.count) shown)
    c.joined_runs.ensures.rows

pub returns-in-List-clause-rows : goal.returns-in-List-clause-rows
returns-in-List-clause-rows g c =
    let p = c.args.pieces.now in
    let own = column_rows c.args.runs.now.values in
    let values = list_rows c.in-List.lists in
    let taken : values ≡ rows_at (rows c.values.result.now) c.as_slice.result.now = rw c.in-List.is at c.in_ok-values.ensures.rows in
    let shown : values ≡ rows_at own p.runs.items = taken ∙ ap (rows_at (rows c.values.result.now)) c.as_slice.ensures.value ∙ ap (λ (column : Column). rows_at (column_rows column) p.runs.items) c.values.ensures.form in
    IfOk-weaker c.list_runs.result (λ made. column_rows (column_of_runs made) ≡ run_rows (ends_of c.in-Ok.ends) values 0 p.count)
    (λ made. column_rows (column_of_runs made) ≡ run_rows p.ends.items (rows_at own p.runs.items) 0 p.count)
    (λ made is. is ∙ ap (λ (ends : List ℕ). run_rows ends values 0 p.count) (c.in-Ok.ensures.least.shown ∙ c.deref.ensures.value) ∙ ap (λ (vs : List (Option Value)). run_rows p.ends.items vs 0 p.count) shown)
    c.list_runs.ensures.rows
