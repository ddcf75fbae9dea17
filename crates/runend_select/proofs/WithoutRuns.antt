-- What a filter is where the mask is all false.
use Rattle.std.proofs.Common.{◌≡◌, ◌∙◌, ℕ, List, [], Bool, false, replicate, ap, sym}
use Rattle.column_ops.specs.Filter.{filter_rows}
use Rattle.runend_array.specs.Column.{Column, OfLeaf, OfConstant, OfLists, OfRuns, Runs, column_rows}
use Rattle.runend_windows.specs.Window.{run_rows}
use Rattle.runend_column.proofs.FilterFaults.{none_selected}
use Rattle.runend_select.specs.FilterForm.{HasNoRuns}

no_rows : (whole : Runs) (column : Column) → HasNoRuns whole column → column_rows column ≡ []
no_rows whole (OfLeaf leaf) h = absurd h
no_rows whole (OfConstant constant) h = absurd h
no_rows whole (OfLists lists) h = absurd h
no_rows whole (OfRuns ends_type ends values offset count) h = ap (run_rows ends (column_rows values) offset) h.5

pub rows-without_runs : (whole : Runs) (column : Column) (bits : List Bool) (n : ℕ) → bits ≡ replicate n false → HasNoRuns whole column → column_rows column ≡ filter_rows bits (run_rows whole.ends (column_rows whole.values) whole.offset whole.count)
rows-without_runs whole column bits n is h =
    no_rows whole column h ∙ none_selected n (run_rows whole.ends (column_rows whole.values) whole.offset whole.count)
    ∙ ap (λ (bs : List Bool). filter_rows bs (run_rows whole.ends (column_rows whole.values) whole.offset whole.count)) (sym is)
