use Rattle.std.proofs.Common.{◌∙◌, sym}
use Rattle.runend_array.specs.Column.{column_of_runs, column_rows, column_dtype}
use Rattle.runend_windows.proofs.RunRows.{length-run_rows}
use Rattle.runend_column.proofs.ComputedRows.{ok_then}
use Rattle.runend_column.proofs.ListsTaken.{take_dtype-required}
use Rattle.runend_column.proofs.SetPlaces.{take_rows-places}
use Rattle.runend_select.proofs.CheckedIndices.{bounds-places}
use Rattle.runend_column.proofs.PassedOn.{no_value, only_error}
use Rattle.runend_select.specs.MaskRuns.{truths_of}
use Rattle.runend_select.proofs.mask_filters.taken_by_runs.Goals as goal

pub taken_rows-taken-requires-clause-in_bounds : goal.taken_rows-taken-requires-clause-in_bounds
taken_rows-taken-requires-clause-in_bounds g c =
    bounds-places (truths_of c.args.selected.now.mask.now) c.args.array.now.count c.as_slice.result.now c.requires.masked (c.as_slice.ensures.value ∙ c.in_ok-places.ensures.places)

pub returns-in_err-places-clause-only : goal.returns-in_err-places-clause-only
returns-in_err-places-clause-only g c = only_error c.from_residual.result c.in_err-places.field-0.0 _ c.from_residual.ensures.1 c.in_err-places.ensures.only

pub returns-in_err-places-clause-made : goal.returns-in_err-places-clause-made
returns-in_err-places-clause-made g c = no_value _ c.from_residual.result c.from_residual.ensures.0

pub returns-clause-only : goal.returns-clause-only
returns-clause-only g c = c.taken_rows-taken.ensures.only

pub returns-clause-made : goal.returns-clause-made
returns-clause-made g c =
    let array = c.args.array.now in
    let long = c.requires.masked ∙ sym (length-run_rows array.ends (column_rows array.values) array.offset array.count) in
    ok_then c.taken_rows-taken.result _ _
    (λ taken made. record {
      rows = made.rows ∙ take_rows-places (truths_of c.args.selected.now.mask.now) (column_rows (column_of_runs array)) c.as_slice.result.now long (c.as_slice.ensures.value ∙ c.in_ok-places.ensures.places);
      dtype = made.dtype ∙ take_dtype-required (column_dtype array.values);
      form = made.form;
    }) c.taken_rows-taken.ensures.made
