use Rattle.std.proofs.Common.{length, ap, ◌∙◌}
use Rattle.column_base.specs.Validity.{form_of}
use Rattle.runend_array.specs.Column.{Column, column_rows}
use Rattle.runend_select.proofs.TakenRuns.{fits-runs, positions-runs, rows-runs}
use Rattle.runend_column.proofs.ComputedRows.{ok_then}
use Rattle.runend_column.proofs.PassedOn.{no_value, only_error}
use Rattle.runend_select.proofs.taken_runs.taken_rows.Goals as goal

pub take_values-taken-requires-clause-counted : goal.take_values-taken-requires-clause-counted
take_values-taken-requires-clause-counted g c =
    let array = c.args.array.now in
    rw c.as_slice.ensures.value
    (fits-runs g.T.NativePType.number c.args.indices.now (form_of c.args.validity.now) array.ends array.offset array.count c.in_ok-runs.runs.items c.requires.fits c.requires.in_bounds c.in_ok-runs.ensures.runs)

pub take_values-taken-requires-clause-within : goal.take_values-taken-requires-clause-within
take_values-taken-requires-clause-within g c =
    let array = c.args.array.now in
    let paired = ap (λ (column : Column). length (column_rows column)) c.values.ensures.form ∙ c.values.ensures.valid.paired in
    rw (c.as_slice.ensures.value, paired)
    (positions-runs g.T.NativePType.number c.args.indices.now (form_of c.args.validity.now) array.ends array.offset array.count c.in_ok-runs.runs.items c.requires.fits c.requires.in_bounds c.in_ok-runs.ensures.runs c.values.ensures.valid.window)

pub returns-in_err-runs-clause-only : goal.returns-in_err-runs-clause-only
returns-in_err-runs-clause-only g c = only_error c.from_residual.result c.in_err-runs.field-0.0 _ c.from_residual.ensures.1 c.in_err-runs.ensures.only

pub returns-in_err-runs-clause-made : goal.returns-in_err-runs-clause-made
returns-in_err-runs-clause-made g c = no_value _ c.from_residual.result c.from_residual.ensures.0

pub returns-clause-only : goal.returns-clause-only
returns-clause-only g c = c.take_values-taken.ensures.only

pub returns-clause-made : goal.returns-clause-made
returns-clause-made g c =
    let array = c.args.array.now in
    let same = rows-runs g.T.NativePType.number c.args.indices.now (form_of c.args.validity.now) array.ends array.offset array.count c.in_ok-runs.runs.items c.requires.fits c.requires.in_bounds c.in_ok-runs.ensures.runs (column_rows array.values) in
    let taken = rw (c.as_slice.ensures.value, c.values.ensures.form) at c.take_values-taken.ensures.made in
    ok_then c.take_values-taken.result _ _ (λ flat made. record { rows = made.rows ∙ same; dtype = made.dtype; form = made.form }) taken
