use Rattle.std.proofs.Common.{ap, arith, length}
use Rattle.runend_array.specs.Column.{Column}
use Rattle.column_bytes.specs.Bytes.{column_bytes}
use Rattle.column_fields.proofs.RoomLaws.{counted_refused}
use Rattle.column_bytes.proofs.MessageSizes.{values_within}
use Rattle.column_bytes.proofs.lists.put_flat_runs.Goals as goal

pub returns-in_err-values-clause-room : goal.returns-in_err-values-clause-room
returns-in_err-values-clause-room g c = counted_refused _ _ _ _ c.from_residual.ensures.0 (omega (arith, values_within c.args.runs.now, ap (λ (x : Column). length (column_bytes x)) c.values.ensures.form, c.in_err-values.ensures.past.past))

pub returns-in_err-put_runs-clause-room : goal.returns-in_err-put_runs-clause-room
returns-in_err-put_runs-clause-room g c = counted_refused _ _ _ _ c.from_residual-in_err-put_runs.ensures.0 (omega (arith, values_within c.args.runs.now, ap (λ (x : Column). length (column_bytes x)) c.values.ensures.form, (c.in_err-put_runs.ensures.room c.in_err-put_runs.ensures.only)))

pub returns-in_err-put_run_values-clause-room : goal.returns-in_err-put_run_values-clause-room
returns-in_err-put_run_values-clause-room g c = counted_refused _ _ _ _ c.from_residual-in_err-put_run_values.ensures.0 (omega (arith, values_within c.args.runs.now, ap (λ (x : Column). length (column_bytes x)) c.values.ensures.form, ap (λ (x : Column). length (column_bytes x)) c.values-2.ensures.form, c.in_ok-values.ensures.size, c.in_ok-put_runs.ensures.room, (c.in_err-put_run_values.ensures.room c.in_err-put_run_values.ensures.only)))

pub returns-clause-room : goal.returns-clause-room
returns-clause-room g c = omega (arith, values_within c.args.runs.now, ap (λ (x : Column). length (column_bytes x)) c.values.ensures.form, ap (λ (x : Column). length (column_bytes x)) c.values-2.ensures.form, c.in_ok-values.ensures.size, c.in_ok-put_runs.ensures.room, c.in_ok-put_run_values.ensures.room)
