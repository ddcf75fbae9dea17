use Rattle.std.proofs.Common.{arith, ℕ, ◌+◌, ◌*◌, ◌++◌, ap, length, refl}
use Rattle.column_bytes.proofs.ListColumns.{flags_stored, flags_put, flags_sized}
use Rattle.column_fields.proofs.RoomLaws.{counted_refused}
use Rattle.column_fields.specs.Varint.{varint}
use Rattle.runend_array.specs.Column.{column_of_runs}
use Rattle.column_bytes.specs.Bytes.{column_bytes}
use Rattle.column_bytes.proofs.lists.put_run_validity.Goals as goal

pub returns-clause-ok : goal.returns-clause-ok
returns-clause-ok g c = flags_put c.args.runs.now c.in_ok-flags.flags _ _ _ _ c.requires c.in_ok-flags.ensures.size c.in_ok-put_number.ensures.ok c.in_ok-put_bytes_key.ensures.ok c.in_ok-put_flat_runs.ensures.ok

pub returns-clause-stored : goal.returns-clause-stored
returns-clause-stored g c = flags_stored c.args.runs.now c.requires c.in_ok-flags.ensures.stored

pub returns-in_err-flags-clause-room : goal.returns-in_err-flags-clause-room
returns-in_err-flags-clause-room g c = counted_refused _ _ _ _ c.from_residual.ensures.0 (omega (arith, flags_sized c.args.runs.now (length (column_bytes (column_of_runs c.args.runs.now))) _ _ c.requires refl refl refl, c.in_err-flags.ensures.past.past))

pub returns-in_err-put_number-clause-room : goal.returns-in_err-put_number-clause-room
returns-in_err-put_number-clause-room g c = counted_refused _ _ _ _ c.from_residual-in_err-put_number.ensures.0 (omega (arith, flags_sized c.args.runs.now (length (column_bytes (column_of_runs c.args.runs.now))) _ _ c.requires refl refl refl, c.in_err-put_number.ensures.room))

pub returns-in_err-put_bytes_key-clause-room : goal.returns-in_err-put_bytes_key-clause-room
returns-in_err-put_bytes_key-clause-room g c = counted_refused _ _ _ _ c.from_residual-in_err-put_bytes_key.ensures.0 (omega (arith, flags_sized c.args.runs.now (length (column_bytes (column_of_runs c.args.runs.now))) _ _ c.requires refl refl refl, ap (λ (n : ℕ). length (varint (16 * 8 + 2) ++ varint n)) c.in_ok-flags.ensures.size, c.in_ok-put_number.ensures.room, c.in_err-put_bytes_key.ensures.room))

pub returns-in_err-put_flat_runs-clause-room : goal.returns-in_err-put_flat_runs-clause-room
returns-in_err-put_flat_runs-clause-room g c = counted_refused _ _ _ _ c.from_residual-in_err-put_flat_runs.ensures.0 (omega (arith, flags_sized c.args.runs.now (length (column_bytes (column_of_runs c.args.runs.now))) _ _ c.requires refl refl refl, ap (λ (n : ℕ). length (varint (16 * 8 + 2) ++ varint n)) c.in_ok-flags.ensures.size, c.in_ok-put_number.ensures.room, c.in_ok-put_bytes_key.ensures.room, (c.in_err-put_flat_runs.ensures.room c.in_err-put_flat_runs.ensures.only)))

pub returns-clause-room : goal.returns-clause-room
returns-clause-room g c = omega (arith, flags_sized c.args.runs.now (length (column_bytes (column_of_runs c.args.runs.now))) _ _ c.requires refl refl refl, ap (λ (n : ℕ). length (varint (16 * 8 + 2) ++ varint n)) c.in_ok-flags.ensures.size, c.in_ok-put_number.ensures.room, c.in_ok-put_bytes_key.ensures.room, c.in_ok-put_flat_runs.ensures.room)
