use Rattle.std.proofs.Common.{◌≡◌, ◌∙◌, length}
use Rattle.runend_array.specs.Array.{rows}
use Rattle.runend_array.specs.Canonical.{canonical_column}
use Rattle.runend_array.specs.Column.{column_rows}
use Rattle.runend_column.proofs.ComputedRows.{ok_then}
use Rattle.runend_encode.specs.Starts.{rows_at}
use Rattle.row_stretches.proofs.Places.{all_positions, rows_taken}
use Rattle.row_stretches.proofs.positions.rows_at_positions.Goals as goal

pub take_values-requires-clause-within : goal.take_values-requires-clause-within
take_values-requires-clause-within g c = all_positions (length (rows c.args.column.now)) c.args.positions.now c.requires.within

pub returns-clause-rows : goal.returns-clause-rows
returns-clause-rows g c =
    let all = rows c.args.column.now in
    ok_then c.take_values.result _ (λ taken. column_rows (canonical_column taken) ≡ rows_at all c.args.positions.now)
    (λ taken made. made.rows ∙ rows_taken all c.args.positions.now) c.take_values.ensures.made
