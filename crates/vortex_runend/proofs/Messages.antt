-- What is read runs as what was written.
use Rattle.std.proofs.Common.{◌≡◌, ◌∙◌, sym, ap}
use Rattle.column_bytes.specs.Packed.{packed_column}
use Rattle.column_bytes.proofs.Messages.{message_one}
use Rattle.column_bytes.proofs.Packing.{packed_message, plain_packed}
use Rattle.runend_array.specs.Array.{column_of}
use Rattle.runend_array.specs.Column.{plain_of}
use Rattle.runend_commands.specs.Meaning.{plain}
use Rattle.runend_commands.proofs.Agreement.{runs_agree}
use Rattle.vortex_runend.specs.Laws.{ReadRunsAsWritten}

pub read_runs : {A : Type 0} → ReadRunsAsWritten A
read_runs written read written_after read_after bytes commands answers others w b small m run run' long long' =
    let one : column_of read ≡ packed_column (column_of written) = message_one 16 16 bytes (column_of read) (packed_column (column_of written)) small m (packed_message 16 bytes (column_of written) w b) in
    let same : plain written ≡ plain read = sym (plain_packed (column_of written) w.stored) ∙ ap plain_of (sym one) in
    runs_agree written read written_after read_after commands answers others same run run' long long'
