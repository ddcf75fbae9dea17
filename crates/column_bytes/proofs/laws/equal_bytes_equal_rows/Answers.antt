use Rattle.column_bytes.proofs.Packing.{bytes_tell_rows}
use Rattle.column_bytes.proofs.laws.equal_bytes_equal_rows.Goals as goal

pub returns : goal.returns
returns c = bytes_tell_rows
