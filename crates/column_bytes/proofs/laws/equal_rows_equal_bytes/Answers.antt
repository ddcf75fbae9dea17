use Rattle.column_bytes.proofs.SameRows.{encodings_same}
use Rattle.column_bytes.proofs.laws.equal_rows_equal_bytes.Goals as goal

pub returns : goal.returns
returns c = encodings_same
