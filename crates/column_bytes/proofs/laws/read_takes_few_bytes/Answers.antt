use Rattle.column_bytes.proofs.BytesTaken.{read_taken}
use Rattle.column_bytes.proofs.laws.read_takes_few_bytes.Goals as goal

pub returns : goal.returns
returns c = read_taken
