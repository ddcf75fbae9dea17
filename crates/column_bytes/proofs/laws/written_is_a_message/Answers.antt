use Rattle.std.proofs.Common.{refl}
use Rattle.column_bytes.specs.Bytes.{column_bytes}
use Rattle.column_bytes.proofs.Packing.{packed_message}
use Rattle.column_bytes.proofs.laws.written_is_a_message.Goals as goal

pub returns : goal.returns
returns c = λ levels d w. packed_message levels (column_bytes d) d w refl
