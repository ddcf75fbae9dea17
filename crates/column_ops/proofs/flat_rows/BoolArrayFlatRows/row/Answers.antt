use Rattle.std.proofs.Common.{arith}
use Rattle.column_core.proofs.OptionalRows.{rows_within_bits}
use Rattle.column_ops.proofs.flat_rows.BoolArrayFlatRows.row.Goals as goal

pub get-requires : goal.get-requires
get-requires g c = let few = rows_within_bits c.args.self.now in omega arith
