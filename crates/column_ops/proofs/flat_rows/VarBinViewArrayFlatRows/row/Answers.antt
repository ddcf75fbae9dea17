use Rattle.std.proofs.Common.{arith}
use Rattle.column_core.proofs.OptionalRows.{rows_within_views}
use Rattle.column_ops.proofs.flat_rows.VarBinViewArrayFlatRows.row.Goals as goal

pub get-requires : goal.get-requires
get-requires g c = let few = rows_within_views c.args.self.now in omega arith
