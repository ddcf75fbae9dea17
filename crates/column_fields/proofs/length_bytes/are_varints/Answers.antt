use Rattle.std.proofs.Common.{arith}
use Rattle.column_fields.proofs.BlockLaws.{none_high}
use Rattle.column_fields.proofs.length_bytes.are_varints.Goals as goal

pub returns : goal.returns
returns c = none_high c.args.bytes.now (omega (arith, c.told-bytes))
