use Rattle.std.proofs.Common.{length}
use Rattle.column_fields.proofs.Records.{Progress}
use Rattle.column_fields.proofs.metadata.read_numbers.Given as goal

abbrev pub invariant-loop-rest : goal.invariant-loop-rest
invariant-loop-rest l = Progress l.bytes l.rest l.ends_type l.runs l.offset

abbrev pub decreases-loop-rest : goal.decreases-loop-rest
decreases-loop-rest l = length l.rest
