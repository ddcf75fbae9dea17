use Rattle.std.proofs.Common.{◌-◌}
use Rattle.column_fields.proofs.VarintReading.{Reading}
use Rattle.column_fields.proofs.varint.read_varint.Given as goal

abbrev pub invariant-loop-shift : goal.invariant-loop-shift
invariant-loop-shift l = Reading l.bytes l.rest l.value l.shift

abbrev pub decreases-loop-shift : goal.decreases-loop-shift
decreases-loop-shift l = 63 - l.shift
