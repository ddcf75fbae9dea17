use Rattle.std.proofs.Common.{◌+◌, ◌≤◌, length}
use Rattle.column_fields.proofs.SpanReading.{Spanned}
use Rattle.column_fields.proofs.spans.span_as.Given as goal

abbrev pub invariant-loop-rest : goal.invariant-loop-rest
invariant-loop-rest g l = record {
  spanned : Spanned g.E.NativePType.PTYPE l.bytes l.rest l.start l.span.count l.span.first l.span.last;
  room : l.span.count + length l.rest ≤ length l.bytes;
}

abbrev pub decreases-loop-rest : goal.decreases-loop-rest
decreases-loop-rest g l = length l.rest
