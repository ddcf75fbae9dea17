use Rattle.std.proofs.Common.{arith}
use Rattle.std.proofs.lemmas.Int.{ints}
use Rattle.column_fields.proofs.Records.{ok_at_numbers, number_at_numbers, ok_at_no_type, number_at_no_type}
use Rattle.column_fields.proofs.metadata.RunEndMetadata.decode.Goals as goal

pub returns-then-numbers-gt3-clause-ok : goal.returns-then-numbers-gt3-clause-ok
returns-then-numbers-gt3-clause-ok c = ok_at_no_type _ _ _ _ c.in-Some.ensures.found (omega arith)

pub returns-then-numbers-gt3-clause-number : goal.returns-then-numbers-gt3-clause-number
returns-then-numbers-gt3-clause-number c = number_at_no_type _ _ _ _ c.in-Some.ensures.found (omega arith)

pub returns-clause-ok : goal.returns-clause-ok
returns-clause-ok c = ok_at_numbers _ _ _ _ _ c.in-Some.ensures.found (omega arith) (omega (arith, ints))

pub returns-clause-number : goal.returns-clause-number
returns-clause-number c = number_at_numbers _ _ _ _ _ c.in-Some.ensures.found (omega arith)
