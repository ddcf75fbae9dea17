use Rattle.std.proofs.Common.{arith}
use Rattle.column_fields.proofs.FieldLaws.{other_number}
use Rattle.column_fields.proofs.fields.read_constant.Goals as goal

pub returns-then-found-number-clause-none : goal.returns-then-found-number-clause-none
returns-then-found-number-clause-none c = other_number _ _ _ _ c.in_ok-found.rest.now c.requires c.in_ok-found.ensures.small (omega arith) c.in_ok-found.ensures.found (λ e. c.if-found-number.true (omega arith))
