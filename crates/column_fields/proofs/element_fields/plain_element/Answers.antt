use Rattle.std.proofs.Common.{arith}
use Rattle.column_fields.proofs.ElementFieldLaws.{no_plain}
use Rattle.column_fields.proofs.element_fields.plain_element.Goals as goal

pub returns-in-None-clause-none : goal.returns-in-None-clause-none
returns-in-None-clause-none c = no_plain c.args.number c.args.nullability (omega arith) (λ e. omega (arith, e, c.in_default)) (λ e. omega (arith, e, c.in_default)) (λ e. omega (arith, e, c.in_default)) c.in-None.ensures.none
