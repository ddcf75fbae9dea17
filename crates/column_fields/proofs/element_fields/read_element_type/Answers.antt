use Rattle.std.proofs.Common.{arith}
use Rattle.column_fields.proofs.Varints.{if_none}
use Rattle.column_fields.proofs.ElementFieldLaws.{no_decimals, other_number}
use Rattle.column_fields.proofs.element_fields.read_element_type.Goals as goal

pub returns-in_err-number-2-clause-none : goal.returns-in_err-number-2-clause-none
returns-in_err-number-2-clause-none c = if_none _ _ (no_decimals c.in-Some.decimal _ c.in-Some.rest.now c.in-Some.ensures.typed c.in-Some.ensures.found c.in_err-number-2.ensures.none)

pub returns-then-number-ne10-clause-none : goal.returns-then-number-ne10-clause-none
returns-then-number-ne10-clause-none c =
    other_number c.in-Some.decimal _ c.in-Some.rest.now c.in_ok-number-2.number c.in_ok-number-2.nullability c.in-Some.ensures.typed (omega arith) c.in-Some.ensures.found c.in_ok-number-2.ensures.found (λ e. c.if-number-ne10.true (omega (arith, e)))
