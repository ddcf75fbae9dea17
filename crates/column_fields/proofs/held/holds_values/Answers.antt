use Rattle.std.proofs.Common.{arith}
use Rattle.column_fields.proofs.HeldNumbers.{held_numbers}
use Rattle.column_fields.proofs.held.holds_values.Goals as goal

pub returns-clause-yes : goal.returns-clause-yes
returns-clause-yes c = held_numbers c.args.ptype c.args.count c.args.bytes.now (λ i. omega (arith, c.type_inv.bytes i)) (rw (← c.size_of_type.ensures) (omega (arith, c.in-Some.ensures)))
