use Rattle.std.proofs.Common.{arith}
use Rattle.column_fields.proofs.HeldNumbers.{held_decimals}
use Rattle.column_fields.proofs.held.holds_decimals.Goals as goal

pub returns-clause-yes : goal.returns-clause-yes
returns-clause-yes c = held_decimals c.args.count c.args.bytes.now (λ i. omega (arith, c.type_inv.bytes i)) (omega (arith, c.in-Some.ensures))
