use Rattle.column_base.proofs.WordDigits.{Holds-none, view_of, invariant_of}
use Rattle.column_base.proofs.bits.builder.BitBufferMut.with_capacity.Goals as goal

pub invariant_of-result : goal.invariant_of-result
invariant_of-result g c = invariant_of (Holds-none c.in_ok-with_capacity.field-0.items c.in_ok-with_capacity.ensures.items)

pub returns-clause-empty : goal.returns-clause-empty
returns-clause-empty g c = view_of (Holds-none c.in_ok-with_capacity.field-0.items c.in_ok-with_capacity.ensures.items)
