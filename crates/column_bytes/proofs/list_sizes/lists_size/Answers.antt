use Rattle.std.proofs.Common.{arith}
use Rattle.column_bytes.proofs.list_sizes.lists_size.Goals as goal

pub returns-then-levels_of-levels-clause-refused : goal.returns-then-levels_of-levels-clause-refused
returns-then-levels_of-levels-clause-refused g c = λ _ w. omega (arith, c.levels_of.ensures, w.shallow)

pub returns-then-levels_of-levels-clause-deep : goal.returns-then-levels_of-levels-clause-deep
returns-then-levels_of-levels-clause-deep g c = λ _. omega (arith, c.levels_of.ensures)

pub returns-in-Ok-clause-writable : goal.returns-in-Ok-clause-writable
returns-in-Ok-clause-writable g c = record { stored = c.in-Ok.ensures.stored; shallow = omega (arith, c.levels_of.ensures) }
