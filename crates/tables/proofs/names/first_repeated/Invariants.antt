-- No two names so far are equal.
use Rattle.std.proofs.Common.{map}
use Rattle.tables.specs.Tables.{AreDistinct}
use Rattle.tables.proofs.names.first_repeated.Given as goal

abbrev pub invariant-loop-place : goal.invariant-loop-place
invariant-loop-place g l = AreDistinct (map g.N.Named.named l.names) l.place
