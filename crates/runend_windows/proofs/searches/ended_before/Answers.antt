use Rattle.std.proofs.Common.{sym}
use Rattle.runend_windows.specs.Ends.{ends_of}
use Rattle.runend_windows.proofs.Ends.{none_below_zero}
use Rattle.runend_windows.proofs.searches.ended_before.Goals as goal

pub returns-then-row-eq0-clause-place : goal.returns-then-row-eq0-clause-place
returns-then-row-eq0-clause-place g c = rw c.if-row-eq0.true (sym (none_below_zero (ends_of c.args.ends.now)))
