-- The answers so far are served.
use Rattle.std.proofs.Common.{◌<◌, ℕ, map}
use Rattle.std.specs.Prelude.{slice_index_or}
use Rattle.tables.specs.GroupFaults.{IsServed}
use Rattle.tables.specs.Grouping.{AskedForm, asked_of}
use Rattle.tables.proofs.table.Table.fault_of_asked.Given as goal

abbrev pub invariant-loop-answer : goal.invariant-loop-answer
invariant-loop-answer g l = (k : ℕ) (d : AskedForm) → k < l.answer → IsServed l.fn.self (slice_index_or (map asked_of l.fn.asked) k d)
