use Rattle.std.proofs.Common.{◌-◌, false}
use Rattle.std.specs.Prelude.{slice_index_or}
use Rattle.runend_array.specs.Column.{truths_of}
use Rattle.runend_array.proofs.ListWalks.{Walked}
use Rattle.runend_array.proofs.array.RunEndArray.truths_between.Given as goal

abbrev pub invariant-loop-run : goal.invariant-loop-run
invariant-loop-run g l = Walked (λ run. slice_index_or (truths_of l.self.values) run false) l.self.ends l.self.offset l.start (l.stop - l.start) l.run l.rows
