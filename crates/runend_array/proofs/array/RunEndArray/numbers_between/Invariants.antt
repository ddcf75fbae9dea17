use Rattle.std.proofs.Common.{◌≡◌, ◌-◌}
use Rattle.std.specs.Prelude.{slice_index}
use Rattle.runend_array.specs.Column.{end_numbers}
use Rattle.runend_array.proofs.ListWalks.{Walked}
use Rattle.runend_array.proofs.array.RunEndArray.numbers_between.Given as goal

abbrev pub invariant-loop-run : goal.invariant-loop-run
invariant-loop-run g l = record {
  rows : Walked (slice_index (end_numbers l.self.values)) l.self.ends l.self.offset l.start (l.stop - l.start) l.run l.rows.rows;
  limit : l.rows.limit ≡ l.stop - l.start;
}
