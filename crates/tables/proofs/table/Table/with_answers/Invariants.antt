-- The heads stay, and after them are the answers so far, none of which has a sum that is too large.
use Rattle.std.proofs.Common.{◌≡◌, ◌<◌, ℕ, map}
use Rattle.std.specs.Prelude.{slice_index_or}
use Rattle.tables.specs.GroupFaults.{IsLargeSum}
use Rattle.tables.specs.Grouping.{AskedForm, asked_of}
use Rattle.tables.proofs.AnswerColumns.{AreBehind}
use Rattle.tables.proofs.table.Table.with_answers.Given as goal

abbrev pub invariant-loop-answer : goal.invariant-loop-answer
invariant-loop-answer g l = record {
  behind : AreBehind l.fn.self l.fn.ends l.fn.asked l.fn.heads.items l.made.items l.answer;
  fit : (k : ℕ) (d : AskedForm) → k < l.answer → (group : ℕ) → ¬ IsLargeSum l.fn.self l.fn.ends (slice_index_or (map asked_of l.fn.asked) k d) group;
  session : l.ctx ≡ l.fn.ctx;
}
