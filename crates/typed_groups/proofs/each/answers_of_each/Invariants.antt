-- The groups so far are answered.
use Rattle.std.proofs.Common.{◌≡◌, ◌≤◌, length}
use Rattle.runend_array.specs.Array.{dtype_of, rows}
use Rattle.typed_groups.specs.Group.{AreAnswersTo}
use Rattle.typed_groups.specs.Questions.{question_dtype}
use Rattle.typed_groups.proofs.each.answers_of_each.Given as goal

abbrev pub invariant-loop-group : goal.invariant-loop-group
invariant-loop-group g l = record {
  answered : AreAnswersTo l.fn.question l.fn.ends (rows l.fn.array) l.group l.made.rows;
  dtype : l.made.dtype ≡ question_dtype l.fn.question (dtype_of l.fn.array);
  within : l.group ≤ length l.fn.ends;
  session : l.ctx ≡ l.fn.ctx;
}
