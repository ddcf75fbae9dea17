-- No two names so far are equal.
use Rattle.std.proofs.Common.{◌+◌, length, map}
use Rattle.std.specs.String.{string_bytes}
use Rattle.tables.specs.Grouping.{asked_of, group_names}
use Rattle.tables.specs.Tables.{AreDistinct}
use Rattle.tables.proofs.groups.first_repeated_answer.Given as goal

abbrev pub invariant-loop-answer : goal.invariant-loop-answer
invariant-loop-answer g l = AreDistinct (group_names (map string_bytes l.fn.keys) (map asked_of l.fn.asked)) (length l.fn.keys + l.answer)
