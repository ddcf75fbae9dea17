-- The names of the keys, and of the answers so far.
use Rattle.std.proofs.Common.{◌≡◌, map, take}
use Rattle.std.specs.String.{string_bytes}
use Rattle.tables.specs.Grouping.{asked_of, group_names}
use Rattle.tables.proofs.groups.answer_names.Given as goal

abbrev pub invariant-loop-one : goal.invariant-loop-one
invariant-loop-one g l = map string_bytes l.names.items ≡ group_names (map string_bytes l.fn.keys) (map asked_of (take l.one-index l.fn.asked))
