-- The numbers so far are those of folds.
use Rattle.std.specs.Prelude.{All, take}
use Rattle.c_tables.specs.Groups.{IsFold}
use Rattle.c_tables.proofs.groups.are_folds.Given as goal

abbrev pub invariant-loop-place : goal.invariant-loop-place
invariant-loop-place l = All IsFold (take l.place l.numbers)
