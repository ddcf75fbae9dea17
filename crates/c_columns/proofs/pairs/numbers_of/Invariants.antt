-- The numbers so far.
use Rattle.std.proofs.Common.{◌≡◌, map, take}
use Rattle.c_columns.specs.Pairs.{number_in}
use Rattle.c_columns.proofs.pairs.numbers_of.Given as goal

abbrev pub invariant-loop-pair : goal.invariant-loop-pair
invariant-loop-pair l = l.numbers.items ≡ map number_in (take l.pair-index l.pairs)
