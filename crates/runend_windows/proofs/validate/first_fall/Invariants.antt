use Rattle.std.proofs.Common.{ℕ, ◌+◌, ◌<◌, map, slice_index}
use Rattle.runend_windows.proofs.validate.first_fall.Given as goal

abbrev pub invariant-loop-run : goal.invariant-loop-run
invariant-loop-run g l = (k : ℕ) → k + 1 < l.run → slice_index (map g.E.UnsignedPType.natural l.ends) k < slice_index (map g.E.UnsignedPType.natural l.ends) (k + 1)
