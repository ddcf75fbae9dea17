use Rattle.std.proofs.Common.{◌≡◌, ◌≢◌, ◌-◌, ◌<◌, ◌≤◌, ℕ, false, map}
use Rattle.std.specs.List.{slice_get}
use Rattle.runend_encode.proofs.joined.has_equal.Given as goal

abbrev pub invariant-loop-run : goal.invariant-loop-run
invariant-loop-run g l = l.equal ≡ false → (run : ℕ) → l.start ≤ run → run < l.run
    → slice_get (map g.T.NativePType.number l.items) (run - 1) ≢ slice_get (map g.T.NativePType.number l.items) run
