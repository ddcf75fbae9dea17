use Rattle.std.proofs.Common.{◌≡◌, ◌+◌, ◌-◌}
use Rattle.runend_windows.specs.Starts.{AreChangeBits}
use Rattle.runend_encode.proofs.item_changes.few_numbers.Given as goal

abbrev pub invariant-loop-lane : goal.invariant-loop-lane
invariant-loop-lane l = record {
  before : l.before ≡ l.start + l.lane - 1;
  bits : AreChangeBits l.numbers l.start (l.start + l.lane) l.word;
}
