use Rattle.std.proofs.Common.{w64}
use Rattle.std.proofs.lemmas.Nat.Bits.{bit_at_not}
use Rattle.runend_windows.proofs.filled_runs.runs_unlike.Goals as goal

pub returns-then-bit : goal.returns-then-bit
returns-then-bit c = λ j h. rw c.if-bit.true (bit_at_not w64 c.args.word j c.ranges.word.fits h)
