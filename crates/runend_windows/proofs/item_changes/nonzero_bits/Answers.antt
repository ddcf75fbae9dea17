use Rattle.std.proofs.Common.{arith}
use Rattle.runend_windows.proofs.ChangedNumbers.{nonzero-bit}
use Rattle.runend_windows.proofs.item_changes.nonzero_bits.Goals as goal

pub returns : goal.returns
returns c = λ lane within. nonzero-bit c.args.bytes.now lane (omega (arith, c.told-bytes)) within
