use Rattle.std.proofs.Common.{sym}
use Rattle.column_base.proofs.WordDigits.{opened}
use Rattle.column_base.proofs.bits.builder.BitBufferMut.len.Goals as goal

pub returns : goal.returns
returns g c = sym (opened c.self.view_is c.self.invariant).len
