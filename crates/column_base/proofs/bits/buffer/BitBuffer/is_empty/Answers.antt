use Rattle.column_base.proofs.WordDigits.{opened, empty_if_none}
use Rattle.column_base.proofs.bits.buffer.BitBuffer.is_empty.Goals as goal

pub returns : goal.returns
returns g c = empty_if_none c.self.inside.count c.args.self.now (opened c.self.view_is c.self.invariant).len
