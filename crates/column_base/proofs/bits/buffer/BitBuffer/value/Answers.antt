use Rattle.column_base.proofs.WordDigits.{opened, value_of}
use Rattle.column_base.proofs.bits.buffer.BitBuffer.value.Goals as goal

pub returns : goal.returns
returns g c =
    let old = opened c.self.view_is c.self.invariant in
    value_of c.self.inside.words.items c.args.self.now c.args.index c.index.result.now old.packs c.requires c.index.ensures
