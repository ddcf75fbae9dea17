use Rattle.std.proofs.Common.{arith}
use Rattle.column_base.proofs.WordDigits.{length-first_bits, opened, view_of, invariant_of}
use Rattle.column_base.proofs.WordGrowth.{append_push, append_or}
use Rattle.column_base.proofs.bits.builder.BitBufferMut.append.Goals as goal

pub index_mut-requires : goal.index_mut-requires
index_mut-requires g c = omega (arith, c.self.invariant.least, c.self.inside.words.ok, length-first_bits c.self.inside.count c.self.inside.words.items)

pub invariant_of-self-then-low-eq0 : goal.invariant_of-self-then-low-eq0
invariant_of-self-then-low-eq0 g c =
    let old = opened c.self.view_is c.self.invariant in
    invariant_of (append_push c.args.bit c.from.result old c.if-low-eq0.true c.from.ensures c.in_ok-push.ensures.items)

pub returns-then-low-eq0-clause-ok : goal.returns-then-low-eq0-clause-ok
returns-then-low-eq0-clause-ok g c =
    let old = opened c.self.view_is c.self.invariant in
    view_of (append_push c.args.bit c.from.result old c.if-low-eq0.true c.from.ensures c.in_ok-push.ensures.items)

pub invariant_of-self-2 : goal.invariant_of-self-2
invariant_of-self-2 g c =
    let old = opened c.self.view_is c.self.invariant in
    invariant_of (append_or c.args.bit c.index_mut.result.now c.from-2.result old c.if-low-eq0.false c.index_mut.ensures.value c.from-2.ensures)

pub returns-clause-ok : goal.returns-clause-ok
returns-clause-ok g c =
    let old = opened c.self.view_is c.self.invariant in
    view_of (append_or c.args.bit c.index_mut.result.now c.from-2.result old c.if-low-eq0.false c.index_mut.ensures.value c.from-2.ensures)
