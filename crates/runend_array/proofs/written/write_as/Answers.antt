use Rattle.std.proofs.Common.{sym}
use Rattle.runend_array.proofs.WrittenLeaves.{map-copies, numbers-of_null, numbers-of_value}
use Rattle.runend_array.proofs.written.write_as.Goals as goal

pub returns-in_ok-zeros-in-None-clause-written : goal.returns-in_ok-zeros-in-None-clause-written
returns-in_ok-zeros-in-None-clause-written g c =
    let zero = c.default.result in
    numbers-of_null c.args.constant.now g.T.NativePType.PTYPE c.args.nullability c.new_unchecked.result c.requires (c.in-None.ensures.null) (sym c.in-None.ensures.value)
    (rw (c.wrap.ensures.typed, c.wrap.ensures.shows, c.in_ok-zeros-in-None.ensures.items, map-copies, g.met.T.NativePType.law.zeroth zero c.default.ensures, c.len.ensures) at c.new_unchecked.ensures)

pub returns-in_ok-numbers-in-Some-clause-written : goal.returns-in_ok-numbers-in-Some-clause-written
returns-in_ok-numbers-in-Some-clause-written g c =
    let number = g.T.NativePType.number c.in-Some.number in
    numbers-of_value c.args.constant.now g.T.NativePType.PTYPE c.args.nullability number c.new_unchecked-in-Some.result c.requires (sym c.in-Some.ensures.value)
    (rw (c.wrap-in-Some.ensures.typed, c.wrap-in-Some.ensures.shows, c.in_ok-numbers-in-Some.ensures.items, map-copies, c.len-in-Some.ensures, c.no_null.ensures) at c.new_unchecked-in-Some.ensures)
