use Rattle.std.proofs.Common.{◌≡◌, length, map, arith}
use Rattle.std.proofs.lemmas.List.{length-map}
use Rattle.runend_aggregate.proofs.RunRows.{length-rows_from}
use Rattle.runend_aggregate.proofs.visible_sums.VisibleRuns.row_bound.Goals as goal

pub returns-in-Ok : goal.returns-in-Ok
returns-in-Ok g c =
    let own = c.args.self.now in
    let ends = map g.E.UnsignedPType.natural own.ends.now in
    let numbers = g.N.Numbers.numbers own.numbers.now in
    let paired : length numbers ≡ length ends = omega (arith, own.paired, length-map own.ends.now g.E.UnsignedPType.natural) in
    rw (own.begun, own.ended) (omega (arith, length-rows_from ends numbers own.offset own.count own.window paired, c.in-Ok.ensures))
