use Rattle.std.proofs.Common.{arith, get_or}
use Rattle.std.proofs.lemmas.List.{get_or_default}
use Rattle.row_stretches.specs.declared.stretches.Stretch.{Stretch}
use Rattle.row_stretches.proofs.Places.{count_more, places_fit}
use Rattle.row_stretches.proofs.stretches.row_count.Goals as goal

pub overflow_add-count : goal.overflow_add-count
overflow_add-count c =
    let order = c.args.order.now in
    let k = c.loop-stretch.stretch-index in
    let blank : Stretch = record { start = 0; stop = 0 } in
    let s = get_or order k blank in
    let fit = places_fit order k s c.loop-stretch-test.true (get_or_default order k blank s c.loop-stretch-test.true) in
    omega (arith, fit, c.requires.small, c.loop-stretch.invariant, c.row_count_of-count.ensures)

pub loop-stretch-preserved : goal.loop-stretch-preserved
loop-stretch-preserved c =
    let order = c.args.order.now in
    let k = c.loop-stretch.stretch-index in
    let blank : Stretch = record { start = 0; stop = 0 } in
    let s = get_or order k blank in
    let more = count_more order k s c.loop-stretch-test.true (get_or_default order k blank s c.loop-stretch-test.true) in
    omega (arith, more, c.loop-stretch.invariant, c.row_count_of-count.ensures)
