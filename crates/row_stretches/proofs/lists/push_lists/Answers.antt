use Rattle.std.proofs.Common.{◌≡◌, ◌+◌, ◌-◌, ◌^◌, ◌<◌, ◌≤◌, arith, length, min}
use Rattle.runend_array.specs.Lists.{list_rows}
use Rattle.runend_array.proofs.ListRows.{length-list_rows}
use Rattle.row_stretches.proofs.Copies.{copies_more, none_of_range, rows_stay}
use Rattle.row_stretches.proofs.lists.push_lists.Goals as goal

pub loop-row-init : goal.loop-row-init
loop-row-init g c =
    let p = c.args.pieces.now in
    record {
      from = omega arith;
      to = c.requires.within.ordered;
      counted = omega arith;
      copies = λ rows copies. none_of_range (list_rows c.args.lists.now) rows p.ends.items p.runs.items p.count c.args.stretch.start copies;
    }

pub stop_of_lists-requires : goal.stop_of_lists-requires
stop_of_lists-requires g c = omega (arith, c.loop-row-test.true, c.requires.within.inside)

pub overflow_sub-reach : goal.overflow_sub-reach
overflow_sub-reach g c = omega (arith, c.min-reach.ensures, c.stop_of_lists.ensures.past, c.loop-row-test.true)

pub push_piece-requires : goal.push_piece-requires
push_piece-requires g c =
    let inv = c.loop-row.invariant in
    record { small = omega (arith, c.requires.small, inv.counted, inv.from, c.min-reach.ensures) }

pub loop-row-preserved : goal.loop-row-preserved
loop-row-preserved g c =
    let lists = c.args.lists.now in
    let all = list_rows lists in
    let start = c.args.stretch.start in
    let row = c.loop-row.row in
    let inv = c.loop-row.invariant in
    let reach = c.min-reach.result in
    let stays = c.stop_of_lists.ensures in
    let is : reach ≡ min c.stop_of_lists.result c.args.stretch.stop = c.min-reach.ensures in
    let past : row < reach = omega (arith, is, stays.past, c.loop-row-test.true) in
    let high : reach ≤ length all = omega (arith, is, stays.within, length-list_rows lists) in
    let small : c.loop-row.pieces.count + (reach - row) < 2 ^ 64 = omega (arith, c.requires.small, inv.counted, inv.from, is, past) in
    let p = c.loop-row.pieces in
    let next = c.push_piece.new.pieces in
    record {
      from = omega (arith, inv.from, past);
      to = omega (arith, is);
      counted = omega (arith, c.in_ok-push_piece.ensures.count, inv.counted, inv.from, past);
      copies = λ rows copies.
          copies_more all rows p.ends.items p.runs.items p.count start row reach (inv.copies rows copies) inv.from past high small
          (λ k from below. rows_stay lists row c.stop_of_lists.result stays k from (omega (arith, below, is)))
          next.ends.items next.runs.items next.count c.in_ok-push_piece.ensures.ends c.in_ok-push_piece.ensures.runs c.in_ok-push_piece.ensures.count;
    }

pub loop-row-smaller : goal.loop-row-smaller
loop-row-smaller g c = omega (arith, c.min-reach.ensures, c.stop_of_lists.ensures.past, c.loop-row-test.true)
