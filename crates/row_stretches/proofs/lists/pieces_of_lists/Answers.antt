use Rattle.std.proofs.Common.{List, Option, arith, get_or, subst, sym}
use Rattle.std.proofs.lemmas.List.{get_or_default, take_all}
use Rattle.column_core.specs.Value.{Value}
use Rattle.runend_array.specs.Lists.{list_rows}
use Rattle.row_stretches.specs.declared.stretches.Stretch.{Stretch}
use Rattle.row_stretches.specs.Copies.{AreCopies}
use Rattle.row_stretches.specs.Stretches.{stretch_rows}
use Rattle.row_stretches.proofs.Places.{count_more, places_fit, rows_more}
use Rattle.row_stretches.proofs.lists.pieces_of_lists.Goals as goal

pub push_lists-requires-clause-within : goal.push_lists-requires-clause-within
push_lists-requires-clause-within g c =
    let blank : Stretch = record { start = 0; stop = 0 } in
    c.requires.within c.loop-stretch.stretch-index blank c.loop-stretch-test.true

pub push_lists-requires-clause-small : goal.push_lists-requires-clause-small
push_lists-requires-clause-small g c =
    let order = c.args.order.now in
    let k = c.loop-stretch.stretch-index in
    let blank : Stretch = record { start = 0; stop = 0 } in
    let s = get_or order k blank in
    let fit = places_fit order k s c.loop-stretch-test.true (get_or_default order k blank s c.loop-stretch-test.true) in
    omega (arith, fit, c.requires.small, c.loop-stretch.invariant.counted)

pub loop-stretch-preserved : goal.loop-stretch-preserved
loop-stretch-preserved g c =
    let all = list_rows c.args.lists.now in
    let order = c.args.order.now in
    let k = c.loop-stretch.stretch-index in
    let blank : Stretch = record { start = 0; stop = 0 } in
    let s = get_or order k blank in
    let is = get_or_default order k blank s c.loop-stretch-test.true in
    let inv = c.loop-stretch.invariant in
    let next = c.push_lists.new.pieces in
    record {
      copies =
          subst (λ (rows : List (Option Value)). AreCopies all rows next.ends.items next.runs.items next.count) (sym (rows_more all order k s c.loop-stretch-test.true is))
          (c.in_ok-push_lists.ensures.copies _ inv.copies);
      counted = let more = count_more order k s c.loop-stretch-test.true is in omega (arith, more, inv.counted, c.in_ok-push_lists.ensures.count);
    }

pub returns-clause-copies : goal.returns-clause-copies
returns-clause-copies g c =
    let all = list_rows c.args.lists.now in
    let p = c.loop-stretch.pieces in
    subst (λ (order : List Stretch). AreCopies all (stretch_rows all order) p.ends.items p.runs.items p.count) (take_all c.loop-stretch.stretch-index c.args.order.now (omega arith))
    c.loop-stretch.invariant.copies
