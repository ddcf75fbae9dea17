use Rattle.std.proofs.Common.{◌≡◌, ◌+◌, ◌-◌, arith, refl}
use Rattle.std.specs.Prelude.{slice_range}
use Rattle.std.specs.declared.cmp.Ordering.TheVariants.{Less, Greater}
use Rattle.column_ops.specs.Items.{item_row, item_rows}
use Rattle.column_ops.proofs.ItemRows.{item-here, length-item_rows}
use Rattle.column_ops.proofs.PairedEnds.{looked-valid, max-further, min-further, two-all, two-next, two-none}
use Rattle.column_ops.proofs.RowRanges.{Contains-range}
use Rattle.column_ops.proofs.item_ends.ends_of_valid.Goals as goal

pub loop-step-init : goal.loop-step-init
loop-step-init g c =
    let value = g.T.FlatItem.value in
    let items = c.args.items.now in
    let rows = item_rows value items in
    let start = c.args.start in
    let stop = c.args.stop in
    let second = stop - c.div_ceil-half.result in
    let all = slice_range rows start stop in
    let first = c.index-items-start.result in
    let long = length-item_rows value items in
    let here = item-here value items start first (omega arith) c.index-items-start.is in
    let has = Contains-range rows start stop start (item_row value first) (omega arith) (omega arith) (omega arith) here in
    record {
      least = two-none Less rows all start (start + 0) second (second + 0) (item_row value first) (omega arith) (omega arith) has;
      greatest = two-none Greater rows all start (start + 0) second (second + 0) (item_row value first) (omega arith) (omega arith) has;
    }

pub loop-step-preserved : goal.loop-step-preserved
loop-step-preserved g c =
    let value = g.T.FlatItem.value in
    let cmp = g.T.Ord.cmp in
    let ordered = g.met.T.FlatItem.ordered in
    let items = c.args.items.now in
    let rows = item_rows value items in
    let start = c.args.start in
    let stop = c.args.stop in
    let second = c.args.stop - c.div_ceil-half.result in
    let step = c.loop-step.step in
    let all = slice_range rows start stop in
    let left = c.index-items-start-in-loop-step.result in
    let right = c.index-items-second.result in
    let long = length-item_rows value items in
    let here = item-here value items (start + step) left (omega arith) c.index-items-start-in-loop-step.is in
    let there = item-here value items (second + step) right (omega arith) c.index-items-second.is in
    let first = looked-valid value rows all (start + step) left here (Contains-range rows start stop (start + step) (item_row value left) (omega arith) (omega arith) (omega arith) here) in
    let last = looked-valid value rows all (second + step) right there (Contains-range rows start stop (second + step) (item_row value right) (omega arith) (omega arith) (omega arith) there) in
    let one : start + (step + 1) ≡ start + step + 1 = omega arith in
    let other : second + (step + 1) ≡ second + step + 1 = omega arith in
    record {
      least = rw (one, other)
          (two-next Less value rows all start (start + step) second (second + step) c.loop-step.least left right c.min.result c.min-least.result (λ e. cc) first last
          (rw c.min.ensures (min-further value cmp ordered left right)) (rw c.min-least.ensures (min-further value cmp ordered c.loop-step.least c.min.result)) c.loop-step.invariant.least);
      greatest = rw (one, other)
          (two-next Greater value rows all start (start + step) second (second + step) c.loop-step.greatest left right c.max.result c.max-greatest.result (λ e. cc) first last
          (rw c.max.ensures (max-further value cmp ordered left right)) (rw c.max-greatest.ensures (max-further value cmp ordered c.loop-step.greatest c.max.result)) c.loop-step.invariant.greatest);
    }

pub returns-clause-least : goal.returns-clause-least
returns-clause-least g c =
    let value = g.T.FlatItem.value in
    let items = c.args.items.now in
    let second = c.args.stop - c.div_ceil-half.result in
    let long = length-item_rows value items in
    let last : second + c.loop-step.step ≡ c.args.stop = omega arith in
    two-all Less (item_rows value items) c.args.start (c.args.start + c.loop-step.step) second c.args.stop (item_row value c.loop-step.least) (omega arith) (omega arith) (omega arith) refl
    (rw last at c.loop-step.invariant.least)

pub returns-clause-greatest : goal.returns-clause-greatest
returns-clause-greatest g c =
    let value = g.T.FlatItem.value in
    let items = c.args.items.now in
    let second = c.args.stop - c.div_ceil-half.result in
    let long = length-item_rows value items in
    let last : second + c.loop-step.step ≡ c.args.stop = omega arith in
    two-all Greater (item_rows value items) c.args.start (c.args.start + c.loop-step.step) second c.args.stop (item_row value c.loop-step.greatest) (omega arith) (omega arith) (omega arith) refl
    (rw last at c.loop-step.invariant.greatest)
