use Rattle.std.proofs.Common.{◌≡◌, ◌<◌, arith}
use Rattle.std.specs.declared.cmp.Ordering.TheVariants.{Less, Greater}
use Rattle.column_core.specs.Value.{Single}
use Rattle.column_ops.specs.Items.{flagged_rows}
use Rattle.column_ops.proofs.ItemEnds.{first-furthest}
use Rattle.column_ops.proofs.ItemRows.{length-flagged_rows, null-here, valid-here, All-null}
use Rattle.column_ops.proofs.item_ends.ends_of_flagged.Goals as goal

pub returns-then-from-stop-clause-none : goal.returns-then-from-stop-clause-none
returns-then-from-stop-clause-none g c =
    let value = g.T.FlatItem.value in
    let items = c.args.items.now in
    let marks = c.args.flags.now in
    let long = length-flagged_rows value items marks c.requires.fits in
    All-null (flagged_rows value items marks) c.args.start c.args.stop c.requires.ordered (omega arith)
    (λ k low high. null-here value items marks k (omega arith) (c.first_valid-from.ensures.nulls k low (omega arith)))

pub loop-row-init : goal.loop-row-init
loop-row-init g c =
    let value = g.T.FlatItem.value in
    let items = c.args.items.now in
    let marks = c.args.flags.now in
    let rows = flagged_rows value items marks in
    let from = c.first_valid-from.result in
    let item = c.index-items-from.result in
    let found = c.first_valid-from.ensures in
    let low = found.low in
    let high = found.high in
    let before : from < c.args.stop = omega arith in
    let long = length-flagged_rows value items marks c.requires.fits in
    let here = valid-here value items marks from item (omega arith) c.index-items-from.is (found.valid before) in
    let nulls = All-null rows c.args.start from low (omega arith) (λ k above below. null-here value items marks k (omega arith) (found.nulls k above below)) in
    let least = first-furthest Less rows c.args.start from (Single (value item)) (λ e. cc) low here nulls in
    record {
      from = omega arith;
      to = omega arith;
      ends = record {
        among = least.among;
        low = least;
        high = first-furthest Greater rows c.args.start from (Single (value item)) (λ e. cc) low here nulls;
      };
    }

pub loop-row-preserved : goal.loop-row-preserved
loop-row-preserved g c =
    let from = c.first_valid-from.ensures.low in
    let before = c.loop-row.invariant.from in
    let end = c.word_end-end.ensures in
    let low = end.low in
    record {
      from = omega arith;
      to = end.high;
      ends = c.ends_in_word-ends.ensures c.args.start (omega arith) c.loop-row.invariant.ends;
    }

pub returns-clause-least : goal.returns-clause-least
returns-clause-least g c =
    let here : c.loop-row.row ≡ c.args.stop = omega (arith, c.loop-row.invariant.to, c.loop-row-test.false) in
    rw here at c.loop-row.invariant.ends.low

pub returns-clause-greatest : goal.returns-clause-greatest
returns-clause-greatest g c =
    let here : c.loop-row.row ≡ c.args.stop = omega (arith, c.loop-row.invariant.to, c.loop-row-test.false) in
    rw here at c.loop-row.invariant.ends.high
