use Rattle.std.proofs.Common.{◌≡◌, ◌+◌, ◌/◌, ◌%◌, ◌^◌, ◌++◌, ◌∷◌, [], Bool, bit_and, eqb, get_or, arith}
use Rattle.std.specs.Prelude.{slice_range}
use Rattle.std.proofs.lemmas.List.Elements.{Contains-append_left}
use Rattle.column_ops.specs.Items.{flagged_rows, item_row}
use Rattle.column_ops.proofs.ItemEnds.{flagged-here, max-shown, min-shown, row_if}
use Rattle.column_ops.proofs.RowRanges.{slice_range-next}
use Rattle.column_ops.proofs.WordFlags.{flag_read}
use Rattle.column_ops.proofs.item_ends.ends_in_part.Goals as goal

pub loop-row-preserved : goal.loop-row-preserved
loop-row-preserved g c =
    let value = g.T.FlatItem.value in
    let cmp = g.T.Ord.cmp in
    let ordered = g.met.T.FlatItem.ordered in
    let items = c.args.items.now in
    let marks = c.args.flags.now in
    let rows = flagged_rows value items marks in
    let row = c.loop-row.row in
    let first = c.args.first in
    let item = c.index-items-row.result in
    let old = c.loop-row.invariant in
    let same = c.requires.one_word row old.from c.loop-row-test.true in
    let flag : Bool = eqb (bit_and (get_or c.words.result.now (c.args.range.start / 64) 0 / 2 ^ (row % 64)) 1) 1 in
    let here = flagged-here value items marks row item flag (omega arith) c.index-items-row.is
    (flag_read c.words.result.now marks row c.args.range.start c.words.ensures (omega arith) same) in
    record {
      from = omega arith;
      to = omega arith;
      ends = λ start low so_far.
          let before = slice_range rows start row in
          let ends = old.ends start low so_far in
          let next : slice_range rows start (row + 1) ≡ before ++ row_if value flag item ∷ [] = slice_range-next rows start row (row_if value flag item) (omega arith) here in
          record {
            among = rw next (Contains-append_left before (row_if value flag item ∷ []) (item_row value first) ends.among);
            low = rw (next, c.min-least.ensures, c.select_unpredictable-shown.ensures) (min-shown value cmp ordered before c.loop-row.least item first flag ends.among ends.low);
            high = rw (next, c.max-greatest.ensures, c.select_unpredictable-shown.ensures) (max-shown value cmp ordered before c.loop-row.greatest item first flag ends.among ends.high);
          };
    }

pub returns : goal.returns
returns g c =
    let here : c.loop-row.row ≡ c.args.range.end = omega (arith, c.loop-row.invariant.to, c.loop-row-test.false) in
    rw here at c.loop-row.invariant.ends
