use Rattle.std.proofs.Common.{◌≡◌, ◌∙◌, ◌+◌, ◌++◌, [], ◌∷◌, sym, arith}
use Rattle.std.specs.Prelude.{slice_range, option_map}
use Rattle.column_core.specs.Leaf.{single_rows}
use Rattle.column_core.specs.ScalarView.{sees}
use Rattle.column_ops.proofs.BestRows.{IsBest-past, IsBest-stays}
use Rattle.column_ops.proofs.RowRanges.{slice_range-next}
use Rattle.column_ops.proofs.extremes.furthest.Goals as goal
use Rattle.column_ops.proofs.extremes.furthest.Goals.{then-is_past_best, else-is_past_best}

pub loop-index-preserved : goal.loop-index-preserved
loop-index-preserved g c =
    let rows = single_rows (g.R.FlatRows.leaf c.args.column.now) in
    let row = sees c.row-row.result in
    let before = slice_range rows c.args.range.start c.loop-index.index in
    let next : slice_range rows c.args.range.start (c.loop-index.index + 1) ≡ before ++ row ∷ [] =
    slice_range-next rows c.args.range.start c.loop-index.index row (omega arith) c.row-row.ensures.row in
    elim c.if-is_past_best.branch [
      | then-is_past_best w ↦ record {
        best = rw (next, w.best-is)
            (IsBest-past c.args.side before row (option_map sees c.loop-index.best) c.requires.side (sym c.is_past_best.ensures ∙ w.if-is_past_best.true) c.loop-index.invariant.best);
        typed = rw w.best-is c.row-row.ensures.of_type;
      }
      | else-is_past_best w ↦ record {
        best = rw (next, w.best-is)
            (IsBest-stays c.args.side before row (option_map sees c.loop-index.best) (sym c.is_past_best.ensures ∙ w.if-is_past_best.false) c.loop-index.invariant.best);
        typed = rw w.best-is c.loop-index.invariant.typed;
      }
    ]
