use Rattle.std.specs.Prelude.{slice_range, option_map, IfSome}
use Rattle.column_core.specs.Leaf.{leaf_dtype, single_rows}
use Rattle.column_core.specs.ScalarView.{sees, IsViewOf}
use Rattle.column_ops.proofs.BestRows.{IsBest}
use Rattle.column_ops.proofs.extremes.furthest.Given as goal

abbrev pub invariant-loop-index : goal.invariant-loop-index
invariant-loop-index g l =
    record {
      best : IsBest l.side (slice_range (single_rows (g.R.FlatRows.leaf l.column)) l.fn.range.start l.index) (option_map sees l.best);
      typed : IfSome l.best (λ row. IsViewOf (leaf_dtype (g.R.FlatRows.leaf l.column)) row);
    }
