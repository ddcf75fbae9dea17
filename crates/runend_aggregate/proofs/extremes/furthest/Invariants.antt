use Rattle.std.specs.Prelude.{slice_range, option_map, IfSome}
use Rattle.column_core.specs.ScalarView.{sees, IsViewOf}
use Rattle.column_ops.proofs.BestRows.{IsBest}
use Rattle.runend_array.specs.Array.{dtype_of, rows}
use Rattle.runend_aggregate.proofs.extremes.furthest.Given as goal

abbrev pub invariant-loop-index : goal.invariant-loop-index
invariant-loop-index g l =
    record {
      best : IsBest l.side (slice_range (rows l.values) l.fn.range.start l.index) (option_map sees l.best);
      typed : IfSome l.best (λ row. IsViewOf (dtype_of l.values) row);
    }
