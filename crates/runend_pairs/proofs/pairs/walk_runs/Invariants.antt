use Rattle.std.proofs.Common.{◌≡◌, ◌-◌, length}
use Rattle.column_base.specs.Types.{nullability_of}
use Rattle.column_core.specs.FlatColumn.{leaf_of}
use Rattle.column_core.specs.Leaf.{leaf_dtype}
use Rattle.runend_windows.specs.Ends.{ends_of}
use Rattle.runend_pairs.specs.Operations.{IsNeverNull}
use Rattle.runend_pairs.specs.Runs.{rows_in}
use Rattle.runend_pairs.specs.Zipped.{zip_rows}
use Rattle.runend_pairs.proofs.Grown.{IsGrown}
use Rattle.runend_pairs.proofs.Placed.{IsCounted, IsPlaced}
use Rattle.runend_pairs.proofs.pairs.walk_runs.Given as goal

abbrev pub invariant-loop-row : goal.invariant-loop-row
invariant-loop-row g l = record {
  placed : IsPlaced (ends_of l.left.ends) l.left.offset (ends_of l.right.ends) l.right.offset l.count l.row l.left_run l.right_run;
  counted : IsCounted (length (ends_of l.left.ends)) (length (ends_of l.right.ends)) l.count l.row l.left_run l.right_run l.asked.asks;
  same : l.asked.operation ≡ l.initial.asked.operation;
  reached : l.runs.reached ≡ l.row;
  grown : IsGrown g.K.Stored.shown g.K.Stored.blank_value
      (IsNeverNull (nullability_of (leaf_dtype (leaf_of l.left.values))) (nullability_of (leaf_dtype (leaf_of l.right.values))) (g.O.Pairwise.answer_of l.initial.asked.operation))
      (g.O.Pairwise.has l.initial.asked.operation)
      (zip_rows (g.O.Pairwise.answer_of l.initial.asked.operation) (rows_in l.left.ends l.left.offset (leaf_of l.left.values) l.count) (rows_in l.right.ends l.right.offset (leaf_of l.right.values) l.count))
      l.row l.runs.ends.items l.runs.items.items l.runs.flags l.runs.last;
}

abbrev pub decreases-loop-row : goal.decreases-loop-row
decreases-loop-row g l = l.count - l.row
