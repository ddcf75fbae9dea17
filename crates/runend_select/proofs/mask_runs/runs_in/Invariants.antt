use Rattle.std.proofs.Common.{◌≤◌, length, map, vec_len, vec_capacity}
use Rattle.std.specs.Prelude.{unsigned_abs}
use Rattle.column_core.specs.FlatColumn.{leaf_of}
use Rattle.column_core.specs.Leaf.{single_rows}
use Rattle.runend_select.proofs.MaskRuns.{AreMaskRunsTo}
use Rattle.runend_select.proofs.mask_runs.runs_in.Given as goal

-- the runs before this one are written, and there is room for a stop and a rank of each
abbrev pub invariant-loop-run : goal.invariant-loop-run
invariant-loop-run g l = record {
  written : AreMaskRunsTo (map unsigned_abs (map g.E.NativePType.number l.ends)) (single_rows (leaf_of l.truths)) l.offset l.count l.run l.row l.rank l.stops.items l.ranks.items;
  few : vec_len l.stops ≤ l.run;
  room : length l.ends ≤ vec_capacity l.stops;
  few_ranks : vec_len l.ranks ≤ l.run;
  room_ranks : length l.ends ≤ vec_capacity l.ranks;
}
