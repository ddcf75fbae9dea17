use Rattle.std.proofs.Common.{◌≡◌, take}
use Rattle.std.specs.Prelude.{fold}
use Rattle.column_core.specs.FlatColumn.{leaf_of}
use Rattle.column_core.specs.Leaf.{single_rows}
use Rattle.runend_windows.specs.Ends.{ends_of}
use Rattle.runend_pairs.specs.Hashes.{run_writes}
use Rattle.runend_pairs.proofs.hashes.write_runs.Given as goal

abbrev pub invariant-loop-run : goal.invariant-loop-run
invariant-loop-run g l = l.state ≡ fold g.H.Hasher.write l.fn.state (run_writes (take l.run (ends_of l.ends)) (take l.run (single_rows (leaf_of l.values))))
