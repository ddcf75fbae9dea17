-- The columns of the names so far are not of lists.
use Rattle.std.proofs.Common.{◌<◌, ℕ, map}
use Rattle.std.specs.Prelude.{List, slice_index_or}
use Rattle.tables.specs.KeyFaults.{IsSingleName}
use Rattle.tables.proofs.table.Table.first_list.Given as goal

abbrev pub invariant-loop-key : goal.invariant-loop-key
invariant-loop-key g l = (k : ℕ) (d : List ℕ) → k < l.key → IsSingleName l.fn.self (slice_index_or (map g.N.Named.named l.fn.keys) k d)
