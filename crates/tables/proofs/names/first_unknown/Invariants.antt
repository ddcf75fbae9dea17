-- Each name so far is one of them.
use Rattle.std.proofs.Common.{◌<◌, ℕ, map}
use Rattle.std.specs.Prelude.{List, slice_index_or}
use Rattle.std.specs.String.{string_bytes}
use Rattle.tables.specs.Tables.{IsKnown}
use Rattle.tables.proofs.names.first_unknown.Given as goal

abbrev pub invariant-loop-place : goal.invariant-loop-place
invariant-loop-place g l = (k : ℕ) (d : List ℕ) → k < l.place → IsKnown (map string_bytes l.fn.own) (slice_index_or (map g.N.Named.named l.fn.names) k d)
