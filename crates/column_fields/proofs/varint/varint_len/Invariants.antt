use Rattle.std.proofs.Common.{ℕ, List, ◌+◌, ◌≤◌}
use Rattle.column_fields.proofs.ShortestVarints.{IsCompact, Counted}
use Rattle.column_fields.proofs.varint.varint_len.Given as goal

pub record IsCounting (n count rest : ℕ) : Type 0 where
  pub counted : (bytes : List ℕ) → IsCompact bytes n → Counted n count rest bytes
  pub small : count + rest ≤ n + 1

abbrev pub invariant-loop-rest : goal.invariant-loop-rest
invariant-loop-rest l = IsCounting l.n l.len l.rest

abbrev pub decreases-loop-rest : goal.decreases-loop-rest
decreases-loop-rest l = l.rest
