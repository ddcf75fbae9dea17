use Rattle.std.proofs.Common.{ℕ, List, ◌++◌, ◌≡◌}
use Rattle.column_fields.proofs.ShortestVarints.{IsCompact, Completes}
use Rattle.column_fields.proofs.varint.push_varint.Given as goal

pub record IsWriting (old out : List ℕ) (n rest start capacity : ℕ) : Type 0 where
  pub completed : (tail : List ℕ) → IsCompact tail rest → Completes old n (out ++ tail)
  pub capacity_is : capacity ≡ start

abbrev pub invariant-loop-rest : goal.invariant-loop-rest
invariant-loop-rest g l = IsWriting l.fn.out.items l.out.items l.n l.rest l.fn.out.cap l.out.cap

abbrev pub decreases-loop-rest : goal.decreases-loop-rest
decreases-loop-rest g l = l.rest
