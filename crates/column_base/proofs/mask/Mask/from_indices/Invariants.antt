use Rattle.std.proofs.Common.{◌≡◌, ◌<◌, ℕ, length, take, get_or, true, false}
use Rattle.std.specs.Prelude.{◌↔◌, Contains}
use Rattle.column_base.proofs.mask.Mask.from_indices.Given as goal

abbrev pub invariant-loop-index : goal.invariant-loop-index
invariant-loop-index g l =
    record {
      len : length l.bits ≡ l.len;
      selected : (k : ℕ) → k < l.len → (get_or l.bits k false ≡ true) ↔ Contains (take l.index-index l.indices) k;
    }
