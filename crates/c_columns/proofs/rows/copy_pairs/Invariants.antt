-- The decimals so far.
use Rattle.std.proofs.Common.{◌≡◌, ◌+◌, ◌<◌, ℕ, pos, length, slice_index_or}
use Rattle.c_columns.specs.Pairs.{number_in, zero_pair}
use Rattle.c_columns.proofs.rows.copy_pairs.Given as goal

abbrev pub invariant-loop-row : goal.invariant-loop-row
invariant-loop-row l =
    record {
      len : length l.pairs ≡ length l.fn.pairs;
      numbers : (k : ℕ) → k < l.row → number_in (slice_index_or l.pairs k zero_pair) ≡ slice_index_or l.stored (l.start + k) (pos 0);
    }
