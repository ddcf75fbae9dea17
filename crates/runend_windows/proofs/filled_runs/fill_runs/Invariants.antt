use Rattle.std.proofs.Common.{◌≡◌, ℕ, ◌+◌, ◌<◌, ◌≤◌, Some, length, map}
use Rattle.std.specs.Int.{bit_at}
use Rattle.std.specs.List.{slice_get}
use Rattle.std.specs.Prelude.{unsigned_abs}
use Rattle.runend_windows.specs.Window.{run_at}
use Rattle.runend_windows.proofs.filled_runs.fill_runs.Given as goal

abbrev pub invariant-loop-left : goal.invariant-loop-left
invariant-loop-left g l =
    let ends = map unsigned_abs (map g.E.NativePType.number l.ends) in
    record {
      len : length l.rows ≡ l.count;
      sub : (j : ℕ) → bit_at l.left j ≡ 1 → bit_at l.runs j ≡ 1;
      put : (i : ℕ) → i < l.count → (j : ℕ) → run_at ends (l.offset + i) ≡ l.first + j → bit_at l.runs j ≡ 1 → bit_at l.left j ≡ 0 → slice_get l.rows i ≡ Some l.bit;
      kept : (i : ℕ) → i < l.count → (j : ℕ) → run_at ends (l.offset + i) ≡ l.first + j → bit_at l.runs j ≡ 0 → slice_get l.rows i ≡ slice_get l.fn.rows i;
      before : (i : ℕ) → i < l.count → run_at ends (l.offset + i) < l.first → slice_get l.rows i ≡ slice_get l.fn.rows i;
      behind : (i : ℕ) → i < l.count → l.first + 64 ≤ run_at ends (l.offset + i) → slice_get l.rows i ≡ slice_get l.fn.rows i;
    }

abbrev pub decreases-loop-left : goal.decreases-loop-left
decreases-loop-left g l = l.left
