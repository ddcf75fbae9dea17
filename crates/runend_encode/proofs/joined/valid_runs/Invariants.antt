use Rattle.std.proofs.Common.{◌≤◌, ◌+◌, ℤ, Some, length, map, vec_capacity, vec_len}
use Rattle.std.specs.Prelude.{unsigned_abs}
use Rattle.runend_windows.specs.Window.{run_rows}
use Rattle.runend_windows.proofs.Decoded.{reached}
use Rattle.runend_windows.proofs.Grow.{Open}
use Rattle.runend_encode.proofs.joined.valid_runs.Given as goal

abbrev pub invariant-loop-run : goal.invariant-loop-run
invariant-loop-run g l =
    let number = g.T.NativePType.number in
    let ends = map unsigned_abs (map g.E.NativePType.number l.ends) in
    record {
      opened : Open (run_rows ends (map (λ (n : ℤ). Some n) (map number l.items)) l.offset l.count) (reached ends l.offset l.count l.run)
          (map unsigned_abs (map g.E.NativePType.number l.joined_ends.items)) (map (λ (n : ℤ). Some n) (map number l.joined_items.items)) (Some (number l.open));
      ends_len : vec_len l.joined_ends + 1 ≤ l.run;
      items_len : vec_len l.joined_items + 1 ≤ l.run;
      ends_room : length l.items ≤ vec_capacity l.joined_ends;
      items_room : length l.items ≤ vec_capacity l.joined_items;
    }
