use Rattle.std.proofs.Common.{◌≡◌, ◌+◌, ◌-◌, ◌≤◌, None, true, drop, length, get_or, map, take, vec_capacity, vec_len}
use Rattle.std.specs.Prelude.{replicate, unsigned_abs}
use Rattle.column_core.specs.PrimitiveForm.{optionals, AreZeroAtNulls}
use Rattle.runend_windows.specs.Window.{run_rows}
use Rattle.runend_windows.proofs.Decoded.{reached}
use Rattle.runend_windows.proofs.Grow.{Open}
use Rattle.runend_encode.proofs.joined.join_marked.Given as goal

abbrev pub invariant-loop-run : goal.invariant-loop-run
invariant-loop-run g l =
    let number = g.T.NativePType.number in
    let ends = map unsigned_abs (map g.E.NativePType.number l.ends) in
    let rows = optionals (map number l.items) l.marks in
    record {
      opened : Open (run_rows ends rows l.offset l.count) (reached ends l.offset l.count l.run)
          (map unsigned_abs (map g.E.NativePType.number l.joined_ends.items)) (optionals (map number l.values.items) (take (length l.values.items) l.flags)) (get_or rows (l.run - 1) None);
      zeroed : AreZeroAtNulls (map number l.values.items) (take (length l.values.items) l.flags);
      rest : drop (length l.values.items) l.flags ≡ replicate (length l.flags - length l.values.items) true;
      flags_len : length l.flags ≡ length l.items;
      ends_len : vec_len l.joined_ends + 1 ≤ l.run;
      values_len : vec_len l.values + 1 ≤ l.run;
      ends_room : length l.items ≤ vec_capacity l.joined_ends;
      values_room : length l.items ≤ vec_capacity l.values;
    }
