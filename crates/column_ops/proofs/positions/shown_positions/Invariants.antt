use Rattle.std.proofs.Common.{◌≡◌, ◌≤◌, None, pos, length, map, take, vec_capacity, vec_len}
use Rattle.std.specs.Prelude.{unwrap_or}
use Rattle.column_core.specs.Optionals.{optionals}
use Rattle.column_ops.specs.Take.{take_fault}
use Rattle.column_ops.proofs.positions.shown_positions.Given as goal

abbrev pub invariant-loop-place : goal.invariant-loop-place
invariant-loop-place g l =
    let passed = take l.place (optionals (map g.T.NativePType.number l.indices) l.marks) in
    record {
      same : map pos l.positions.items ≡ map (λ row. unwrap_or row (pos 0)) passed;
      sound : take_fault passed l.count ≡ None;
      len : vec_len l.positions ≡ l.place;
      room : length l.indices ≤ vec_capacity l.positions;
    }
