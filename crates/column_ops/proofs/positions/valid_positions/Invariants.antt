use Rattle.std.proofs.Common.{◌≡◌, ◌≤◌, None, Some, pos, length, map, take, vec_capacity, vec_len}
use Rattle.column_ops.specs.Fault.{first_fault}
use Rattle.column_ops.specs.Take.{index_fault}
use Rattle.column_ops.proofs.positions.valid_positions.Given as goal

abbrev pub invariant-loop-index : goal.invariant-loop-index
invariant-loop-index g l =
    let passed = take l.index-index (map g.T.NativePType.number l.indices) in
    record {
      same : map pos l.positions.items ≡ passed;
      sound : first_fault (λ index. index_fault l.count (Some index)) passed ≡ None;
      len : vec_len l.positions ≡ l.index-index;
      room : length l.indices ≤ vec_capacity l.positions;
    }
