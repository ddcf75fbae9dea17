use Rattle.std.proofs.Common.{◌≡◌, ◌+◌, ◌*◌, ◌≤◌, ◌++◌, length, take}
use Rattle.std.specs.List.{All}
use Rattle.std.specs.Int.{w128}
use Rattle.std.specs.Int.RustNames.{FitsSigned}
use Rattle.column_fields.specs.DecimalBytes.{decimals_bytes}
use Rattle.column_fields.specs.Kept.{StaysInFront}
use Rattle.column_fields.proofs.decimals.put_each.Given as goal

abbrev pub invariant-loop-number : goal.invariant-loop-number
invariant-loop-number g l = record {
  shows : (g.W.BufMut.written l.out) ≡ (g.W.BufMut.written l.fn.out) ++ decimals_bytes (take l.number-index l.numbers);
  fits : All (λ n. FitsSigned w128 n) (take l.number-index l.numbers);
  kept : StaysInFront (g.W.BufMut.written l.fn.out) (g.W.BufMut.written l.out);
  room : g.W.BufMut.spare l.fn.out ≤ g.W.BufMut.spare l.out + l.number-index * 16;
  within : l.number-index ≤ length l.numbers;
}
