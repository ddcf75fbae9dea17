use Rattle.std.proofs.Common.{◌≡◌, ◌+◌, ◌*◌, ◌++◌, length, vec_len, vec_capacity}
use Rattle.std.specs.List.{All}
use Rattle.std.specs.Int.{w128}
use Rattle.std.specs.Int.RustNames.{FitsSigned}
use Rattle.column_fields.specs.DecimalBytes.{decimals_bytes}
use Rattle.column_fields.proofs.decimals.load_decimals.Given as goal

abbrev pub invariant-loop-row : goal.invariant-loop-row
invariant-loop-row g l = record {
  shows : decimals_bytes l.numbers.items ++ l.rest ≡ l.bytes;
  left : length l.rest + l._row * 16 ≡ l.count * 16;
  len : vec_len l.numbers ≡ l._row;
  room : vec_capacity l.numbers ≡ l.count;
  fits : All (λ n. FitsSigned w128 n) l.numbers.items;
}
