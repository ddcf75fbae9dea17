use Rattle.std.proofs.Common.{◌≡◌, ◌∙◌, ◌-◌, ◌≤◌, ℕ, ap, arith}
use Rattle.std.specs.Prelude.{nat_le}
use Rattle.std.specs.Int.{from_bool}
use Rattle.column_fields.proofs.BlockLaws.{long_left, none_long, one_at_most}
use Rattle.column_fields.proofs.length_sizes.long_runs.Goals as goal

pub loop-stop-preserved : goal.loop-stop-preserved
loop-stop-preserved g c =
    let natural = g.E.UnsignedPType.natural in
    let rows : ℕ = natural c.stop-item.result - natural c.loop-stop.begin in
    let left = long_left natural c.args.ends.now c.loop-stop.stop-index (natural c.loop-stop.begin) c.stop-item.result c.loop-stop-test.true c.stop-item.is in
    let own : c.end.result ≡ rows = c.end.ensures.value ∙ c.length.ensures.rows in
    let told : c.from-long.result ≡ from_bool (nat_le 128 rows) = c.from-long.ensures ∙ ap (λ (n : ℕ). from_bool (nat_le 128 n)) own in
    record {
      counted = omega (arith, c.loop-stop.invariant.counted, left, told);
      small = omega (arith, c.loop-stop.invariant.small, told, one_at_most (nat_le 128 rows));
    }

pub returns-clause-count : goal.returns-clause-count
returns-clause-count g c = omega (arith, c.loop-stop.invariant.counted, none_long g.E.UnsignedPType.natural c.args.ends.now c.loop-stop.stop-index (g.E.UnsignedPType.natural c.loop-stop.begin) (omega arith))
