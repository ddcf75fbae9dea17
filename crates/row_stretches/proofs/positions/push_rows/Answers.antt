use Rattle.std.proofs.Common.{◌∙◌, ◌++◌, ℕ, ap, arith}
use Rattle.std.specs.List.{range_with_len}
use Rattle.row_stretches.proofs.Places.{row_pushed}
use Rattle.row_stretches.proofs.positions.push_rows.Goals as goal

pub loop-row-preserved : goal.loop-row-preserved
loop-row-preserved g c =
    let inv = c.loop-row.invariant in
    record {
      from = omega (arith, inv.from);
      to = omega (arith, inv.from, c.loop-row-test.true);
      pushed = row_pushed c.args.positions.now.items c.loop-row.positions.items c.push.new.self.items c.args.stretch.start c.loop-row.row inv.from inv.pushed c.in_ok-push.ensures.items;
    }

pub returns-clause-pushed : goal.returns-clause-pushed
returns-clause-pushed g c =
    let inv = c.loop-row.invariant in
    inv.pushed ∙ ap (λ (n : ℕ). c.args.positions.now.items ++ range_with_len c.args.stretch.start n) (omega (arith, inv.from, inv.to, c.loop-row-test.false))
