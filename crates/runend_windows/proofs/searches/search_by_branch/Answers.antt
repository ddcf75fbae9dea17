use Rattle.std.proofs.Common.{◌↔◌, ℕ, ◌+◌, ◌-◌, ◌/◌, ◌≤◌, IsTrue, slice_index, arith, inl, inr, ◌∙◌}
use Rattle.std.proofs.lemmas.Bool.{both_ways, cases_lt}
use Rattle.column_core.proofs.Digits.{digits-half}
use Rattle.runend_windows.proofs.RunAt.{run_at-le, run_at-le-length}
use Rattle.runend_windows.proofs.Places.{run_at-beyond}
use Rattle.runend_windows.proofs.searches.search_by_branch.Goals as goal

pub loop-low-init : goal.loop-low-init
loop-low-init g c = grind (arith, run_at-le-length c.args.ends.now.ends c.args.row)

-- the end is at or below the row, so the run is past it
pub loop-low-preserved-then-test : goal.loop-low-preserved-then-test
loop-low-preserved-then-test g c =
    let inv = c.loop-low.invariant in
    let some = c.loop-low-test.true in
    let low = c.loop-low.low in
    let high = c.loop-low.high in
    let middle : ℕ = low + (high - low) / 2 in
    let ended : slice_index c.args.ends.now.ends middle ≤ c.args.row = rw inv.same at (c.test.ensures.says.0 c.if-test.true) in
    let beyond = run_at-beyond c.args.ends.now.ends c.args.row middle c.requires (omega arith) ended in
    let cost = digits-half (high - (middle + 1)) (high - low) (omega arith) (omega arith) in
    record {
      from = omega arith;
      to = inv.to;
      within = inv.within;
      same = c.test.ensures.same ∙ inv.same;
      cost = omega (arith, cost, c.test.ensures.counted);
    }

-- the end is past the row, so the run is no later
pub loop-low-preserved : goal.loop-low-preserved
loop-low-preserved g c =
    let inv = c.loop-low.invariant in
    let some = c.loop-low-test.true in
    let low = c.loop-low.low in
    let high = c.loop-low.high in
    let middle : ℕ = low + (high - low) / 2 in
    let says : IsTrue c.test.result ↔ (slice_index c.args.ends.now.ends middle ≤ c.args.row) = rw inv.same at c.test.ensures.says in
    elim (cases_lt c.args.row (slice_index c.args.ends.now.ends middle)) [
      | inl past ↦
          let least = run_at-le c.args.ends.now.ends c.args.row middle (omega arith) past in
          let cost = digits-half (middle - low) (high - low) (omega arith) (omega arith) in
          record {
            from = inv.from;
            to = least;
            within = omega arith;
            same = c.test.ensures.same ∙ inv.same;
            cost = omega (arith, cost, c.test.ensures.counted);
          }
      | inr ended ↦ absurd (both_ways _ c.if-test.false (says.1 ended))
    ]
