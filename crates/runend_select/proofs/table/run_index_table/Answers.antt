use Rattle.std.proofs.Common.{◌≡◌, ◌+◌, ◌<◌, ◌∙◌, length, ap, inl, inr, arith}
use Rattle.std.proofs.lemmas.Bool.{cases_lt}
use Rattle.runend_select.specs.Indices.{runs_of_rows}
use Rattle.runend_select.proofs.TableRuns.{AreReached-more, filled-more, reach-more, reached_all}
use Rattle.runend_select.proofs.table.run_index_table.Goals as goal
use Rattle.runend_select.proofs.table.run_index_table.Goals.{else-loop-run-test, then-loop-run-test+then-reach-length}

pub loop-run-preserved : goal.loop-run-preserved
loop-run-preserved g c =
    let ends = c.args.ends.now.ends in
    let offset = c.args.offset in
    let count = c.args.length in
    let run = c.loop-run.run in
    let rows = c.loop-run.reach in
    let more = c.rows_to_end-reach.result in
    let inv = c.loop-run.invariant in
    let within : run < length ends = omega (arith, c.len-run-end.ensures, c.loop-run-test.true) in
    let reach = reach-more ends offset count run rows more c.requires within (rw inv.same at c.rows_to_end-reach.ensures.rows) inv.reached in
    let before = inv.reached.within in
    record {
      filled = c.repeat_to.ensures.rows ∙ filled-more ends offset count run rows (rows + more) c.loop-run.table.rows c.requires within reach inv.reached inv.filled;
      limit = c.repeat_to.ensures.limit ∙ inv.limit;
      reached = AreReached-more ends offset count run rows (rows + more) c.requires within reach inv.reached;
      same = c.rows_to_end-reach.ensures.same ∙ inv.same;
      cost = omega (arith, c.rows_to_end-reach.ensures.counted, inv.cost);
      most = λ some. omega (arith, c.rows_to_end-reach.ensures.counted, inv.cost);
    }

-- the walk stopped at the last row, or after the last run
pub returns-clause-runs : goal.returns-clause-runs
returns-clause-runs g c =
    let ends = c.args.ends.now.ends in
    let offset = c.args.offset in
    let inv = c.loop-run.invariant in
    let all : c.loop-run.reach ≡ c.args.length = elim c.loop-run-test.branch [
      | else-loop-run-test w ↦
          let past = w.loop-run-test.false in
          reached_all ends offset c.args.length c.loop-run.run c.loop-run.reach c.requires (omega (arith, c.len-run-end.ensures)) inv.reached
      | then-loop-run-test+then-reach-length w ↦ w.if-reach-length.true
    ] in
    c.finish.ensures ∙ inv.filled ∙ ap (λ n. runs_of_rows ends offset n) all

pub returns-clause-cost : goal.returns-clause-cost
returns-clause-cost g c =
    let inv = c.loop-run.invariant in
    let before = inv.reached.within in
    elim (cases_lt 0 c.loop-run.run) [
      | inl some ↦ let most = inv.most some in omega arith
      | inr none ↦ omega arith
    ]
