use Rattle.std.proofs.Common.{◌+◌, ◌-◌, ◌≡◌, arith}
use Rattle.std.proofs.lemmas.Bool.{cases_lt}
use Rattle.runend_windows.proofs.Items.{slice_index-map_read}
use Rattle.std.proofs.Common.{inl, inr}
use Rattle.runend_windows.proofs.validate.first_fall.Goals as goal

pub loop-run-preserved : goal.loop-run-preserved
loop-run-preserved g c =
    let natural = g.E.UnsignedPType.natural in
    let here = slice_index-map_read natural c.args.ends.now c.loop-run.run c.index-ends-run.result (omega arith) c.index-ends-run.is in
    let before = slice_index-map_read natural c.args.ends.now (c.loop-run.run - 1) c.index-ends-run-in-loop-run.result (omega arith) c.index-ends-run-in-loop-run.is in
    λ k h. elim (cases_lt (k + 1) c.loop-run.run) [
      | inl below ↦ c.loop-run.invariant k below
      | inr last ↦
          let at : k + 1 ≡ c.loop-run.run = omega arith in
          let ahead : k ≡ c.loop-run.run - 1 = omega arith in
          rw (at, ahead) (rw (here, before) (omega arith))
    ]
