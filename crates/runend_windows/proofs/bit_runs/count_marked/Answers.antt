use Rattle.std.proofs.Common.{◌≡◌, ℕ, Bool, false, cond, ap, ◌∙◌, arith}
use Rattle.column_core.specs.Optionals.{optionals}
use Rattle.runend_windows.specs.Encoding.{blanked}
use Rattle.runend_windows.proofs.BitRuns.{count-next, count-all}
use Rattle.runend_windows.proofs.bit_runs.count_marked.Goals as goal
use Rattle.runend_windows.proofs.bit_runs.count_marked.Goals.{then-marked_at, else-marked_at}

pub loop-run-preserved : goal.loop-run-preserved
loop-run-preserved g c =
    let stored = blanked false (optionals c.args.bits.now c.args.marks.now) in
    let next = count-next stored c.loop-run.run c.marked_at.result c.marked_at.ensures in
    let within = c.loop-run.invariant.within in
    let counted = c.loop-run.invariant.counted in
    elim c.if-marked_at.branch [
      | then-marked_at w ↦
          let one : cond {A = ℕ} c.marked_at.result 1 0 ≡ 1 = ap (λ (b : Bool). cond {A = ℕ} b 1 0) w.if-marked_at.true in
          let is = w.count-is in
          record { within = omega arith; counted = omega arith }
      | else-marked_at w ↦
          let none : cond {A = ℕ} c.marked_at.result 1 0 ≡ 0 = ap (λ (b : Bool). cond {A = ℕ} b 1 0) w.if-marked_at.false in
          let is = w.count-is in
          record { within = omega arith; counted = omega arith }
    ]

pub returns : goal.returns
returns g c = c.loop-run.invariant.counted ∙ count-all c.args.bits.now c.args.marks.now c.loop-run.run c.requires (omega arith)
