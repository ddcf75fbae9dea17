use Rattle.std.proofs.Common.{◌≡◌, ◌<◌, ◌∙◌, length, map, arith, inl, inr}
use Rattle.std.specs.Prelude.{unsigned_abs}
use Rattle.std.proofs.lemmas.Bool.{cases_lt}
use Rattle.runend_windows.proofs.Decoded.{reached, reached-le}
use Rattle.runend_windows.proofs.RunAt.{run_of_row_within}
use Rattle.runend_windows.proofs.StoredNumbers.{length-naturals}
use Rattle.runend_windows.proofs.FilledRows.{filled_inside, filled_outside, start-reached, run_of_row, row_from, row_below}
use Rattle.runend_windows.proofs.filled_runs.fill_run.Goals as goal

pub returns-then-run-ends-clause-here : goal.returns-then-run-ends-clause-here
returns-then-run-ends-clause-here g c = λ i small at.
    let number = g.E.NativePType.number in
    let within = run_of_row_within (map unsigned_abs (map number c.args.ends.now)) c.args.offset c.args.count i c.requires.window small in
    absurd (omega (arith, length-naturals number c.args.ends.now, c.if-run-ends.true))

pub returns-clause-here : goal.returns-clause-here
returns-clause-here g c = λ i small at.
    let number = g.E.NativePType.number in
    let ends = map unsigned_abs (map number c.args.ends.now) in
    let run = c.args.run in
    let start = c.start_of-start.result in
    let stop = c.reach_of-stop.result in
    let within : run < length ends = omega (arith, length-naturals number c.args.ends.now, c.if-run-ends.false) in
    let from : start ≡ reached ends c.args.offset c.args.count run = c.start_of-start.ensures ∙ start-reached ends c.args.offset c.args.count run in
    let low = row_from ends c.args.offset c.args.count run i small at in
    let high = row_below ends c.args.offset c.args.count run i within small at in
    rw c.fill_range.ensures
    (filled_inside c.args.rows.now start stop i c.args.bit (omega (arith, c.reach_of-stop.ensures, c.requires.long)) (omega arith) (omega (arith, c.reach_of-stop.ensures)))

pub returns-clause-others : goal.returns-clause-others
returns-clause-others g c = λ i small other.
    let number = g.E.NativePType.number in
    let ends = map unsigned_abs (map number c.args.ends.now) in
    let run = c.args.run in
    let start = c.start_of-start.result in
    let stop = c.reach_of-stop.result in
    let within : run < length ends = omega (arith, length-naturals number c.args.ends.now, c.if-run-ends.false) in
    let from : start ≡ reached ends c.args.offset c.args.count run = c.start_of-start.ensures ∙ start-reached ends c.args.offset c.args.count run in
    let order = reached-le ends c.args.offset c.args.count run c.requires.window.increasing within in
    rw c.fill_range.ensures
    (filled_outside c.args.rows.now start stop i c.args.bit (omega (arith, c.reach_of-stop.ensures)) (omega (arith, c.reach_of-stop.ensures, c.requires.long))
    (λ low. elim (cases_lt i stop) [
      | inl high ↦
          let at = run_of_row ends c.args.offset c.args.count run i c.requires.window within small (omega arith) (omega (arith, c.reach_of-stop.ensures)) in
          absurd (other at)
      | inr past ↦ past
    ]))
