use Rattle.std.proofs.Common.{arith, ap, subst, ◌∙◌}
use Rattle.std.specs.Prelude.{slice_index}
use Rattle.column_bytes.specs.ListViews.{ShowsIndex}
use Rattle.column_bytes.proofs.PartWalks.{run_number}
use Rattle.column_bytes.proofs.list_views.IndexView.number_from.Goals as goal

pub returns-in_ok-cursor-in-Runs-clause-found : goal.returns-in_ok-cursor-in-Runs-clause-found
returns-in_ok-cursor-in-Runs-clause-found c = λ i s lt read.
    let m = c.in_ok-cursor-in-Runs.ensures in
    let n = run_number i c.in-Runs.runs c.args.row c.number_at-in-Runs.result c.saturating_sub.result c.args.cursor c.in_ok-cursor-in-Runs.cursor (subst (λ v. ShowsIndex v i) c.in-Runs.is s) lt read m.found m.past (λ numbers stored spelt within. c.number_at-in-Runs.ensures numbers stored spelt (omega (arith, within, c.run.ensures)) ∙ ap (slice_index numbers) c.run.ensures) (omega (arith, c.saturating_sub.ensures)) in
    (n.value_is, n.stop_is, n.read)
