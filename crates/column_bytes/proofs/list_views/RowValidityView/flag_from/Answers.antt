use Rattle.std.proofs.Common.{ℕ, arith, ap, subst, ◌∙◌}
use Rattle.column_base.specs.ValidityForm.{flag_at}
use Rattle.column_fields.specs.ValidityViews.{form_in}
use Rattle.column_fields.specs.declared.validity_views.ValidityView.TheVariants.{Bits}
use Rattle.column_bytes.specs.ListViews.{ShowsValidity}
use Rattle.column_bytes.proofs.PartWalks.{run_flag}
use Rattle.column_bytes.proofs.list_views.RowValidityView.flag_from.Goals as goal

pub returns-in_ok-cursor-in-Runs-clause-found : goal.returns-in_ok-cursor-in-Runs-clause-found
returns-in_ok-cursor-in-Runs-clause-found c = λ form s read.
    let m = c.in_ok-cursor-in-Runs.ensures in
    let n = run_flag form c.in-Runs.runs c.args.rows c.args.row c.is_valid-in-Runs.result c.saturating_sub.result c.args.cursor c.in_ok-cursor-in-Runs.cursor (subst (λ v. ShowsValidity c.args.rows v form) c.in-Runs.is s) c.requires read m.found m.past (λ count holds within. c.is_valid-in-Runs.ensures count holds (omega (arith, within, c.run.ensures)) ∙ ap (λ (k : ℕ). flag_at (form_in count (Bits c.in-Runs.runs.items)) k) c.run.ensures) (omega (arith, c.saturating_sub.ensures)) in
    (n.value_is, n.stop_is, n.read)
