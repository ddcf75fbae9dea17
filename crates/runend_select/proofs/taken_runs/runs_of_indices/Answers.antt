use Rattle.std.proofs.Common.{◌≡◌, ℕ, length, map, replicate, ap, ◌∙◌, sym, subst}
use Rattle.std.proofs.lemmas.List.{length-map}
use Rattle.column_base.specs.Validity.{form_of}
use Rattle.column_base.specs.ValidityForm.{flags}
use Rattle.column_base.proofs.ValidityRows.{length-flags}
use Rattle.runend_select.specs.Indices.{AreInBounds, optional_indices}
use Rattle.runend_select.proofs.TakenRuns.{runs-of_no_rows}
use Rattle.runend_column.proofs.ComputedRows.{ok_then}
use Rattle.runend_column.proofs.PassedOn.{no_value, only_error}
use Rattle.runend_select.proofs.taken_runs.runs_of_indices.Goals as goal

pub returns-then-is_empty-clause-only : goal.returns-then-is_empty-clause-only
returns-then-is_empty-clause-only g c = c.repeated_items.ensures.only

pub returns-then-is_empty-clause-runs : goal.returns-then-is_empty-clause-runs
returns-then-is_empty-clause-runs g c =
    let number = g.T.NativePType.number in
    let indices = c.args.indices.now in
    let form = form_of c.args.validity.now in
    let long = length-map indices number in
    let none : c.args.array.now.count ≡ 0 = c.is_empty.ensures.0 c.if-is_empty.true in
    let bounds = subst (λ (n : ℕ). AreInBounds (optional_indices number indices (flags form (length indices))) n) none c.requires.in_bounds in
    let nulls = runs-of_no_rows c.args.array.now.ends c.args.array.now.offset (map number indices) (flags form (length indices)) (length-flags form (length indices) c.requires.fits ∙ sym long) bounds in
    ok_then c.repeated_items.result _ _ (λ zeros items. record { null = 0; answer = items ∙ ap (λ (n : ℕ). replicate n 0) (sym long) ∙ nulls }) c.repeated_items.ensures.items

pub returns-in_err-mask-clause-only : goal.returns-in_err-mask-clause-only
returns-in_err-mask-clause-only g c = only_error c.from_residual.result c.in_err-mask.field-0.0 _ c.from_residual.ensures.1 c.in_err-mask.ensures.only

pub returns-in_err-mask-clause-runs : goal.returns-in_err-mask-clause-runs
returns-in_err-mask-clause-runs g c = no_value _ c.from_residual.result c.from_residual.ensures.0
