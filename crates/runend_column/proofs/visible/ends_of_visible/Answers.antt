use Rattle.std.proofs.Common.{◌∙◌, ap, length, sym}
use Rattle.std.specs.Prelude.{unsigned_abs}
use Rattle.std.proofs.lemmas.List.{length-map}
use Rattle.runend_column.proofs.VisibleWindow.{visible_paired, visible_shown, visible_window}
use Rattle.runend_column.proofs.AnsweredRows.{if_ok}
use Rattle.runend_column.proofs.visible.ends_of_visible.Goals as goal

pub ends_between-requires : goal.ends_between-requires
ends_between-requires g c = record { ordered = c.visible_runs-runs.ensures.ordered; in_bounds = c.visible_runs-runs.ensures.in_bounds }

pub returns-clause-only : goal.returns-clause-only
returns-clause-only g c = c.ends_between.ensures.only

pub returns-clause-plain : goal.returns-clause-plain
returns-clause-plain g c = c.ends_between.ensures.plain

pub returns-clause-ends : goal.returns-clause-ends
returns-clause-ends g c = if_ok c.ends_between.result (λ ends same. same ∙ c.visible_runs-runs.ensures.ends) c.ends_between.ensures.ends

pub returns-clause-typed : goal.returns-clause-typed
returns-clause-typed g c = c.ends_between.ensures.typed

pub returns-clause-window : goal.returns-clause-window
returns-clause-window g c = visible_window c.args.array.now c.visible_runs-runs.ensures.valid

pub returns-clause-paired : goal.returns-clause-paired
returns-clause-paired g c = visible_paired c.args.array.now c.visible_runs-runs.ensures.valid

pub returns-clause-counted : goal.returns-clause-counted
returns-clause-counted g c =
    if_ok c.ends_between.result (λ ends same. sym (length-map ends.numbers unsigned_abs) ∙ ap length (same ∙ c.visible_runs-runs.ensures.ends)) c.ends_between.ensures.ends

pub returns-clause-shown : goal.returns-clause-shown
returns-clause-shown g c = visible_shown c.args.array.now c.visible_runs-runs.ensures.valid
