-- What comes of lines that neither append rows to the column's nor put its rows in another order.
use Rattle.std.proofs.Common.{ℕ, refl}
use Rattle.std.specs.Prelude.{◌≢◌, IfOk, Result}
use Rattle.column_base.specs.declared.error.VortexError.{VortexError}
use Rattle.runend_array.specs.declared.array_ref.ArrayRef.{ArrayRef}
use Rattle.runend_script.specs.Outcomes.{IsOutcome}
use Rattle.runend_script.specs.Replies.{IsKeptOrStep}
use Rattle.runend_script.specs.declared.command.ScriptCommand.{ScriptCommand}
use Rattle.runend_script.specs.declared.command.ScriptCommand.TheVariants.{Append, Repeat, Reorder}
use Rattle.runend_script.specs.declared.scripts.Reply.{Reply}

-- any other line leaves the column, or what a step of a command leaves
pub of_others : {A : Type 0} (command : ScriptCommand) (before after : ArrayRef A) (result : Result (Reply A) VortexError) → ((words : _) → command ≢ Append words)
    → ((word : _) (count : ℕ) → command ≢ Repeat word count) → ((order : _) → command ≢ Reorder order) → IfOk result (λ reply. IsKeptOrStep before after) → IsOutcome command before result after
of_others (Append words) before after result not_append not_repeat not_reorder left = absurd (not_append words refl)
of_others (Repeat word count) before after result not_append not_repeat not_reorder left = absurd (not_repeat word count refl)
of_others (Reorder order) before after result not_append not_repeat not_reorder left = absurd (not_reorder order refl)
of_others command before after result not_append not_repeat not_reorder left = left
