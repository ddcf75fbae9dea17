-- What comes of a command on the column that is there.
use Rattle.std.specs.Prelude.{IfOk, Result}
use Rattle.column_base.specs.declared.error.VortexError.{VortexError}
use Rattle.runend_array.specs.declared.array_ref.ArrayRef.{ArrayRef}
use Rattle.runend_script.specs.Words.{words_of}
use Rattle.runend_script.specs.Lengthened.{IsAppended, IsRepeated}
use Rattle.runend_script.specs.Reordered.{IsReordered}
use Rattle.runend_script.specs.Replies.{IsKeptOrStep}
use Rattle.runend_script.specs.declared.command.ScriptCommand.{ScriptCommand}
use Rattle.runend_script.specs.declared.command.ScriptCommand.TheVariants.{Append, Repeat, Reorder}
use Rattle.runend_script.specs.declared.scripts.Reply.{Reply}

-- rows are appended to those of the column, or put in another order, by lines that say so, and any other line leaves
-- the column, or what a step of a command leaves
abbrev pub IsOutcome : {A : Type 0} → ScriptCommand → ArrayRef A → Result (Reply A) VortexError → ArrayRef A → Type 0
IsOutcome (Append words) before result after = IsAppended before (words_of words.rest.now) result after
IsOutcome (Repeat word count) before result after = IsRepeated before word.now count result after
IsOutcome (Reorder order) before result after = IsReordered order before result after
IsOutcome command before result after = IfOk result (λ reply. IsKeptOrStep before after)
