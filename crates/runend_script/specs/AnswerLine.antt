-- The answer line of what a command on the column was answered.
use Rattle.std.specs.Prelude.{◌≢◌, ◌++◌, [], ◌∷◌, ℕ, Bool, true, false, List, Option, None, Some, codes}
use Rattle.column_base.specs.declared.error.VortexError.TheVariants.{OutOfMemory}
use Rattle.column_core.specs.ScalarForm.{ScalarForm}
use Rattle.column_sums.specs.declared.answer.SumValue.{SumValue}
use Rattle.column_words.specs.Refusals.{behind_spaces, refusal_text}
use Rattle.column_words.specs.Rows.{IsNullOrNumber, row_word, total_word}
use Rattle.runend_commands.specs.declared.command.Command.{Command}
use Rattle.runend_commands.specs.declared.command.Command.TheVariants.{IsConstant, IsSorted}
use Rattle.runend_commands.specs.declared.command.Answer.{Answer}
use Rattle.runend_commands.specs.declared.command.Answer.TheVariants as answer
use Rattle.runend_commands.specs.Extremes.{shown}

-- the words of a sum: that it left its range, or else that no row is valid, or else its digits
abbrev pub sum_words : Option SumValue → Bool → List (List ℕ)
sum_words None empty = codes "overflow" ∷ []
sum_words (Some total) true = codes "0" ∷ codes "empty" ∷ []
sum_words (Some total) false = total_word total ∷ []

-- the words of the least and the greatest row
abbrev pub extreme_words : Option (ScalarForm × ScalarForm) → List (List ℕ)
extreme_words None = codes "none" ∷ []
extreme_words (Some ends) = row_word (shown ends.0) ∷ row_word (shown ends.1) ∷ []

-- the word of a truth
abbrev pub truth_word : Bool → List ℕ
truth_word true = codes "true"
truth_word false = codes "false"

-- the name of the question that a command asks
abbrev pub question_text : {A : Type 0} → Command A → List ℕ
question_text IsConstant = codes "constant"
question_text (IsSorted true) = codes "strict"
question_text command = codes "sorted"

-- the line of an answer to the command
abbrev pub answer_text : {A : Type 0} → Command A → Answer A → List ℕ
answer_text command answer.Done = codes "ok"
answer_text command (answer.Value scalar) = codes "value" ++ behind_spaces (row_word (shown scalar) ∷ [])
answer_text command (answer.Sum total) = codes "sum" ++ behind_spaces (sum_words total.sum total.is_empty)
answer_text command (answer.MinMax ends) = codes "minmax" ++ behind_spaces (extreme_words ends)
answer_text command (answer.Bool truth) = question_text command ++ behind_spaces (truth_word truth ∷ [])
answer_text command (answer.Refused error) = refusal_text error

-- the command asks whether something is true
abbrev pub IsQuestion : {A : Type 0} → Command A → Type 0
IsQuestion IsConstant = Unit {0}
IsQuestion (IsSorted strict) = Unit {0}
IsQuestion command = ⊥

-- the answers that have a line: of integers, of truths that the command asks for, and of refusals for other reasons
-- than memory
abbrev pub HasLine : {A : Type 0} → Command A → Answer A → Type 0
HasLine command (answer.Value scalar) = IsNullOrNumber (shown scalar)
HasLine command (answer.MinMax None) = Unit {0}
HasLine command (answer.MinMax (Some ends)) = IsNullOrNumber (shown ends.0) × IsNullOrNumber (shown ends.1)
HasLine command (answer.Bool truth) = IsQuestion command
HasLine command (answer.Refused error) = error ≢ OutOfMemory
HasLine command answer = Unit {0}
