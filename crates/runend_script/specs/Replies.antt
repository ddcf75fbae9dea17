-- What comes of a command on the column that is there.
use Rattle.std.specs.Prelude.{◌≡◌, ◌≢◌, ◌⊎◌, ℕ, List, Result, Ok, Err}
use Rattle.std.specs.String.{string_bytes}
use Rattle.column_base.specs.declared.error.VortexError.{VortexError}
use Rattle.column_base.specs.declared.error.VortexError.TheVariants.{OutOfMemory}
use Rattle.column_words.specs.Refusals.{refusal_text}
use Rattle.runend_array.specs.declared.array_ref.ArrayRef.{ArrayRef}
use Rattle.runend_commands.specs.declared.command.Command.{Command}
use Rattle.runend_commands.specs.declared.command.Answer.{Answer}
use Rattle.runend_commands.specs.declared.command.Answer.TheVariants as answer
use Rattle.runend_commands.specs.Step.{IsStep}
use Rattle.runend_script.specs.AnswerLine.{answer_text}
use Rattle.runend_script.specs.declared.scripts.Reply.{Reply}
use Rattle.runend_script.specs.declared.scripts.Reply.TheVariants.{Line, Done}

-- the line of an answer. A refusal for memory has none: it ends the script
abbrev pub IsLineOf : {A : Type 0} → Command A → Answer A → List ℕ → Type 0
IsLineOf command given text = (given ≢ answer.Refused OutOfMemory) × (text ≡ answer_text command given)

-- the reply says the answer: that the command is done, or by its line
abbrev pub Tells : {A : Type 0} → Command A → Answer A → Reply A → Type 0
Tells command given (Line text) = IsLineOf command given (string_bytes text)
Tells command given Done = given ≡ answer.Done
Tells command given reply = ⊥

-- the reply is that the command is done, or the line of an answer, and the column is what that step leaves
abbrev pub IsReplyTo : {A : Type 0} → ArrayRef A → Command A → ArrayRef A → Reply A → Type 0
IsReplyTo {A} before command after (Line text) = (reply : Answer A) × IsStep before command reply after × IsLineOf command reply (string_bytes text)
IsReplyTo before command after Done = IsStep before command answer.Done after
IsReplyTo before command after reply = ⊥

-- the reply is the line of a refusal, for another reason than memory
abbrev pub TellsRefusal : {A : Type 0} → VortexError → Reply A → Type 0
TellsRefusal error (Line text) = (error ≢ OutOfMemory) × (string_bytes text ≡ refusal_text error)
TellsRefusal error reply = ⊥

-- the reply is what a line came to: its own reply, or the line of its refusal
abbrev pub IsReplyOf : {A : Type 0} → Result (Reply A) VortexError → Reply A → Type 0
IsReplyOf (Ok own) reply = reply ≡ own
IsReplyOf (Err error) reply = TellsRefusal error reply

-- the column is as it was, or what a step of a command leaves
abbrev pub IsKeptOrStep : {A : Type 0} → ArrayRef A → ArrayRef A → Type 0
IsKeptOrStep {A} before after = (after ≡ before) ⊎ ((command : Command A) × (reply : Answer A) × IsStep before command reply after)
