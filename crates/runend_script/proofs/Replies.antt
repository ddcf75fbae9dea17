-- What a step that is answered leaves.
use Rattle.std.proofs.Common.{◌≡◌, inr, refl, subst, Ok, Err}
use Rattle.std.specs.Prelude.{◌≢◌, IfOk, OnErr, Result}
use Rattle.column_base.specs.declared.error.VortexError.TheVariants.{OutOfMemory}
use Rattle.runend_array.specs.declared.array_ref.ArrayRef.{ArrayRef}
use Rattle.runend_commands.specs.declared.command.Command.{Command}
use Rattle.runend_commands.specs.declared.command.Answer.{Answer}
use Rattle.runend_commands.specs.declared.command.Answer.TheVariants as answer
use Rattle.runend_commands.specs.Step.{IsStep}
use Rattle.runend_commands.proofs.KeptArrays.{kept_unless_done}
use Rattle.runend_script.specs.AnswerLine.{HasLine}
use Rattle.runend_script.specs.Replies.{IsKeptOrStep, IsReplyTo, Tells}
use Rattle.runend_script.specs.declared.scripts.Reply.{Reply}
use Rattle.runend_script.specs.declared.scripts.Reply.TheVariants.{Line, Silent, Done, Bad}

-- a step that is answered another thing than that it is done leaves the column
pub kept_if_other : {A : Type 0} (before after : ArrayRef A) (command : Command A) (reply : Answer A) → IsStep before command reply after → reply ≢ answer.Done → after ≡ before
kept_if_other before after command reply step other = kept_unless_done before after command reply step other

-- a column that a reply speaks of is what a step leaves
pub step_of_reply : {A : Type 0} (before after : ArrayRef A) (command : Command A) (reply : Reply A) → IsReplyTo before command after reply → IsKeptOrStep before after
step_of_reply before after command (Line text) told = inr (command, told.0, told.1)
step_of_reply before after command Silent told = absurd told
step_of_reply before after command Done told = inr (command, answer.Done, told)
step_of_reply before after command Bad told = absurd told

-- an answer that has a line is not a refusal for memory
pub not_short : {A : Type 0} (command : Command A) (given : Answer A) → HasLine command given → given ≢ answer.Refused OutOfMemory
not_short command given has short = let lined : HasLine command (answer.Refused OutOfMemory) = subst (HasLine command) short has in lined refl

-- a reply that says the answer of a step is a reply to its command
pub reply_of_step : {A : Type 0} (before after : ArrayRef A) (command : Command A) (given : Answer A) (reply : Reply A) → IsStep before command given after → Tells command given reply → IsReplyTo before command after reply
reply_of_step before after command given (Line text) step told = (given, step, told)
reply_of_step before after command given Silent step told = absurd told
reply_of_step before after command given Done step told = subst (λ (known : Answer _). IsStep before command known after) told step
reply_of_step before after command given Bad step told = absurd told

-- a reply to a step, which may have been refused, is a reply to its command
pub replied : {A E : Type 0} (before after : ArrayRef A) (command : Command A) (given : Answer A) (result : Result (Reply A) E) → IsStep before command given after
    → IfOk result (λ reply. Tells command given reply) → IfOk result (λ reply. IsReplyTo before command after reply)
replied before after command given (Ok reply) step told = reply_of_step before after command given reply step told
replied before after command given (Err error) step told = tt

-- where no reply speaks of a step unless it is done, a refused reply leaves the column
pub kept_untold : {A E : Type 0} (before after : ArrayRef A) (command : Command A) (given : Answer A) (result : Result (Reply A) E) → IsStep before command given after
    → OnErr result (given ≢ answer.Done) → OnErr result (after ≡ before)
kept_untold before after command given (Ok reply) step undone = tt
kept_untold before after command given (Err error) step undone = kept_if_other before after command given step undone
