-- What the function of one command may come to.
use Rattle.std.specs.Prelude.{Result, Ok, Err}
use Rattle.column_base.specs.declared.error.VortexError.{VortexError}
use Rattle.column_core.specs.Refusal.{IsErrorFor}
use Rattle.runend_array.specs.SessionForm.{SessionForm}
use Rattle.runend_array.specs.declared.array_ref.ArrayRef.{ArrayRef}
use Rattle.runend_commands.specs.declared.command.Command.{Command}
use Rattle.runend_commands.specs.declared.command.Answer.TheVariants.{Done, Refused}
use Rattle.runend_commands.specs.declared.steps.StepResult.{StepResult}
use Rattle.runend_commands.specs.declared.steps.StepResult.TheVariants.{Becomes, Answers}
use Rattle.runend_commands.specs.Refusal.{refusal}
use Rattle.runend_commands.specs.Meaning.{plain}
use Rattle.runend_commands.specs.Step.{IsDone}
use Rattle.runend_commands.specs.KernelForms.{LeavesByKernel}
use Rattle.runend_commands.specs.Kept.{LeavesKept}

-- the command may come to this: to an array in the place of the one before, to an answer while the array stays, or to a
-- refusal
abbrev pub IsOutcome : {A : Type 0} → SessionForm → ArrayRef A → Command A → Result (StepResult A) VortexError → Type 0
IsOutcome session before command (Ok (Becomes after)) = IsDone before command Done after × LeavesByKernel session before command Done after
IsOutcome session before command (Ok (Answers answer)) = IsDone before command answer before × LeavesByKernel session before command answer before
IsOutcome session before command (Err error) = IsErrorFor (refusal (plain before) command) error × LeavesByKernel session before command (Refused error) before

-- the same where constants are kept
abbrev pub IsKeptOutcome : {A : Type 0} → SessionForm → ArrayRef A → Command A → Result (StepResult A) VortexError → Type 0
IsKeptOutcome session before command (Ok (Becomes after)) = IsDone before command Done after × LeavesKept session before command Done after
IsKeptOutcome session before command (Ok (Answers answer)) = IsDone before command answer before × LeavesByKernel session before command answer before
IsKeptOutcome session before command (Err error) = IsErrorFor (refusal (plain before) command) error × LeavesByKernel session before command (Refused error) before
