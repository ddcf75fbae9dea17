-- Commands one after another.
use Rattle.std.specs.Prelude.{◌≡◌, List, [], ◌∷◌, Some, None}
use Rattle.column_base.specs.declared.error.VortexError.{VortexError}
use Rattle.column_base.specs.declared.error.VortexError.TheVariants.{OutOfMemory}
use Rattle.runend_array.specs.Array.{dtype_of, rows}
use Rattle.runend_array.specs.declared.array_ref.ArrayRef.{ArrayRef}
use Rattle.runend_commands.specs.declared.command.Command.{Command}
use Rattle.runend_commands.specs.declared.command.Answer.{Answer}
use Rattle.runend_commands.specs.declared.command.Answer.TheVariants.{Refused}
use Rattle.runend_commands.specs.Refusal.{refusal}
use Rattle.runend_commands.specs.Meaning.{dtype_after, rows_after, plain, IsAnswer, LeavesForm}

-- the command is not refused: rows, type, answer and form are those that it is defined to have
pub record IsDone {A : Type 0} (before : ArrayRef A) (command : Command A) (answer : Answer A) (after : ArrayRef A) : Type 0 where
  pub accepted : refusal (plain before) command ≡ None
  pub rows : rows after ≡ rows_after (plain before) command
  pub dtype : dtype_of after ≡ dtype_after (plain before) command
  pub answered : IsAnswer (plain before) command answer
  pub form : LeavesForm before command after

-- one command: memory was refused, or the command is refused as its definition says, and either way the array is the
-- one before, form included; or it is done
pub data IsStep {A : Type 0} (before : ArrayRef A) (command : Command A) (answer : Answer A) (after : ArrayRef A) : Type 0 where
  IsShort : answer ≡ Refused OutOfMemory → after ≡ before → IsStep before command answer after
  IsRefused : (error : VortexError) → refusal (plain before) command ≡ Some error → answer ≡ Refused error → after ≡ before → IsStep before command answer after
  Does : IsDone before command answer after → IsStep before command answer after

-- a chain of steps of whatever kind: as many replies as requests, and each step from where the one before it led
abbrev pub IsChain : {State Request Reply : Type 0} → (State → Request → Reply → State → Type 0) → State → List Request → List Reply → State → Type 0
IsChain Step before [] [] after = after ≡ before
IsChain Step before (request ∷ requests) (reply ∷ replies) after = (between : _) × Step before request reply between × IsChain Step between requests replies after
IsChain Step before [] (reply ∷ replies) after = ⊥
IsChain Step before (request ∷ requests) [] after = ⊥

-- a run of the commands
abbrev pub IsExecution : {A : Type 0} → ArrayRef A → List (Command A) → List (Answer A) → ArrayRef A → Type 0
IsExecution before commands answers after = IsChain IsStep before commands answers after
