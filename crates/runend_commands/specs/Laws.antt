-- A law of runs of commands.
use Rattle.std.specs.Prelude.{◌≡◌, ◌≢◌, List, All}
use Rattle.column_base.specs.declared.error.VortexError.TheVariants.{OutOfMemory}
use Rattle.runend_array.specs.declared.array_ref.ArrayRef.{ArrayRef}
use Rattle.runend_commands.specs.declared.command.Command.{Command}
use Rattle.runend_commands.specs.declared.command.Answer.{Answer}
use Rattle.runend_commands.specs.declared.command.Answer.TheVariants.{Refused}
use Rattle.runend_commands.specs.Meaning.{plain}
use Rattle.runend_commands.specs.Step.{IsExecution}

-- no answer says that memory was refused
abbrev pub AreNeverShort : {A : Type 0} → List (Answer A) → Type 0
AreNeverShort answers = All (λ answer. answer ≢ Refused OutOfMemory) answers

-- two runs of the same commands, from equal plain columns and never out of memory, have equal answers and end in equal
-- plain columns
abbrev pub RunsAgree : Type 0 → Type 0
RunsAgree A = (first second first_after second_after : ArrayRef A) (commands : List (Command A)) (answers others : List (Answer A))
    → plain first ≡ plain second → IsExecution first commands answers first_after → IsExecution second commands others second_after
    → AreNeverShort answers → AreNeverShort others → (answers ≡ others) × (plain first_after ≡ plain second_after)
