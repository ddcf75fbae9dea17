-- What a step leaves as it was.
use Rattle.std.proofs.Common.{◌≡◌}
use Rattle.std.specs.Prelude.{◌≢◌}
use Rattle.runend_array.specs.declared.array_ref.ArrayRef.{ArrayRef}
use Rattle.runend_commands.specs.declared.command.Command.{Command}
use Rattle.runend_commands.specs.declared.command.Command.TheVariants.{At, Sum, MinMax, IsConstant, IsSorted}
use Rattle.runend_commands.specs.declared.command.Answer.{Answer}
use Rattle.runend_commands.specs.declared.command.Answer.TheVariants.{Done}
use Rattle.runend_commands.specs.Step.{IsDone, IsStep, IsShort, IsRefused, Does}

-- a command that is done, and is answered another thing than that, only looked
kept_if_looked : {A : Type 0} (before after : ArrayRef A) (command : Command A) (answer : Answer A)
    → IsDone before command answer after → answer ≢ Done → after ≡ before
kept_if_looked before after (At index) answer done other = done.form
kept_if_looked before after Sum answer done other = done.form
kept_if_looked before after MinMax answer done other = done.form
kept_if_looked before after IsConstant answer done other = done.form
kept_if_looked before after (IsSorted strict) answer done other = done.form
kept_if_looked before after command answer done other = absurd (other done.answered)

-- only a command that is answered to be done changes the array
pub kept_unless_done : {A : Type 0} (before after : ArrayRef A) (command : Command A) (answer : Answer A)
    → IsStep before command answer after → answer ≢ Done → after ≡ before
kept_unless_done before after command answer step other = elim step [
  | IsShort short kept ↦ kept
  | IsRefused error is answers kept ↦ kept
  | Does done ↦ kept_if_looked before after command answer done other
]
