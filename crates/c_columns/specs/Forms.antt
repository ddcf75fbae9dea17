-- The forms in which commands leave columns, by the session that C passes.
use Rattle.std.specs.Prelude.{◌≡◌, true}
use Rattle.std.specs.Global.{Global}
use Rattle.column_core.specs.Kinds.{is_numbers}
use Rattle.runend_windows.specs.Cover.{IsTightCover}
use Rattle.runend_array.specs.Column.{Column, OfLeaf, OfConstant, OfLists, OfRuns, Runs, column_dtype, column_of_runs, column_rows, runs_with}
use Rattle.runend_array.specs.SessionForm.{SessionForm}
use Rattle.runend_array.specs.declared.array_ref.ArrayRef.{ArrayRef}
use Rattle.runend_commands.specs.Kept.{LeavesKept}
use Rattle.runend_commands.specs.declared.command.Answer.TheVariants.{Done}
use Rattle.runend_commands.specs.declared.command.Command.{Command}
use Rattle.runend_commands.specs.declared.command.Command.TheVariants.{Slice, At, Sum, MinMax, IsConstant, IsSorted}
use Rattle.c_columns.specs.Sessions.{IsSessionOf}
use Rattle.c_columns.specs.declared.sessions.Session.{Session}

-- the form that a command leaves where constants are kept, by its kernel where it keeps none, in a session of these
-- flags and thresholds
pub record LeavesFormIn (s : Session) (command : Command Global) (c d : ArrayRef Global) : Type 0 where
  pub session : SessionForm
  pub set : IsSessionOf s session
  pub left : LeavesKept session c command Done d

-- runs from position 0 on that are a tight exact cover of their rows, so the least number of runs
pub record AreLeastRuns (part : Runs) : Type 0 where
  pub cover : IsTightCover (column_rows (column_of_runs part)) part.ends (column_rows part.values)
  pub offset : part.offset ≡ 0

-- where it is a run column of integers, its runs are such
abbrev pub IsLeastIfRuns : Column → Type 0
IsLeastIfRuns (OfLeaf leaf) = Unit {0}
IsLeastIfRuns (OfConstant constant) = Unit {0}
IsLeastIfRuns (OfLists lists) = Unit {0}
IsLeastIfRuns (OfRuns ends_type ends values offset count) = is_numbers (column_dtype values) ≡ true → AreLeastRuns (runs_with ends_type ends values offset count)

-- so is what a command leaves; a slice keeps the runs that there are, and a command that only answers keeps the column
abbrev pub LeavesLeast : Command Global → Column → Type 0
LeavesLeast (Slice range) after = Unit {0}
LeavesLeast (At index) after = Unit {0}
LeavesLeast Sum after = Unit {0}
LeavesLeast MinMax after = Unit {0}
LeavesLeast IsConstant after = Unit {0}
LeavesLeast (IsSorted strict) after = Unit {0}
LeavesLeast command after = IsLeastIfRuns after
