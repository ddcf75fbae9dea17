-- What the calls of commands leave.
use Rattle.std.specs.Prelude.{◌≡◌, ◌⊎◌, ℕ, List, None, Result, Ok, Err}
use Rattle.std.specs.Global.{Global}
use Rattle.column_base.specs.declared.error.VortexError.{VortexError}
use Rattle.column_base.specs.declared.error.VortexError.TheVariants.{OutOfMemory, TypeMismatch}
use Rattle.column_ops.specs.declared.operator.CompareOperator.{CompareOperator}
use Rattle.runend_array.specs.Column.{Column, column_rows, IsFlat}
use Rattle.runend_array.specs.Array.{column_of, rows, dtype_of}
use Rattle.runend_array.specs.declared.array_ref.ArrayRef.{ArrayRef}
use Rattle.runend_commands.specs.declared.command.Command.{Command}
use Rattle.runend_commands.specs.declared.command.Command.TheVariants.{CompareScalar, FillNull, Encode, Decode}
use Rattle.runend_commands.specs.Refusal.{refusal}
use Rattle.runend_commands.specs.Meaning.{plain, rows_after, dtype_after, IsTightColumn}
use Rattle.c_columns.specs.Forms.{LeavesFormIn, LeavesLeast}
use Rattle.c_columns.specs.Values.{scalar_in}
use Rattle.c_columns.specs.declared.row_value.RowValue.{RowValue}
use Rattle.c_columns.specs.declared.sessions.Session.{Session}

-- the form that a command promises of what it leaves, whatever the session
abbrev pub LeavesShape : Column → Command Global → Column → Type 0
LeavesShape before Encode after = IsTightColumn (column_rows before) after
LeavesShape before Decode after = IsFlat after
LeavesShape before command after = Unit {0}

-- what a command leaves of a column in a session: it is not refused, and rows, type and form are those that it is defined to have
pub record Leaves (s : Session) (command : Command Global) (c d : ArrayRef Global) : Type 0 where
  pub accepted : refusal (plain c) command ≡ None
  pub rows : rows d ≡ rows_after (plain c) command
  pub dtype : dtype_of d ≡ dtype_after (plain c) command
  pub shape : LeavesShape (column_of c) command (column_of d)
  pub form : LeavesFormIn s command c d
  pub least : LeavesLeast command (column_of d)

-- the command was built of a scalar that is passed, which is a value of the type; or it is none, or memory was refused
abbrev pub IsPassedBuilt : Type 0 → Command Global → Result (Command Global) VortexError → Type 0
IsPassedBuilt Given command (Ok built) = (built ≡ command) × Given
IsPassedBuilt Given command (Err error) = (error ≡ OutOfMemory) ⊎ ((error ≡ TypeMismatch) × (¬ Given))

-- the comparison with the scalar that is passed, in the type of the column
abbrev pub compare_with_passed : CompareOperator → RowValue → List ℕ → ArrayRef Global → Command Global
compare_with_passed operator value text c = CompareScalar operator (scalar_in (dtype_of c) value.kind value text)

-- the filling of nulls with it
abbrev pub fill_with_passed : RowValue → List ℕ → ArrayRef Global → Command Global
fill_with_passed value text c = FillNull (scalar_in (dtype_of c) value.kind value text)
