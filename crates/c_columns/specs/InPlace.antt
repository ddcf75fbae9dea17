-- Questions that never run out of memory, since they read the rows of a column where they are.
use Rattle.std.specs.Prelude.{◌≢◌, ℤ, pos, Option, Some, None}
use Rattle.std.specs.Global.{Global}
use Rattle.column_base.specs.declared.error.VortexError.TheVariants.{OutOfMemory}
use Rattle.column_base.specs.Error.{number_of}
use Rattle.runend_array.specs.Array.{column_of, dtype_of}
use Rattle.runend_array.specs.declared.array_ref.ArrayRef.{ArrayRef}
use Rattle.runend_array.specs.declared.session.Kernel.{Kernel}
use Rattle.runend_array.specs.declared.session.Kernel.TheVariants.{MinMax}
use Rattle.runend_commands.specs.Extremes.{HasBytes}
use Rattle.c_columns.specs.Sessions.{IsReadInPlaceIn}
use Rattle.c_columns.specs.declared.sessions.Session.{Session}

-- where the kernel reads the rows of the handle's column where they are, the call does not end with the number of
-- `OutOfMemory`
abbrev pub IsNeverShortOn : Session → Kernel → Option (ArrayRef Global) → ℤ → Type 0
IsNeverShortOn s kernel None code = Unit {0}
IsNeverShortOn s kernel (Some c) code = IsReadInPlaceIn s kernel (column_of c) → code ≢ pos (number_of OutOfMemory)

-- nor does one that copies the least or the greatest row, where no row is a text or bytes, whose copy takes memory
abbrev pub IsExtremeNeverShortOn : Session → Option (ArrayRef Global) → ℤ → Type 0
IsExtremeNeverShortOn s None code = Unit {0}
IsExtremeNeverShortOn s (Some c) code = ¬ HasBytes (dtype_of c) → IsNeverShortOn s MinMax (Some c) code
