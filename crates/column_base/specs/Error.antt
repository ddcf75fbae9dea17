-- The number of an error, as the documents of the crate and the program's answers give it.
use Rattle.std.specs.Prelude.{ℕ}
use Rattle.column_base.specs.declared.error.VortexError.{VortexError}
use Rattle.column_base.specs.declared.error.VortexError.TheVariants.{EndsNotUnsigned, LengthsDiffer, NoRunsWindow, EndsNotStrict, WindowOverflow, FirstEndBelowOffset, LastEndBelowWindow, OutOfBounds, BadRange, MaskLength, ColumnLength, TypeMismatch, Unsupported, CastOutOfRange, NullNotAllowed, NullFill, BadMetadata, EndsTypeNumber, RunCount, OnlyPrimitive, OutOfMemory}

-- errors are numbered from 1 to 21, in the order in which they are declared
abbrev pub number_of : VortexError → ℕ
number_of EndsNotUnsigned = 1
number_of (LengthsDiffer ends values) = 2
number_of (NoRunsWindow offset count) = 3
number_of (EndsNotStrict run) = 4
number_of WindowOverflow = 5
number_of (FirstEndBelowOffset end offset) = 6
number_of (LastEndBelowWindow end required) = 7
number_of (OutOfBounds index count) = 8
number_of (BadRange start stop count) = 9
number_of (MaskLength mask count) = 10
number_of (ColumnLength left right) = 11
number_of TypeMismatch = 12
number_of Unsupported = 13
number_of CastOutOfRange = 14
number_of NullNotAllowed = 15
number_of NullFill = 16
number_of BadMetadata = 17
number_of (EndsTypeNumber number) = 18
number_of (RunCount stated found) = 19
number_of OnlyPrimitive = 20
number_of OutOfMemory = 21
