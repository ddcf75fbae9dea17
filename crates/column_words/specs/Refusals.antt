-- Words of refusals.
use Rattle.std.specs.Prelude.{◌++◌, [], ◌∷◌, ℕ, List, codes}
use Rattle.std.specs.Fmt.{decimal, signed_decimal}
use Rattle.column_base.specs.Error.{number_of}
use Rattle.column_base.specs.declared.error.VortexError.{VortexError}
use Rattle.column_base.specs.declared.error.VortexError.TheVariants.{LengthsDiffer, NoRunsWindow, EndsNotStrict, FirstEndBelowOffset, LastEndBelowWindow, OutOfBounds, BadRange, MaskLength, ColumnLength, EndsTypeNumber, RunCount}

-- the words, each after a space
abbrev pub behind_spaces : List (List ℕ) → List ℕ
behind_spaces [] = []
behind_spaces (word ∷ words) = codes " " ++ word ++ behind_spaces words

-- the words of an error's fields, in the order in which they are declared
abbrev pub field_words : VortexError → List (List ℕ)
field_words (LengthsDiffer ends values) = decimal ends ∷ decimal values ∷ []
field_words (NoRunsWindow offset count) = decimal offset ∷ decimal count ∷ []
field_words (EndsNotStrict run) = decimal run ∷ []
field_words (FirstEndBelowOffset end offset) = decimal end ∷ decimal offset ∷ []
field_words (LastEndBelowWindow end required) = decimal end ∷ decimal required ∷ []
field_words (OutOfBounds index count) = signed_decimal index ∷ decimal count ∷ []
field_words (BadRange start stop count) = decimal start ∷ decimal stop ∷ decimal count ∷ []
field_words (MaskLength mask count) = decimal mask ∷ decimal count ∷ []
field_words (ColumnLength left right) = decimal left ∷ decimal right ∷ []
field_words (EndsTypeNumber number) = decimal number ∷ []
field_words (RunCount stated found) = decimal stated ∷ decimal found ∷ []
field_words error = []

-- the text of a refusal: its number, and its fields
abbrev pub refusal_text : VortexError → List ℕ
refusal_text error = codes "refused" ++ behind_spaces (decimal (number_of error) ∷ field_words error)
