-- The lines of the answers to questions about a column of floats.
use Rattle.std.specs.Prelude.{◌≡◌, ◌≢◌, ◌++◌, [], ◌∷◌, ℕ, List, Option, Some, None, Result, Ok, Err, MatchOption, codes, length, map, slice_get}
use Rattle.std.specs.List.{AllZip}
use Rattle.std.specs.Option.{option_or}
use Rattle.std.specs.String.{string_bytes}
use Rattle.column_base.specs.declared.error.VortexError.{VortexError}
use Rattle.column_core.specs.Refusal.{IsErrorFor, row_fault}
use Rattle.column_floats.specs.Extremes.{AreExtremes, NoneCounts}
use Rattle.column_floats.specs.FloatRows.{floats_of}
use Rattle.column_floats.specs.Formats.{floats_fault, format_of}
use Rattle.column_sums.specs.SumAnswer.{number_in}
use Rattle.column_words.specs.Floats.{IsWrittenFloat}
use Rattle.column_words.specs.Refusals.{behind_spaces}
use Rattle.float_bits.specs.declared.formats.FloatFormat.{FloatFormat}
use Rattle.float_bits.specs.declared.formats.FloatFormat.TheVariants.{F64}
use Rattle.float_bits.specs.Format.{quiet_nan}
use Rattle.float_bits.specs.Number.{IsNan}
use Rattle.float_bits.specs.Sum.{IsRoundedSum}
use Rattle.runend_array.specs.Array.{dtype_of, rows}
use Rattle.runend_array.specs.declared.array_ref.ArrayRef.{ArrayRef}
use Rattle.runend_floats.specs.Sums.{tally_of_keys}
use Rattle.runend_script.specs.declared.command.FloatQuestion.{FloatQuestion}
use Rattle.runend_script.specs.declared.command.FloatQuestion.TheVariants.{Rows, At, Sum, MinMax}
use Rattle.runend_script.specs.declared.scripts.Reply.{Reply}
use Rattle.runend_script.specs.declared.scripts.Reply.TheVariants.{Line}

-- the word of a row of floats: `null`, `nan` for the NaN of that name, and else the word that is written for the float
abbrev pub IsRowText : FloatFormat → Option ℕ → List ℕ → Type 0
IsRowText f None word = word ≡ codes "null"
IsRowText f (Some bits) word = (bits ≡ quiet_nan f → word ≡ codes "nan") × (bits ≢ quiet_nan f → IsWrittenFloat f bits word)

-- a space and the word of a row of floats are put after a text
abbrev pub IsPushed : FloatFormat → Option ℕ → List ℕ → List ℕ → Type 0
IsPushed f float before after = (word : List ℕ) × IsRowText f float word × (after ≡ before ++ behind_spaces (word ∷ []))

-- the line has this name and the words of these rows of floats
abbrev pub IsLineOfFloats : FloatFormat → List ℕ → List (Option ℕ) → List ℕ → Type 0
IsLineOfFloats f name floats line = (words : List (List ℕ)) × AllZip (IsRowText f) floats words × (line ≡ name ++ behind_spaces words)

-- the float of the row, which is there
abbrev pub IsLineOfRow : FloatFormat → Option (Option ℕ) → List ℕ → Type 0
IsLineOfRow f None line = ⊥
IsLineOfRow f (Some float) line = IsLineOfFloats f (codes "value") (float ∷ []) line

-- the least and the greatest number, or that there is none
abbrev pub IsLineOfEnds : FloatFormat → Option (ℕ × ℕ) → List ℕ → Type 0
IsLineOfEnds f None line = line ≡ codes "minmax none"
IsLineOfEnds f (Some ends) line = IsLineOfFloats f (codes "minmax") (Some ends.0 ∷ Some ends.1 ∷ []) line

-- the line answers the question about the column: all rows; one row; the exact sum, rounded once to 64 bits; or the
-- least and the greatest number, where neither null nor a NaN is one
abbrev pub IsFloatAnswer : {A : Type 0} → FloatQuestion → ArrayRef A → List ℕ → Type 0
IsFloatAnswer Rows column line = IsLineOfFloats (format_of (dtype_of column)) (codes "rows") (floats_of (dtype_of column) (rows column)) line
IsFloatAnswer (At index) column line = IsLineOfRow (format_of (dtype_of column)) (slice_get (floats_of (dtype_of column) (rows column)) index) line
IsFloatAnswer Sum column line =
    (bits : ℕ) × IsRoundedSum (tally_of_keys (format_of (dtype_of column)) (map number_in (rows column))) bits × IsLineOfFloats F64 (codes "sum") (Some bits ∷ []) line
IsFloatAnswer MinMax column line =
    (found : Option (ℕ × ℕ))
    × MatchOption found (NoneCounts (λ bits. ¬ IsNan (format_of (dtype_of column)) bits) (format_of (dtype_of column)) (map number_in (rows column)))
    (λ ends. AreExtremes (λ bits. ¬ IsNan (format_of (dtype_of column)) bits) (format_of (dtype_of column)) (map number_in (rows column)) ends.0 ends.1)
    × IsLineOfEnds (format_of (dtype_of column)) found line

-- why the question is refused, if it is: the column is not one of floats, or has no such row
abbrev pub question_fault : {A : Type 0} → FloatQuestion → ArrayRef A → Option VortexError
question_fault (At index) column = option_or (floats_fault (dtype_of column)) (row_fault index (length (rows column)))
question_fault question column = floats_fault (dtype_of column)

-- the reply is the line of the answer, or the question is refused, as its fault or for memory
abbrev pub IsFloatReply : {A : Type 0} → FloatQuestion → ArrayRef A → Result (Reply A) VortexError → Type 0
IsFloatReply question column (Ok (Line text)) = IsFloatAnswer question column (string_bytes text)
IsFloatReply question column (Ok reply) = ⊥
IsFloatReply question column (Err error) = IsErrorFor (question_fault question column) error
