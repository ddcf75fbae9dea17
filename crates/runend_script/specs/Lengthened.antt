-- Columns to which rows are appended.
use Rattle.std.specs.Prelude.{◌≡◌, ◌⊎◌, ◌++◌, ℕ, ℤ, List, Option, Some, None, Result, Ok, Err, length, map, option_map, replicate}
use Rattle.column_base.specs.declared.dtype.DType.{DType}
use Rattle.column_base.specs.declared.dtype.Nullability.{Nullability}
use Rattle.column_base.specs.declared.dtype.DType.TheVariants as column
use Rattle.column_base.specs.declared.error.VortexError.{VortexError}
use Rattle.column_base.specs.declared.error.VortexError.TheVariants.{OutOfMemory}
use Rattle.column_core.specs.ScalarForm.{ScalarForm}
use Rattle.column_core.specs.Value.{Number, Single, Value}
use Rattle.runend_array.specs.Array.{column_of, dtype_of, rows}
use Rattle.runend_array.specs.Column.{Runs, column_of_runs}
use Rattle.runend_array.specs.declared.array_ref.ArrayRef.{ArrayRef}
use Rattle.runend_builder.specs.Builder.{append_fault, scalar_row}
use Rattle.runend_builder.specs.Encoded.{IsEncodedRows}
use Rattle.runend_script.specs.Rows.{ReadsRows}
use Rattle.runend_script.specs.Scalars.{ReadsScalar}
use Rattle.runend_script.specs.declared.command.RowWords.{RowWords}
use Rattle.runend_script.specs.declared.command.RowWords.TheVariants.{Integers}
use Rattle.runend_script.specs.declared.scripts.Reply.{Reply}
use Rattle.runend_script.specs.declared.scripts.Reply.TheVariants.{Bad, Done}

-- the array is the encoding of these rows, in this type
abbrev pub IsEncodingOf : {A : Type 0} → List (Option Value) → DType → ArrayRef A → Type 0
IsEncodingOf all dtype array = (runs : Runs) × (column_of array ≡ column_of_runs runs) × IsEncodedRows all dtype runs

-- the array is the encoding, in the type before, of the rows before followed by these
abbrev pub IsLengthened : {A : Type 0} → ArrayRef A → List (Option Value) → ArrayRef A → Type 0
IsLengthened before more after = IsEncodingOf (rows before ++ more) (dtype_of before) after

-- why more rows of a type are refused, if they are
abbrev pub lengthening_fault : {A : Type 0} → ArrayRef A → DType → ℕ → Option VortexError
lengthening_fault before dtype count = append_fault (dtype_of before) dtype (length (rows before)) count

-- rows of integers, as values
abbrev pub integer_rows : List (Option ℤ) → List (Option Value)
integer_rows numbers = map (option_map Single) (map (option_map Number) numbers)

-- the rows that the words mean in a type of integers, one for one, or none exactly where a word does not mean a row of
-- it
abbrev pub ListsRows : DType → List (List ℕ) → Option (List (Option ℤ)) → Type 0
ListsRows (column.Primitive ptype nullability) words numbers = ReadsRows (Integers ptype) nullability words numbers
ListsRows dtype words None = Unit {0}
ListsRows dtype words (Some numbers) = ⊥

-- the array has the rows that the words mean, or there is none exactly where a word does not mean a row
abbrev pub ListsArray : {A : Type 0} → RowWords → Nullability → List (List ℕ) → Option (ArrayRef A) → Type 0
ListsArray reading nullability words None = ReadsRows reading nullability words None
ListsArray reading nullability words (Some array) = (numbers : List (Option ℤ)) × ReadsRows reading nullability words (Some numbers) × (rows array ≡ integer_rows numbers)

-- what comes of an `append` line: bad, and the column stays, where a word does not mean a row of its type; done, and
-- the column is the encoding of its rows followed by those of the words; or refused, as a builder refuses these rows,
-- or for memory
abbrev pub IsAppended : {A : Type 0} → ArrayRef A → List (List ℕ) → Result (Reply A) VortexError → ArrayRef A → Type 0
IsAppended before words (Ok Bad) after = ListsRows (dtype_of before) words None × (after ≡ before)
IsAppended before words (Ok Done) after =
    (more : List (Option ℤ)) × ListsRows (dtype_of before) words (Some more) × (lengthening_fault before (dtype_of before) (length more) ≡ None)
    × IsLengthened before (integer_rows more) after
IsAppended before words (Ok reply) after = ⊥
IsAppended before words (Err error) after =
    (error ≡ OutOfMemory) ⊎ ((more : List (Option ℤ)) × ListsRows (dtype_of before) words (Some more) × (lengthening_fault before (dtype_of before) (length more) ≡ Some error))

-- what comes of a `repeat` line, in the same way: the word means a scalar, which each of the new rows shows
abbrev pub IsRepeated : {A : Type 0} → ArrayRef A → List ℕ → ℕ → Result (Reply A) VortexError → ArrayRef A → Type 0
IsRepeated before word count (Ok Bad) after = ReadsScalar (dtype_of before) word None × (after ≡ before)
IsRepeated before word count (Ok Done) after =
    (value : ScalarForm) × ReadsScalar (dtype_of before) word (Some value) × (lengthening_fault before value.dtype count ≡ None)
    × IsLengthened before (replicate count (scalar_row value)) after
IsRepeated before word count (Ok reply) after = ⊥
IsRepeated before word count (Err error) after =
    (error ≡ OutOfMemory) ⊎ ((value : ScalarForm) × ReadsScalar (dtype_of before) word (Some value) × (lengthening_fault before value.dtype count ≡ Some error))
