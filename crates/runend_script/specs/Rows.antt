-- The numbers and rows that words mean.
use Rattle.std.specs.Prelude.{◌≡◌, ◌⊎◌, ◌++◌, ℕ, ℤ, Bool, true, false, List, Option, Some, None, All, codes}
use Rattle.std.specs.List.{AllZip}
use Rattle.column_base.specs.Types.{HasNumber}
use Rattle.column_base.specs.declared.dtype.PType.{PType}
use Rattle.column_base.specs.declared.dtype.Nullability.{Nullability}
use Rattle.column_base.specs.declared.dtype.Nullability.TheVariants.{Nullable}
use Rattle.column_base.specs.Numbers.{numbers, ptype_of}
use Rattle.column_base.specs.Validity.{form_of}
use Rattle.column_core.specs.PrimitiveForm.{optional_numbers, primitive_with}
use Rattle.column_floats.specs.Formats.{keys_of_format}
use Rattle.column_words.specs.Floats.{IsFloatWord}
use Rattle.column_words.specs.Numbers.{IsWholeNumber, whole_number}
use Rattle.float_bits.specs.TotalOrder.{total_key}
use Rattle.runend_script.specs.declared.command.RowWords.{RowWords}
use Rattle.runend_script.specs.declared.command.RowWords.TheVariants.{Floats, Integers}
use Rattle.runend_script.specs.declared.values.ParsedRows.{ParsedRows}

-- the word means a number that the type has
abbrev pub IsNumberOf : PType → List ℕ → Type 0
IsNumberOf ptype word = IsWholeNumber word × HasNumber ptype (whole_number word)

-- the type in which the rows that the words mean are stored
abbrev pub stored_ptype : RowWords → PType
stored_ptype (Integers ptype) = ptype
stored_ptype (Floats f) = keys_of_format f

-- the word means a row of this number: an integer of the type, or the float with this key
abbrev pub StandsFor : RowWords → List ℕ → ℤ → Type 0
StandsFor (Integers ptype) word number = IsNumberOf ptype word × (number ≡ whole_number word)
StandsFor (Floats f) word number = (bits : ℕ) × IsFloatWord f word bits × (number ≡ total_key f bits)

-- a value of the number that the word means, exactly where it means one
abbrev pub ReadsNumber : {S : Type 0} → (S → ℤ) → RowWords → List ℕ → Option S → Type 0
ReadsNumber number reading word None = (z : ℤ) → ¬ (StandsFor reading word z)
ReadsNumber number reading word (Some x) = StandsFor reading word (number x)

-- the word is `null` and rows may be null
abbrev pub IsNullWord : Nullability → List ℕ → Type 0
IsNullWord nullability word = (nullability ≡ Nullable) × (word ≡ codes "null")

-- the row that the word means: null by that word where rows may be null, and otherwise its number
abbrev pub ReadsValue : {S : Type 0} → (S → ℤ) → RowWords → Nullability → List ℕ → Option (Option S) → Type 0
ReadsValue number reading nullability word None = ¬ (IsNullWord nullability word) × ((z : ℤ) → ¬ (StandsFor reading word z))
ReadsValue number reading nullability word (Some None) = IsNullWord nullability word
ReadsValue number reading nullability word (Some (Some x)) = StandsFor reading word (number x)

-- the row that the word means
abbrev pub IsRowOf : RowWords → Nullability → List ℕ → Option ℤ → Type 0
IsRowOf reading nullability word None = IsNullWord nullability word
IsRowOf reading nullability word (Some number) = StandsFor reading word number

-- the word means a row: null where rows may be null, or a number
abbrev pub IsRowWord : RowWords → Nullability → List ℕ → Type 0
IsRowWord reading nullability word = (row : Option ℤ) × IsRowOf reading nullability word row

-- the rows that the words mean, one for one, or none exactly where a word does not mean a row
abbrev pub ReadsRows : RowWords → Nullability → List (List ℕ) → Option (List (Option ℤ)) → Type 0
ReadsRows reading nullability words None = ¬ (All (IsRowWord reading nullability) words)
ReadsRows reading nullability words (Some rows) = AllZip (IsRowOf reading nullability) words rows

-- the rows that are listed
abbrev pub parsed_rows : {A : Type 0} → ParsedRows A → List (Option ℤ)
parsed_rows listed = optional_numbers (primitive_with (ptype_of listed.numbers) (numbers listed.numbers) (form_of listed.validity))

-- the rows that the words mean are appended to the rows before, or a word does not mean a row
abbrev pub PushesRows : RowWords → Nullability → List (List ℕ) → List (Option ℤ) → Bool → List (Option ℤ) → Type 0
PushesRows reading nullability words before true after = (rows : List (Option ℤ)) × AllZip (IsRowOf reading nullability) words rows × (after ≡ before ++ rows)
PushesRows reading nullability words before false after = ¬ (All (IsRowWord reading nullability) words)
