-- The message of a column with a logical type: version 2, the type, and the message of the column.
use Rattle.std.specs.Prelude.{◌≡◌, ◌<◌, ◌^◌, ◌+◌, ◌*◌, ℕ, List, [], ◌∷◌, ◌++◌, length}
use Rattle.std.specs.Str.{IsUtf8}
use Rattle.column_fields.specs.Varint.{varint}
use Rattle.column_fields.specs.Field.{number_field, bytes_field}
use Rattle.runend_array.specs.Column.{Column}
use Rattle.column_bytes.specs.Bytes.{column_bytes}
use Rattle.column_bytes.specs.Read.{IsMessage}

-- version 2, the name of the type, and the message of the column that stores the rows
unfoldable pub wrapped_bytes : List ℕ → List ℕ → List ℕ
wrapped_bytes format message = number_field 1 2 ++ (bytes_field 22 format ++ bytes_field 23 message)

-- a column without a logical type, which an empty name says, has its message only
abbrev pub typed_bytes : List ℕ → List ℕ → List ℕ
typed_bytes [] message = message
typed_bytes (first ∷ others) message = wrapped_bytes (first ∷ others) message

-- how many bytes are before the name
abbrev pub name_start : List ℕ → ℕ
name_start [] = 0
name_start (first ∷ others) = length (number_field 1 2) + length (varint (22 * 8 + 2) ++ varint (length (first ∷ others)))

-- the bytes are those of the column with the logical type of this name
pub record IsTypedMessage (levels : ℕ) (bytes format : List ℕ) (c : Column) : Type 0 where
  pub text : IsUtf8 format
  pub storage : IsMessage levels (column_bytes c) c
  pub spelt : bytes ≡ typed_bytes format (column_bytes c)

pub record IsNoTypedMessage (levels : ℕ) (bytes : List ℕ) : Type 0 where
  pub none : (format : List ℕ) (c : Column) → IsTypedMessage levels bytes format c → ⊥

-- the bytes have this name of a type, and these in the place of the column's message: no column has them in another way
pub record HasTypedParts (levels : ℕ) (bytes format message : List ℕ) : Type 0 where
  pub text : IsUtf8 format
  pub spelt : bytes ≡ typed_bytes format message
  pub sole : (name : List ℕ) (c : Column) → IsTypedMessage levels bytes name c → (name ≡ format) × (column_bytes c ≡ message)

-- bytes are those of at most one logical type and column
abbrev pub TypedSpellingIsUnique : Type 0
TypedSpellingIsUnique = (m n : ℕ) (bytes first second : List ℕ) (c d : Column) → length bytes < 2 ^ 64 → IsTypedMessage m bytes first c → IsTypedMessage n bytes second d → (first ≡ second) × (c ≡ d)
