-- Fields of a message of the Protocol Buffers encoding, each in its one canonical spelling.
use Rattle.std.specs.Prelude.{◌≡◌, ℕ, ◌+◌, ◌*◌, ◌^◌, ◌<◌, List, ◌++◌, length}
use Rattle.column_fields.specs.Varint.{varint}

-- a number: a key of wire type 0, and the number
unfoldable pub number_field : ℕ → ℕ → List ℕ
number_field field n = varint (field * 8) ++ varint n

-- bytes: a key of wire type 2, how many bytes, and the bytes
unfoldable pub bytes_field : ℕ → List ℕ → List ℕ
bytes_field field bytes = varint (field * 8 + 2) ++ (varint (length bytes) ++ bytes)

-- no such field is at the front
pub record HasNoNumberField (field : ℕ) (bytes : List ℕ) : Type 0 where
  pub none : (n : ℕ) (rest : List ℕ) → n < 2 ^ 64 → bytes ≡ number_field field n ++ rest → ⊥

pub record HasNoConstantField (field n : ℕ) (bytes : List ℕ) : Type 0 where
  pub none : (rest : List ℕ) → bytes ≡ number_field field n ++ rest → ⊥

pub record HasNoBytesField (field : ℕ) (bytes : List ℕ) : Type 0 where
  pub none : (content rest : List ℕ) → length content < 2 ^ 64 → bytes ≡ bytes_field field content ++ rest → ⊥

-- the bytes are not such a field
pub record IsNoBytesField (field : ℕ) (bytes : List ℕ) : Type 0 where
  pub none : (content : List ℕ) → length content < 2 ^ 64 → bytes ≡ bytes_field field content → ⊥
