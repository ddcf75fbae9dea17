-- A record as a list of fields, and what it means.
use Rattle.std.specs.Prelude.{◌≡◌, ℕ, ◌+◌, ◌*◌, ◌^◌, ◌<◌, ◌≤◌, List, [], ◌∷◌, ◌++◌, length, map, filter, ◌==◌, pos, unwrap_or, Option, None, Some}
use Rattle.std.specs.List.{last_or}
use Rattle.column_fields.specs.Spelling.{Begins}
use Rattle.column_fields.specs.Varint.{IsVarint}
use Rattle.column_fields.specs.declared.metadata.RunEndMetadata.{RunEndMetadata}

-- what a field carries: a number, or bytes that are skipped
pub data Payload : Type 0 where
  varint : ℕ → Payload
  eight_bytes : List ℕ → Payload
  delimited : List ℕ → Payload
  four_bytes : List ℕ → Payload

pub record Field : Type 0 where
  pub number : ℕ
  pub payload : Payload

-- the wire type of a payload; groups, which have the wire types 3 and 4, are none
abbrev pub wire_type : Payload → ℕ
wire_type (varint n) = 0
wire_type (eight_bytes bytes) = 1
wire_type (delimited bytes) = 2
wire_type (four_bytes bytes) = 5

-- a number is spelt by a varint, and bytes by themselves, with a varint of their number in front where it is not fixed
abbrev pub SpellsPayload : List ℕ → Payload → Type 0
SpellsPayload spelling (varint n) = IsVarint spelling n
SpellsPayload spelling (eight_bytes bytes) = (spelling ≡ bytes) × (length bytes ≡ 8)
SpellsPayload spelling (delimited bytes) = (count : List ℕ) × IsVarint count (length bytes) × (spelling ≡ count ++ bytes)
SpellsPayload spelling (four_bytes bytes) = (spelling ≡ bytes) × (length bytes ≡ 4)

-- the number of the key of a field
abbrev pub key_of : Field → ℕ
key_of field = field.number * 8 + wire_type field.payload

-- a key below 2^32 and then the payload; no field has the number 0, and the fields 1 to 3 are numbers
pub record SpellsField (spelling : List ℕ) (field : Field) : Type 0 where
  pub key : List ℕ
  pub payload : List ℕ
  pub parts : spelling ≡ key ++ payload
  pub key_spelt : IsVarint key (key_of field)
  pub key_fits : key_of field < 2 ^ 32
  pub numbered : 0 < field.number
  pub known : field.number ≤ 3 → wire_type field.payload ≡ 0
  pub payload_spelt : SpellsPayload payload field.payload

-- no bytes spell no fields; a field, and then bytes that spell the others, spell the field and the others
abbrev pub Spells : List ℕ → List Field → Type 0
Spells bytes [] = bytes ≡ []
Spells bytes (field ∷ fields) = (front : List ℕ) × (rest : List ℕ) × (bytes ≡ front ++ rest) × SpellsField front field × Spells rest fields

-- a spelling of a payload of this wire type
pub record IsPayload (wire : ℕ) (spelling : List ℕ) (payload : Payload) : Type 0 where
  pub wired : wire_type payload ≡ wire
  pub spelt : SpellsPayload spelling payload

-- the number that a payload carries, and none where it carries bytes
abbrev pub number_in : Payload → Option ℕ
number_in (varint n) = Some n
number_in (eight_bytes bytes) = None
number_in (delimited bytes) = None
number_in (four_bytes bytes) = None

-- the number that a field carries, 0 where it carries bytes
abbrev pub value_of : Field → ℕ
value_of field = unwrap_or (number_in field.payload) 0

-- bytes begin with a field of this number that carries this value, and the rest comes after it
pub record BeginsWithField (bytes : List ℕ) (number : ℕ) (value : Option ℕ) (rest : List ℕ) : Type 0 where
  pub field : Field
  pub numbered : field.number ≡ number
  pub valued : number_in field.payload ≡ value
  pub begins : Begins SpellsField bytes field rest

-- bytes begin with a payload of this wire type that carries this value, and the rest comes after it
pub record BeginsWithPayload (wire : ℕ) (bytes : List ℕ) (value : Option ℕ) (rest : List ℕ) : Type 0 where
  pub payload : Payload
  pub valued : number_in payload ≡ value
  pub begins : Begins (IsPayload wire) bytes payload rest

-- the last value of the fields with this number, 0 where there is none
abbrev pub last_value : ℕ → List Field → ℕ
last_value number fields = unwrap_or (last_or None (map value_of (filter (λ field. field.number == number) fields))) 0

-- field 1 is the type of the ends, field 2 the number of runs, and field 3 the offset
abbrev pub meaning : List Field → RunEndMetadata
meaning fields = record { ends_ptype = pos (last_value 1 fields); num_runs = last_value 2 fields; offset = last_value 3 fields }

-- some fields are spelt
abbrev pub IsRecord : List ℕ → Type 0
IsRecord bytes = (fields : List Field) × Spells bytes fields

-- fields are spelt that mean m, and their type of ends is known
abbrev pub Means : List ℕ → RunEndMetadata → Type 0
Means bytes m = (fields : List Field) × Spells bytes fields × (last_value 1 fields ≤ 3) × (m ≡ meaning fields)

-- fields are spelt with this number for the type of ends, which no type has
abbrev pub StatesUnknownEndsType : List ℕ → ℕ → Type 0
StatesUnknownEndsType bytes number = (fields : List Field) × Spells bytes fields × (3 < last_value 1 fields) × (number ≡ last_value 1 fields)

-- fields are spelt with these last values
pub record SpellsNumbers (bytes : List ℕ) (ends_type runs offset : ℕ) : Type 0 where
  pub fields : List Field
  pub spelt : Spells bytes fields
  pub ends_type_is : last_value 1 fields ≡ ends_type
  pub runs_is : last_value 2 fields ≡ runs
  pub offset_is : last_value 3 fields ≡ offset

-- no fields are spelt
pub record IsNoRecord (bytes : List ℕ) : Type 0 where
  pub none : IsRecord bytes → ⊥
