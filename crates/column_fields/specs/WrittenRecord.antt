-- The written form of a record.
use Rattle.std.specs.Prelude.{◌≡◌, ℕ, ◌*◌, List, [], ◌++◌, zero, suc, pos}
use Rattle.column_fields.specs.Varint.{IsShortestVarint}
use Rattle.column_fields.specs.declared.metadata.RunEndMetadata.{RunEndMetadata}

-- 0 is left out; another value is a key of wire type 0 and the value, each a shortest varint
abbrev pub IsWrittenField : ℕ → List ℕ → ℕ → Type 0
IsWrittenField number bytes zero = bytes ≡ []
IsWrittenField number bytes (suc n) = (key : List ℕ) × (payload : List ℕ) × IsShortestVarint key (number * 8) × IsShortestVarint payload (suc n) × (bytes ≡ key ++ payload)

-- the fields 1, 2 and 3 in this order
pub record IsWritten (bytes : List ℕ) (m : RunEndMetadata) : Type 0 where
  pub ends_type : ℕ
  pub ends_type_is : m.ends_ptype ≡ pos ends_type
  pub first : List ℕ
  pub second : List ℕ
  pub third : List ℕ
  pub parts : bytes ≡ first ++ second ++ third
  pub ends_type_written : IsWrittenField 1 first ends_type
  pub runs_written : IsWrittenField 2 second m.num_runs
  pub offset_written : IsWrittenField 3 third m.offset
