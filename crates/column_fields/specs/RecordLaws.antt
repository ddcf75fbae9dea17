-- The laws of the metadata record.
use Rattle.std.specs.Prelude.{◌≡◌, ℕ, List}
use Rattle.column_fields.specs.EndsType.{IsEndsTypeNumber}
use Rattle.column_fields.specs.RecordFields.{Field, Spells, Means}
use Rattle.column_fields.specs.WrittenRecord.{IsWritten}
use Rattle.column_fields.specs.declared.metadata.RunEndMetadata.{RunEndMetadata}

-- bytes spell at most one list of fields
abbrev pub SpellingIsUnique : Type 0
SpellingIsUnique = (bytes : List ℕ) (fields others : List Field) → Spells bytes fields → Spells bytes others → fields ≡ others

-- bytes mean at most one record
abbrev pub MeaningIsUnique : Type 0
MeaningIsUnique = (bytes : List ℕ) (m n : RunEndMetadata) → Means bytes m → Means bytes n → m ≡ n

-- the written form of a record whose type of ends is known spells fields that mean the record
abbrev pub WrittenFormMeansItsRecord : Type 0
WrittenFormMeansItsRecord = (bytes : List ℕ) (m : RunEndMetadata) → IsEndsTypeNumber m.ends_ptype → IsWritten bytes m → Means bytes m

-- a record has at most one written form
abbrev pub WrittenFormIsUnique : Type 0
WrittenFormIsUnique = (bytes others : List ℕ) (m : RunEndMetadata) → IsWritten bytes m → IsWritten others m → bytes ≡ others
