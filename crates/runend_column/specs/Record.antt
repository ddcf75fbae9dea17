-- The record of a run column.
use Rattle.std.specs.Prelude.{◌≡◌, pos, length, unwrap_or, Some}
use Rattle.column_fields.specs.EndsType.{ends_type_number}
use Rattle.column_fields.specs.declared.metadata.RunEndMetadata.{RunEndMetadata}
use Rattle.runend_array.specs.Column.{Column, Runs, IsPlainEnds, end_numbers, end_ptype}

-- the number of the type of the ends, the number of runs, and the offset; the ends of a run column are of a type that
-- has a number
abbrev pub record_of : Runs → RunEndMetadata
record_of r = record { ends_ptype = unwrap_or (ends_type_number r.ends_type) (pos 0); num_runs = length r.ends; offset = r.offset }

-- the column is one of ends, of the type that the record states
pub record HasStatedType (m : RunEndMetadata) (ends : Column) : Type 0 where
  pub plain : IsPlainEnds ends
  pub stated : ends_type_number (end_ptype ends) ≡ Some m.ends_ptype

-- the column is one of ends, of the type and the number that the record states
pub record AreStatedEnds (m : RunEndMetadata) (ends : Column) : Type 0 where
  pub typed : HasStatedType m ends
  pub counted : m.num_runs ≡ length (end_numbers ends)
