-- What a message of runs ends with: the row at which the column begins, the type of the ends, the run lengths, and the
-- message of the values.
use Rattle.std.specs.Prelude.{◌≡◌, ℕ, ◌^◌, ◌<◌, List, ◌++◌, length}
use Rattle.column_base.specs.declared.dtype.PType.{PType}
use Rattle.column_fields.specs.Field.{number_field, bytes_field}
use Rattle.column_fields.specs.Types.{type_number}

unfoldable pub run_fields : ℕ → PType → List ℕ → List ℕ → List ℕ
run_fields offset ends_type lengths values =
    number_field 8 offset ++ (number_field 9 (type_number ends_type) ++ (bytes_field 10 lengths ++ bytes_field 11 values))

-- the bytes are those fields of no runs
pub record AreNoRunFields (bytes : List ℕ) : Type 0 where
  pub none : (offset : ℕ) (ends_type : PType) (lengths values : List ℕ) → offset < 2 ^ 64 → length lengths < 2 ^ 64 → length values < 2 ^ 64 → bytes ≡ run_fields offset ends_type lengths values → ⊥
