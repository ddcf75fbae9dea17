-- What a builder holds, and what it refuses.
use Rattle.std.specs.Prelude.{◌≡◌, ◌≢◌, ◌+◌, ◌-◌, ◌^◌, ◌<◌, ◌++◌, ℕ, List, Bool, true, false, Option, Some, None, cond, length, nat_lt, option_map, slice_get}
use Rattle.runend_builder.specs.Encodings.{AtSeam}
use Rattle.column_base.specs.contracts.dtype.DTypePartialEq.TheImpl as dtype_eq
use Rattle.column_base.specs.declared.dtype.DType.{DType}
use Rattle.column_base.specs.declared.error.VortexError.{VortexError}
use Rattle.column_base.specs.declared.error.VortexError.TheVariants.{TypeMismatch, WindowOverflow}
use Rattle.column_core.specs.Leaf.{Leaf, single_rows}
use Rattle.column_core.specs.PrimitiveForm.{PrimitiveForm}
use Rattle.column_core.specs.ScalarForm.{ScalarForm}
use Rattle.column_core.specs.Value.{IsLists, PlainColumn, Single, Value}
use Rattle.runend_windows.specs.Cover.{IsTightCover}
use Rattle.runend_windows.specs.Ends.{ends_of}
use Rattle.runend_windows.specs.Window.{last_end, run_rows}

-- the type of the rows, and the rows so far
pub record Built : Type 0 where
  pub dtype : DType
  pub rows : List (Option Value)

-- the builder of these parts
abbrev pub built_with : DType → List (Option Value) → Built
built_with dtype rows = record { dtype = dtype; rows = rows }

-- the row that a scalar is
abbrev pub scalar_row : ScalarForm → Option Value
scalar_row scalar = option_map Single scalar.value

-- the rows that runs of these ends and values show, from the first to the last end
abbrev pub shown_rows : List ℕ → List (Option Value) → List (Option Value)
shown_rows ends values = run_rows ends values 0 (last_end ends)

-- so of flat ends and flat values
abbrev pub part_rows : PrimitiveForm → Leaf → List (Option Value)
part_rows ends values = shown_rows (ends_of ends) (single_rows values)

-- the scalar, of the type, is the last of the values, if there is one
abbrev pub IsLastOf : DType → List (Option Value) → Option ScalarForm → Type 0
IsLastOf dtype values None = length values ≡ 0
IsLastOf dtype values (Some scalar) = (scalar.dtype ≡ dtype) × (slice_get values (length values - 1) ≡ Some (scalar_row scalar))

-- the runs that a builder holds are those of the encoding of its rows, and their values are of its type, which is none of
-- lists
pub record IsBuilt (dtype : DType) (ends : List ℕ) (values : PlainColumn) (last : Option ScalarForm) : Type 0 where
  pub single : ¬ IsLists dtype
  pub typed : values.dtype ≡ dtype
  pub cover : IsTightCover (shown_rows ends values.rows) ends values.rows
  pub ended : IsLastOf dtype values.rows last

-- rows have `count` runs: as many as their only tight exact cover
pub record HasRuns (rows : List (Option Value)) (count : ℕ) : Type 0 where
  pub ends : List ℕ
  pub values : List (Option Value)
  pub cover : IsTightCover rows ends values
  pub counted : length ends ≡ count

-- rows of another type, or more rows, with those before, than a column may have
abbrev pub append_fault : DType → DType → ℕ → ℕ → Option VortexError
append_fault own dtype count more =
    cond ((dtype_eq.ghosts).eq dtype own) (cond (nat_lt (count + more) (2 ^ 64)) None (Some WindowOverflow)) (Some TypeMismatch)

-- whether the last value and the first of a part are equal, so that their runs are one
pub record IsSeam (values part_values : List (Option Value)) (goes_on : Bool) : Type 0 where
  pub one : goes_on ≡ true → (value : Option Value) × AtSeam values part_values value value
  pub two : goes_on ≡ false → (value next : Option Value) → AtSeam values part_values value next → value ≢ next

-- the runs of two parts are joined: as the first part covers its rows and the second part its own, so they cover all
abbrev pub AreJoined : List ℕ → List (Option Value) → List ℕ → List (Option Value) → List ℕ → List (Option Value) → Type 0
AreJoined ends values part_ends part_values all_ends all_values =
    (rows part : List (Option Value)) → length rows + length part < 2 ^ 64 → IsTightCover rows ends values → IsTightCover part part_ends part_values
    → IsTightCover (rows ++ part) all_ends all_values
