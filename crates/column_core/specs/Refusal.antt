-- Why a call is refused: its first fault, with its fields, or none.
use Rattle.std.specs.Prelude.{◌≡◌, ◌⊎◌, ◌||◌, ℕ, pos, cond, nat_lt, List, [], ◌∷◌, Option, Some, None, Result, Ok, Err}
use Rattle.std.specs.Option.{option_or}
use Rattle.column_base.specs.declared.error.VortexError.{VortexError}
use Rattle.column_base.specs.declared.error.VortexError.TheVariants.{BadRange, OutOfBounds, OutOfMemory}

-- a range begins after its stop, or stops after the last of the rows
abbrev pub range_fault : ℕ → ℕ → ℕ → Option VortexError
range_fault start stop count = cond (nat_lt stop start || nat_lt count stop) (Some (BadRange start stop count)) None

-- the column has no row of this number
abbrev pub row_fault : ℕ → ℕ → Option VortexError
row_fault index count = cond (nat_lt index count) None (Some (OutOfBounds (pos index) count))

-- the fault of the first item that has one
abbrev pub first_fault : {B : Type 0} → (B → Option VortexError) → List B → Option VortexError
first_fault fault [] = None
first_fault fault (x ∷ xs) = option_or (fault x) (first_fault fault xs)

-- the error is that memory was refused, or it is the fault
abbrev pub IsErrorFor : Option VortexError → VortexError → Type 0
IsErrorFor fault error = (error ≡ OutOfMemory) ⊎ (fault ≡ Some error)

-- refused by the fault where there is one, else only for memory
abbrev pub IsRefusedBy : {T : Type 0} → Option VortexError → Result T VortexError → Type 0
IsRefusedBy fault (Ok value) = fault ≡ None
IsRefusedBy fault (Err error) = IsErrorFor fault error
