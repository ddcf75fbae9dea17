-- Refusals that come before any refusal for memory.
use Rattle.std.specs.Prelude.{◌≡◌, Option, Some, None, Result, Ok, Err}
use Rattle.column_base.specs.declared.error.VortexError.{VortexError}

-- refused by the fault, exactly where there is one
abbrev pub IsRefusedExactlyBy : {T : Type 0} → Option VortexError → Result T VortexError → Type 0
IsRefusedExactlyBy fault (Ok value) = fault ≡ None
IsRefusedExactlyBy fault (Err error) = fault ≡ Some error
