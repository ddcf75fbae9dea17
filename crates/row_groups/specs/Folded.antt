-- Ends of groups as columns.
use Rattle.std.specs.Prelude.{ℕ, pos, List, Option, Some, map}
use Rattle.column_base.specs.declared.dtype.PType.TheVariants.{U64}
use Rattle.column_base.specs.ValidityForm.{NeverNull}
use Rattle.column_core.specs.PrimitiveForm.{PrimitiveForm, primitive_with}
use Rattle.column_core.specs.Value.{Number, Single, Value}

-- ends as they are stored
abbrev pub stored_ends : List ℕ → PrimitiveForm
stored_ends ends = primitive_with U64 (map (λ (end : ℕ). pos end) ends) NeverNull

-- a row for each group: its end, which no other group has
abbrev pub end_rows : List ℕ → List (Option Value)
end_rows ends = map (λ (end : ℕ). Some (Single (Number (pos end)))) ends
