-- Rows that a mask selects.
use Rattle.std.specs.Prelude.{ℕ, ◌==◌, List, [], ◌∷◌, Bool, Option, Some, None, cond, if◌then◌else◌}
use Rattle.column_base.specs.declared.error.VortexError.{VortexError}
use Rattle.column_base.specs.declared.error.VortexError.TheVariants.{MaskLength}

-- the items at which the mask is true, in order
abbrev pub filter_rows : {B : Type 0} → List Bool → List B → List B
filter_rows [] xs = []
filter_rows (b ∷ bs) [] = []
filter_rows (b ∷ bs) (x ∷ xs) = if b then x ∷ filter_rows bs xs else filter_rows bs xs

-- the mask is of another number of rows than the column
abbrev pub filter_fault : ℕ → ℕ → Option VortexError
filter_fault mask rows = cond (mask == rows) None (Some (MaskLength mask rows))
