-- The law of take and filter, of rows of any kind.
use Rattle.std.proofs.Common.{◌≡◌, ◌∙◌, ℕ, ℤ, pos, List, [], ◌∷◌, Bool, true, Option, Some, length, map, replicate, refl, sym, ap}
use Rattle.column_base.specs.Bits.{set_indices_of}
use Rattle.column_core.specs.Optionals.{optionals}
use Rattle.column_ops.specs.Filter.{filter_rows}
use Rattle.column_ops.specs.Take.{take_rows}
use Rattle.runend_column.proofs.SetPlaces.{take_rows-places}

valid-places : (places : List ℕ) → map (λ (place : ℕ). Some (pos place)) places ≡ optionals (map (λ (n : ℕ). pos n) places) (replicate (length places) true)
valid-places [] = refl
valid-places (place ∷ places) = ap (λ (xs : List (Option ℤ)). Some (pos place) ∷ xs) (valid-places places)

pub filter-is_take : {B : Type 0} (rows : List (Option B)) (mask : List Bool) → length mask ≡ length rows → filter_rows mask rows ≡ take_rows rows (map (λ (place : ℕ). Some (pos place)) (set_indices_of mask))
filter-is_take rows mask long = sym (ap (take_rows rows) (valid-places (set_indices_of mask)) ∙ take_rows-places mask rows (set_indices_of mask) long refl)
