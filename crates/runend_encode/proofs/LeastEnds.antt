-- Ends in the least type that has them.
use Rattle.std.proofs.Common.{◌≡◌, ◌∙◌, ℕ, List, map, pos, ap, refl}
use Rattle.std.specs.Prelude.{unsigned_abs}
use Rattle.column_base.specs.declared.values.PrimitiveValues.{PrimitiveValues}
use Rattle.column_base.specs.Numbers.{numbers, ptype_of}
use Rattle.column_base.specs.Types.{IsLeastFor}
use Rattle.column_base.specs.ValidityForm.{NeverNull}
use Rattle.column_core.specs.PrimitiveForm.{primitive_with}
use Rattle.runend_windows.specs.Window.{last_end}
use Rattle.runend_windows.proofs.StoredNumbers.{naturals-of_pos}
use Rattle.runend_encode.specs.Encoding.{AreLeastEnds}

-- from the numbers of a buffer of that type
pub AreLeastEnds-from_numbers : {A : Type 0} (ends : List ℕ) (values : PrimitiveValues A) → numbers values ≡ map (λ (end : ℕ). pos end) ends → IsLeastFor (last_end ends) (ptype_of values)
    → AreLeastEnds ends (primitive_with (ptype_of values) (numbers values) NeverNull)
AreLeastEnds-from_numbers ends values shows least = record { shown = ap (map unsigned_abs) shows ∙ naturals-of_pos ends; required = refl; narrow = least }
