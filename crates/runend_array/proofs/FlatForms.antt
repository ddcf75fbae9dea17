-- Arrays in a flat form.
use Rattle.std.proofs.Common.{◌≡◌, ℕ, List, map, pos, refl}
use Rattle.column_base.specs.declared.dtype.PType.TheVariants.{U64}
use Rattle.column_base.specs.declared.values.PrimitiveValues.{PrimitiveValues}
use Rattle.column_base.specs.Numbers.{numbers, ptype_of}
use Rattle.column_base.specs.ValidityForm.{NeverNull}
use Rattle.column_core.specs.PrimitiveForm.{primitive_with}
use Rattle.runend_array.specs.Array.{column_of}
use Rattle.runend_array.specs.Column.{IsLeaf}
use Rattle.runend_array.specs.declared.array_ref.ArrayRef.{ArrayRef}
use Rattle.runend_array.specs.declared.array_ref.ArrayRef.TheVariants.{Primitive, Bool, Decimal, VarBinView, ListView, Constant, RunEnd}

-- an array that has none of the other forms is flat
pub IsLeaf-of_rest : {A : Type 0} (array : ArrayRef A) → ((lists : _) → ¬ (array ≡ ListView lists)) → ((constant : _) → ¬ (array ≡ Constant constant))
    → ((runs : _) → ¬ (array ≡ RunEnd runs)) → IsLeaf (column_of array)
IsLeaf-of_rest (Primitive array) no_lists no_constant no_runs = tt
IsLeaf-of_rest (Bool array) no_lists no_constant no_runs = tt
IsLeaf-of_rest (Decimal array) no_lists no_constant no_runs = tt
IsLeaf-of_rest (VarBinView array) no_lists no_constant no_runs = tt
IsLeaf-of_rest (ListView lists) no_lists no_constant no_runs = absurd (no_lists lists refl)
IsLeaf-of_rest (Constant constant) no_lists no_constant no_runs = absurd (no_constant constant refl)
IsLeaf-of_rest (RunEnd runs) no_lists no_constant no_runs = absurd (no_runs runs refl)

-- numbers of type u64 without null
pub of_u64 : {A : Type 0} (values : PrimitiveValues A) (items : List ℕ) → numbers values ≡ map (λ (n : ℕ). pos n) items → ptype_of values ≡ U64
    → primitive_with (ptype_of values) (numbers values) NeverNull ≡ primitive_with U64 (map (λ (n : ℕ). pos n) items) NeverNull
of_u64 values items shows typed = rw (shows, typed) refl
