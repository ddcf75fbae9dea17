-- Lemmas on codes.
use Rattle.std.proofs.Common.{◌≡◌, ℕ, ℤ, List, [], ◌∷◌, Option, Some, None, cond, map, refl, ap}
use Rattle.std.specs.Prelude.{option_map}
use Rattle.column_base.specs.declared.error.VortexError.TheVariants.{TypeMismatch}
use Rattle.column_base.specs.ValidityForm.{nullability_in}
use Rattle.column_core.specs.declared.flat.FlatColumn.{FlatColumn}
use Rattle.column_core.specs.declared.flat.FlatColumn.TheVariants as flat
use Rattle.column_core.specs.FlatColumn.{leaf_of}
use Rattle.column_core.specs.Leaf.{OfNumbers, OfVarBins, plain_leaf, single_rows}
use Rattle.column_core.specs.PrimitiveForm.{PrimitiveForm, optional_numbers}
use Rattle.column_core.specs.Value.{FlatValue, Number, Single}
use Rattle.column_ops.specs.Codes.{code_fault, code_numbers}
use Rattle.column_ops.specs.Take.{take_fault}
use Rattle.column_ops.proofs.CastViews.{no_numbers}

-- numbers that are shown as values are read again
numbers-of_values : (ns : List (Option ℤ)) → code_numbers (map (option_map (λ (v : FlatValue). Single v)) (map (option_map (λ (n : ℤ). Number n)) ns)) ≡ ns
numbers-of_values [] = refl
numbers-of_values (None ∷ ns) = ap (λ rest. None ∷ rest) (numbers-of_values ns)
numbers-of_values (Some n ∷ ns) = ap (λ rest. Some n ∷ rest) (numbers-of_values ns)

-- the numbers of codes are the optional numbers of their column
pub code_numbers-of : (form : PrimitiveForm) → code_numbers (single_rows (OfNumbers form)) ≡ optional_numbers form
code_numbers-of form = numbers-of_values (optional_numbers form)

-- a column of another kind has no codes
pub no_codes : {A : Type 0} (codes : FlatColumn A) (count : ℕ) → ((array : PrimitiveForm) → ¬ (codes ≡ flat.Primitive array)) → code_fault (plain_leaf (leaf_of codes)) count ≡ Some TypeMismatch
no_codes (flat.Primitive array) count other = absurd (other array refl)
no_codes (flat.Bool array) count other = refl
no_codes (flat.Decimal array) count other = refl
no_codes (flat.VarBinView array) count other =
    ap (λ numbers. cond numbers (take_fault (code_numbers (single_rows (OfVarBins array))) count) (Some TypeMismatch)) (no_numbers array.kind (nullability_in array.validity))
