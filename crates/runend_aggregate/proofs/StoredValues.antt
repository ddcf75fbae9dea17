-- Flat values as they are read from slices.
use Rattle.std.proofs.Common.{◌≡◌, ◌∙◌, ℕ, ℤ, List, length, map, sym, ap}
use Rattle.column_base.specs.ValidityForm.{ValidityForm, flags}
use Rattle.column_core.specs.Leaf.{OfNumbers}
use Rattle.column_core.specs.PrimitiveForm.{PrimitiveForm, optional_numbers, optionals}
use Rattle.column_sums.specs.SumAnswer.{number_in}
use Rattle.column_sums.proofs.SingleRows.{numbers-of_rows}
use Rattle.runend_windows.proofs.Arms.{length-arm}
use Rattle.runend_array.specs.Column.{Column, OfLeaf, column_rows}

-- items and their validity are the numbers of the flat values that store them
pub stored_values : {S : Type 0} (number : S → ℤ) (items : List S) (validity : ValidityForm) (form : PrimitiveForm) (values : Column) → map number items ≡ form.numbers
    → validity ≡ form.validity → OfLeaf (OfNumbers form) ≡ values → optionals (map number items) (flags validity (length items)) ≡ map number_in (column_rows values)
stored_values number items validity form values shown same flat =
    ap (λ (numbers : List ℤ). optionals numbers (flags validity (length items))) shown
    ∙ ap (λ (own : ValidityForm). optionals form.numbers (flags own (length items))) same
    ∙ ap (λ (n : ℕ). optionals form.numbers (flags form.validity n)) (length-arm number items form.numbers shown)
    ∙ sym (numbers-of_rows (optional_numbers form))
    ∙ ap (λ (column : Column). map number_in (column_rows column)) flat
