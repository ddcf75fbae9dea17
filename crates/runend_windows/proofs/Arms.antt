-- What an arm of a match over the types of numbers knows of the column.
use Rattle.std.proofs.Common.{◌≡◌, ℕ, ℤ, List, length, map, sym, ap, subst, ◌∙◌}
use Rattle.std.proofs.lemmas.List.{length-map}
use Rattle.column_base.specs.declared.dtype.PType.{PType}
use Rattle.column_base.specs.ValidityForm.{ValidityForm, HasLength}
use Rattle.column_core.specs.PrimitiveForm.{PrimitiveForm, primitive_with}

-- a column of integers is known by its parts
pub same-primitive : (ptype : PType) (numbers : List ℤ) (validity : ValidityForm) (own : PrimitiveForm) → ptype ≡ own.ptype → numbers ≡ own.numbers → validity ≡ own.validity
    → primitive_with ptype numbers validity ≡ own
same-primitive ptype numbers validity own same_type same_numbers same_validity = λ i. primitive_with (same_type i) (same_numbers i) (same_validity i)

-- as many items as numbers
pub length-arm : {X : Type 0} (number : X → ℤ) (items : List X) (numbers : List ℤ) → map number items ≡ numbers → length items ≡ length numbers
length-arm number items numbers shown = sym (length-map items number) ∙ ap length shown

-- the validity of the column fits the items
pub HasLength-arm : (form own : ValidityForm) (n m : ℕ) → form ≡ own → n ≡ m → HasLength own m → HasLength form n
HasLength-arm form own n m same long fits =
    subst (λ (f : ValidityForm). HasLength f n) (sym same) (subst (λ (k : ℕ). HasLength own k) (sym long) fits)
