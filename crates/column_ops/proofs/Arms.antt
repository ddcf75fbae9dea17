-- What an arm of a match over the types of numbers knows of the column.
use Rattle.std.proofs.Common.{◌≡◌, ◌∙◌, ℕ, ℤ, List, Option, Some, None, Err, length, map, sym, ap, subst, inl}
use Rattle.std.specs.Prelude.{Result, Ok, IfOk, IsOkUnless, cond, option_map}
use Rattle.std.proofs.lemmas.Bool.{eq-eqb, ne_eqb}
use Rattle.std.proofs.lemmas.List.{length-map}
use Rattle.column_base.specs.declared.dtype.PType.{PType}
use Rattle.column_base.specs.declared.error.VortexError.{VortexError}
use Rattle.column_base.specs.declared.error.VortexError.TheVariants.{MaskLength, OutOfMemory}
use Rattle.column_base.specs.ValidityForm.{ValidityForm, HasLength, flags}
use Rattle.column_base.proofs.ValidityRows.{length-flags}
use Rattle.column_core.specs.Optionals.{optionals}
use Rattle.column_core.proofs.OptionalRows.{length-optionals}
use Rattle.column_core.specs.PrimitiveForm.{PrimitiveForm, primitive_with}
use Rattle.column_core.specs.Refusal.{IsRefusedBy}
use Rattle.column_ops.specs.Filter.{filter_fault}

-- a column of integers is known by its parts
pub same-primitive : (ptype : PType) (numbers : List ℤ) (validity : ValidityForm) (own : PrimitiveForm) → ptype ≡ own.ptype → numbers ≡ own.numbers → validity ≡ own.validity
    → primitive_with ptype numbers validity ≡ own
same-primitive ptype numbers validity own same_type same_numbers same_validity = λ i. primitive_with (same_type i) (same_numbers i) (same_validity i)

-- as many items as numbers
pub length-arm : {X : Type 0} (number : X → ℤ) (items : List X) (numbers : List ℤ) → map number items ≡ numbers → length items ≡ length numbers
length-arm number items numbers shown = sym (length-map items number) ∙ ap length shown

-- the validity of the column fits the items
pub HasLength-arm : (form own : ValidityForm) (n m : ℕ) → form ≡ own → n ≡ m → HasLength own m → HasLength form n
HasLength-arm form own n m same long fits =
    subst (λ (f : ValidityForm). HasLength f n) (sym same) (subst (λ (k : ℕ). HasLength own k) (sym long) fits)

-- as many rows as items
pub length-rows : {B C : Type 0} (shown : B → C) (items : List B) (form : ValidityForm) → HasLength form (length items) → length (map (option_map shown) (optionals items (flags form (length items)))) ≡ length items
length-rows shown items form fits =
    length-map (optionals items (flags form (length items))) (option_map shown) ∙ length-optionals items (flags form (length items)) (length-flags form (length items) fits)

-- what is answered where there is a value
pub IfOk-same : {T E : Type 0} (result : Result T E) (wanted : T) (P : T → Type 0) → IfOk result (λ made. made ≡ wanted) → P wanted → IfOk result P
IfOk-same (Ok made) wanted P same holds = subst P (sym same) holds
IfOk-same (Err error) wanted P same holds = tt

-- a mask of as many rows has no fault
pub same_count : (mask rows : ℕ) → mask ≡ rows → filter_fault mask rows ≡ None
same_count mask rows same = ap (λ equal. cond equal None (Some (MaskLength mask rows))) (eq-eqb mask rows same)

-- a mask of another number of rows is refused with both numbers
pub other_count : (mask rows m n : ℕ) → m ≡ mask → n ≡ rows → ¬ (m ≡ n) → filter_fault mask rows ≡ Some (MaskLength m n)
other_count mask rows m n m_is n_is other =
    ap (λ equal. cond equal None (Some (MaskLength mask rows))) (ne_eqb mask rows (λ same. other (m_is ∙ same ∙ sym n_is)))
    ∙ ap (λ (k : ℕ). Some (MaskLength k rows)) (sym m_is) ∙ ap (λ (k : ℕ). Some (MaskLength m k)) (sym n_is)

-- what can be refused only for memory, without a fault
pub no_fault : {T : Type 0} (fault : Option VortexError) (result : Result T VortexError) → fault ≡ None → IsOkUnless result OutOfMemory → IsRefusedBy fault result
no_fault fault (Ok value) none only = none
no_fault fault (Err error) none only = inl only

-- what holds of an answer, carried on
pub if_ok : {T E : Type 0} (result : Result T E) (P Q : T → Type 0) → ((value : T) → P value → Q value) → IfOk result P → IfOk result Q
if_ok (Ok value) P Q carried holds = carried value holds
if_ok (Err error) P Q carried holds = tt
