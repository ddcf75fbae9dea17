-- The rows of flat columns of integers and of decimals, as those of the items that they store.
use Rattle.std.proofs.Common.{◌≡◌, ◌∙◌, ◌≤◌, ℕ, ℤ, List, [], ◌∷◌, Bool, true, false, Option, Some, None, length, map, pos, refl, sym, ap, subst, arith}
use Rattle.std.specs.Prelude.{option_map}
use Rattle.std.proofs.lemmas.List.{length-map}
use Rattle.column_base.specs.declared.dtype.DType.{DType}
use Rattle.column_base.specs.declared.dtype.DecimalDType.{DecimalDType}
use Rattle.column_base.specs.declared.dtype.DType.TheVariants as column
use Rattle.column_base.specs.declared.dtype.PType.{PType}
use Rattle.column_base.specs.ValidityForm.{ValidityForm, HasLength, flags, nullability_in}
use Rattle.column_core.specs.DecimalForm.{DecimalForm}
use Rattle.column_core.specs.Leaf.{leaf_rows, single_rows, OfDecimals, OfNumbers}
use Rattle.column_core.specs.Optionals.{optionals}
use Rattle.column_core.specs.PrimitiveForm.{PrimitiveForm, primitive_dtype}
use Rattle.column_core.specs.Value.{FlatValue, DecimalNumber, Number, Single, Value}
use Rattle.column_core.proofs.OptionalRows.{rows_within_decimals, rows_within_numbers}
use Rattle.column_ops.specs.Items.{flagged_rows}

-- some precision and scale, for types that have none
abbrev pub any_decimal : DecimalDType
any_decimal = record { precision = 0; scale = pos 0 }

-- optional items as numbers
optional-numbers : {S : Type 0} (number : S → ℤ) (items : List S) (marks : List Bool)
    → map (option_map (λ (x : S). Number (number x))) (optionals items marks) ≡ map (option_map (λ (n : ℤ). Number n)) (optionals (map number items) marks)
optional-numbers number [] marks = refl
optional-numbers number (x ∷ items) [] = refl
optional-numbers number (x ∷ items) (true ∷ marks) = ap (λ rows. Some (Number (number x)) ∷ rows) (optional-numbers number items marks)
optional-numbers number (x ∷ items) (false ∷ marks) = ap (λ rows. None ∷ rows) (optional-numbers number items marks)

-- the rows of a column of integers
pub number-rows : {S : Type 0} (number : S → ℤ) (items : List S) (form : ValidityForm) (own : PrimitiveForm) → map number items ≡ own.numbers → form ≡ own.validity
    → flagged_rows (λ (x : S). Number (number x)) items (flags form (length items)) ≡ single_rows (OfNumbers own)
number-rows number items form own shown same =
    ap (map (option_map (λ (v : FlatValue). Single v))) (optional-numbers number items (flags form (length items)))
    ∙ ap (λ (n : ℕ). map (option_map (λ (v : FlatValue). Single v)) (map (option_map (λ (n : ℤ). Number n)) (optionals (map number items) (flags form n)))) (sym (length-map items number))
    ∙ (λ i. map (option_map (λ (v : FlatValue). Single v)) (map (option_map (λ (n : ℤ). Number n)) (optionals (shown i) (flags (same i) (length (shown i))))))

-- a place within the rows is one within the items
pub within-items : {S : Type 0} (number : S → ℤ) (items : List S) (own : PrimitiveForm) (stop : ℕ) → map number items ≡ own.numbers
    → stop ≤ length (leaf_rows (OfNumbers own)) → stop ≤ length items
within-items number items own stop shown within =
    let few = rows_within_numbers own in
    let long = length-map items number in
    let same = ap length shown in omega arith

-- the validity of the column fits the items
pub fits-items : {S : Type 0} (number : S → ℤ) (items : List S) (form : ValidityForm) (own : PrimitiveForm) → map number items ≡ own.numbers → form ≡ own.validity
    → HasLength own.validity (length own.numbers) → HasLength form (length items)
fits-items number items form own shown same fits =
    let long : length own.numbers ≡ length items = sym (ap length shown) ∙ length-map items number in
    subst (λ (f : ValidityForm). HasLength f (length items)) (sym same) (subst (HasLength own.validity) long fits)

-- the rows of a column of decimals
pub decimal-rows : (values : List ℤ) (form : ValidityForm) (own : DecimalForm) → values ≡ own.numbers → form ≡ own.validity
    → flagged_rows (λ (n : ℤ). DecimalNumber n) values (flags form (length values)) ≡ single_rows (OfDecimals own)
decimal-rows values form own shown same = λ i. flagged_rows (λ (n : ℤ). DecimalNumber n) (shown i) (flags (same i) (length (shown i)))

-- a place within the rows of a column of decimals is one within its numbers
pub within-decimals : (values : List ℤ) (own : DecimalForm) (stop : ℕ) → values ≡ own.numbers → stop ≤ length (leaf_rows (OfDecimals own)) → stop ≤ length values
within-decimals values own stop shown within =
    let few = rows_within_decimals own in
    let same = ap length shown in omega arith

-- what holds of the type and the rows of the items holds of the type and the rows of the column
pub number-column : {S : Type 0} (P : DType → List (Option Value) → Type 0) (ptype : PType) (number : S → ℤ) (items : List S) (form : ValidityForm) (own : PrimitiveForm)
    → ptype ≡ own.ptype → map number items ≡ own.numbers → form ≡ own.validity
    → P (column.Primitive ptype (nullability_in own.validity)) (flagged_rows (λ (x : S). Number (number x)) items (flags form (length items)))
    → P (primitive_dtype own) (single_rows (OfNumbers own))
number-column P ptype number items form own typed shown same holds =
    subst (λ (dtype : DType). P dtype (single_rows (OfNumbers own))) (ap (λ (t : PType). column.Primitive t (nullability_in own.validity)) typed)
    (subst (P (column.Primitive ptype (nullability_in own.validity))) (number-rows number items form own shown same) holds)
