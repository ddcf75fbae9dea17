-- Lemmas on rows, each taken as a run of its own.
use Rattle.std.proofs.Common.{◌≡◌, ◌∙◌, ℕ, zero, suc, ◌<◌, ℤ, Option, Some, None, List, [], ◌∷◌, length, map, refl, sym, ap, arith}
use Rattle.std.specs.Prelude.{slice_get, option_map}
use Rattle.std.proofs.lemmas.List.{length-map}
use Rattle.std.proofs.lemmas.Option.{slice_get-map}
use Rattle.column_base.specs.declared.dtype.PType.{PType}
use Rattle.column_base.specs.declared.dtype.PType.TheVariants.{U8, U16, U32, U64, I8, I16, I32, I64}
use Rattle.column_base.specs.declared.dtype.Nullability.{Nullability}
use Rattle.column_base.specs.declared.dtype.DType.TheVariants as column
use Rattle.column_base.specs.Types.{IsUnsigned}
use Rattle.column_core.specs.Value.{FlatValue, Number, Value, Single}
use Rattle.column_core.specs.PrimitiveForm.{PrimitiveForm, optional_numbers, primitive_rows, row_flags}
use Rattle.column_core.specs.ScalarView.{sees, IsViewOf}
use Rattle.column_core.specs.declared.view.ScalarView.{ScalarView}
use Rattle.column_core.specs.declared.view.ScalarView.TheVariants as view
use Rattle.column_core.proofs.OptionalRows.{length-optionals-le}
use Rattle.column_sums.specs.RunSum.{rows_of_runs, runs_of_rows}
use Rattle.column_sums.specs.SumRange.{SignedRange, UnsignedRange, sum_range}
use Rattle.column_sums.specs.SumAnswer.{number_in}

-- there is one run for each row
pub length-runs_of_rows : (rows : List (Option ℤ)) → length (runs_of_rows rows) ≡ length rows
length-runs_of_rows [] = refl
length-runs_of_rows (row ∷ rows) = ap suc (length-runs_of_rows rows)

-- the rows of these runs are the rows
pub rows_of_runs-runs_of_rows : (rows : List (Option ℤ)) → rows_of_runs (runs_of_rows rows) ≡ rows
rows_of_runs-runs_of_rows [] = refl
rows_of_runs-runs_of_rows (row ∷ rows) = ap (λ rest. row ∷ rest) (rows_of_runs-runs_of_rows rows)

-- the run of a row has its value
pub value-at : (rows : List (Option ℤ)) (k : ℕ) → option_map (λ (run : Option ℤ × ℕ). run.0) (slice_get (runs_of_rows rows) k) ≡ slice_get rows k
value-at [] k = refl
value-at (row ∷ rows) zero = refl
value-at (row ∷ rows) (suc k) = value-at rows k

-- the run of a row is of one row
pub count-at : (rows : List (Option ℤ)) (k : ℕ) → k < length (runs_of_rows rows) → option_map (λ (run : Option ℤ × ℕ). run.1) (slice_get (runs_of_rows rows) k) ≡ Some 1
count-at [] k h = absurd (omega arith)
count-at (row ∷ rows) zero h = refl
count-at (row ∷ rows) (suc k) h = count-at rows k (omega arith)

-- the runs of a column are as many as its rows
pub length-runs_of_column : (form : PrimitiveForm) → length (runs_of_rows (optional_numbers form)) ≡ length (primitive_rows form)
length-runs_of_column form = length-runs_of_rows (optional_numbers form) ∙ sym (length-map (optional_numbers form) (option_map (λ (n : ℤ). Number n)))

-- there are no more rows than numbers
pub within_numbers : (form : PrimitiveForm) (k : ℕ) → k < length (optional_numbers form) → k < length form.numbers
within_numbers form k h = omega (arith, length-optionals-le form.numbers (row_flags form))

-- a row that is read as a view has the number that the view shows
pub number-read : (form : PrimitiveForm) (k : ℕ) (seen : Option Value)
    → slice_get (map (option_map (λ (v : FlatValue). Single v)) (primitive_rows form)) k ≡ Some seen → slice_get (optional_numbers form) k ≡ Some (number_in seen)
number-read form k seen h =
    let rows = optional_numbers form in
    let number : Option ℤ → Option FlatValue = option_map (λ (n : ℤ). Number n) in
    let single : Option FlatValue → Option Value = option_map (λ (v : FlatValue). Single v) in
    let read : option_map single (option_map number (slice_get rows k)) ≡ Some seen =
    ap (option_map single) (sym (slice_get-map number rows k)) ∙ sym (slice_get-map single (map number rows) k) ∙ h in
    elim (slice_get rows k) as (λ o. option_map single (option_map number o) ≡ Some seen → o ≡ Some (number_in seen)) [
      | None ↦ λ e. absurd (cc)
      | Some o ↦ elim o as (λ p. option_map single (option_map number (Some p)) ≡ Some seen → Some p ≡ Some (number_in seen)) [
        | None ↦ λ e. let s : None ≡ seen = cc in ap (λ x. Some (number_in x)) s
        | Some n ↦ λ e. let s : Some (Single (Number n)) ≡ seen = cc in ap (λ x. Some (number_in x)) s
      ]
    ] read

-- the numbers of a plain column of integers
pub numbers-of_rows : (numbers : List (Option ℤ)) → map number_in (map (option_map (λ (v : FlatValue). Single v)) (map (option_map (λ (n : ℤ). Number n)) numbers)) ≡ numbers
numbers-of_rows [] = refl
numbers-of_rows (None ∷ numbers) = ap (λ rest. None ∷ rest) (numbers-of_rows numbers)
numbers-of_rows (Some n ∷ numbers) = ap (λ rest. Some n ∷ rest) (numbers-of_rows numbers)

-- a view of a signed type that shows no signed number shows null
pub signed_view-null : {A : Type 0} (t : PType) (nullability : Nullability) (seen : ScalarView A) → (IsUnsigned t → ⊥) → IsViewOf (column.Primitive t nullability) seen
    → ((n : ℤ) → seen ≡ view.Signed n → ⊥) → sees seen ≡ None
signed_view-null t nullability view.Null signed typed other = refl
signed_view-null t nullability (view.Bool b) signed typed other = absurd typed
signed_view-null t nullability (view.Unsigned n) signed typed other = absurd (signed typed.0)
signed_view-null t nullability (view.Signed n) signed typed other = absurd (other n refl)
signed_view-null t nullability (view.Decimal n) signed typed other = absurd typed
signed_view-null t nullability (view.Utf8 text) signed typed other = absurd typed
signed_view-null t nullability (view.Binary bytes) signed typed other = absurd typed
signed_view-null t nullability (view.List elements start size) signed typed other = absurd typed

-- a view of an unsigned type that shows no unsigned number shows null
pub unsigned_view-null : {A : Type 0} (t : PType) (nullability : Nullability) (seen : ScalarView A) → IsUnsigned t → IsViewOf (column.Primitive t nullability) seen
    → ((n : ℕ) → seen ≡ view.Unsigned n → ⊥) → sees seen ≡ None
unsigned_view-null t nullability view.Null unsigned typed other = refl
unsigned_view-null t nullability (view.Bool b) unsigned typed other = absurd typed
unsigned_view-null t nullability (view.Unsigned n) unsigned typed other = absurd (other n refl)
unsigned_view-null t nullability (view.Signed n) unsigned typed other = absurd (typed.0 unsigned)
unsigned_view-null t nullability (view.Decimal n) unsigned typed other = absurd typed
unsigned_view-null t nullability (view.Utf8 text) unsigned typed other = absurd typed
unsigned_view-null t nullability (view.Binary bytes) unsigned typed other = absurd typed
unsigned_view-null t nullability (view.List elements start size) unsigned typed other = absurd typed

-- a signed type is summed in i64, an unsigned one in u64
pub sum_range-signed : (t : PType) → (IsUnsigned t → ⊥) → SignedRange ≡ sum_range t
sum_range-signed U8 signed = absurd (signed tt)
sum_range-signed U16 signed = absurd (signed tt)
sum_range-signed U32 signed = absurd (signed tt)
sum_range-signed U64 signed = absurd (signed tt)
sum_range-signed I8 signed = refl
sum_range-signed I16 signed = refl
sum_range-signed I32 signed = refl
sum_range-signed I64 signed = refl

pub sum_range-unsigned : (t : PType) → IsUnsigned t → UnsignedRange ≡ sum_range t
sum_range-unsigned U8 unsigned = refl
sum_range-unsigned U16 unsigned = refl
sum_range-unsigned U32 unsigned = refl
sum_range-unsigned U64 unsigned = refl
sum_range-unsigned I8 unsigned = absurd unsigned
sum_range-unsigned I16 unsigned = absurd unsigned
sum_range-unsigned I32 unsigned = absurd unsigned
sum_range-unsigned I64 unsigned = absurd unsigned
