-- What suits a table suits each of its columns.
use Rattle.std.proofs.Common.{◌≡◌, ◌∙◌, ◌≤◌, ℕ, List, [], ◌∷◌, Bool, true, false, Option, Some, None, ap, cond, inl, inr, length, map, refl, subst, sym}
use Rattle.std.specs.Prelude.{◌==◌, ◌||◌, Err, IsErrAnd, IsOkUnless, Ok, Result, nat_lt}
use Rattle.std.specs.Option.{option_or}
use Rattle.std.proofs.lemmas.Bool.{ltb-false}
use Rattle.std.proofs.lemmas.Bool.Decides.{Decides-eqb}
use Rattle.std.proofs.lemmas.List.{length-map}
use Rattle.std.proofs.lemmas.List.Elements.{All-head, All-tail}
use Rattle.column_base.specs.declared.dtype.DType.{DType}
use Rattle.column_base.specs.declared.error.VortexError.{VortexError}
use Rattle.column_base.specs.declared.error.VortexError.TheVariants.{BadRange, MaskLength, OutOfMemory}
use Rattle.column_core.specs.Refusal.{IsErrorFor, range_fault}
use Rattle.column_core.specs.Value.{Value}
use Rattle.column_ops.specs.Filter.{filter_fault, filter_rows}
use Rattle.runend_array.specs.Column.{column_rows}
use Rattle.row_stretches.specs.declared.stretches.Stretch.{Stretch}
use Rattle.row_stretches.specs.Masks.{is_true, mask_fault, truths_of}
use Rattle.row_stretches.specs.Stretches.{stretch_rows}
use Rattle.tables.specs.TableFaults.{IsRefusedFirstBy}
use Rattle.tables.specs.Tables.{AreEven, IsTable, TableForm, rows_of}
use Rattle.typed_columns.specs.Typed.{TypedForm}

-- neither of two tests holds
neither : (p q : Bool) (e : VortexError) → cond (p || q) (Some e) None ≡ None → (p ≡ false) × (q ≡ false)
neither true q e none = cc
neither false true e none = cc
neither false false e none = (refl, refl)

-- a range without a fault
pub range_fits : (start stop count : ℕ) → range_fault start stop count ≡ None → (start ≤ stop) × (stop ≤ count)
range_fits start stop count none =
    let tests = neither (nat_lt stop start) (nat_lt count stop) (BadRange start stop count) none in
    (ltb-false stop start tests.0, ltb-false count stop tests.1)

-- two faults of which there is none
pub no_faults : (first second : Option VortexError) → option_or first second ≡ None → (first ≡ None) × (second ≡ None)
no_faults None second none = (refl, none)
no_faults (Some e) second none = cc

equal_by : (b : Bool) (m n : ℕ) → (m == n) ≡ b → cond b None (Some (MaskLength m n)) ≡ None → m ≡ n
equal_by true m n is none = (Decides-eqb m n).0 is
equal_by false m n is none = cc

pub same_length : (mask count : ℕ) → filter_fault mask count ≡ None → mask ≡ count
same_length mask count none = equal_by (mask == count) mask count refl none

-- without a fault, memory was refused
short_of : (fault : Option VortexError) (error : VortexError) → fault ≡ None → IsErrorFor fault error → error ≡ OutOfMemory
short_of fault error none (inl short) = short
short_of fault error none (inr has) = let never : ◌≡◌ {A = Option VortexError} None (Some error) = sym none ∙ has in absurd (cc)

-- a fault of the arguments is reported
pub told : (fault : Option VortexError) (error : VortexError) → fault ≡ Some error → option_or fault (Some OutOfMemory) ≡ Some error
told fault error is = ap (λ (f : Option VortexError). option_or f (Some OutOfMemory)) is

-- and is passed on as memory's
pub short_passed_on : {T : Type 0} (fault : Option VortexError) (error : VortexError) (result : Result T VortexError) → fault ≡ None → IsErrAnd result (λ passed. passed ≡ error) → IsErrorFor fault error → IsOkUnless result OutOfMemory
short_passed_on fault error (Ok value) none passed refused = absurd passed
short_passed_on fault error (Err other) none passed refused = passed ∙ short_of fault error none refused

-- where there is none, only memory is refused
pub first_by_none : {T : Type 0} (fault own : Option VortexError) (error : VortexError) (result : Result T VortexError) → fault ≡ None → own ≡ None → IsErrAnd result (λ passed. passed ≡ error) → IsErrorFor own error
    → IsRefusedFirstBy fault result
first_by_none fault own error (Ok value) none plain passed refused = absurd passed
first_by_none fault own error (Err other) none plain passed refused =
    ap (λ (f : Option VortexError). option_or f (Some OutOfMemory)) none ∙ ap Some (sym (passed ∙ short_of own error plain refused))

pub short_by : {T : Type 0} (own : Option VortexError) (error : VortexError) (result : Result T VortexError) → own ≡ None → IsErrAnd result (λ passed. passed ≡ error) → IsErrorFor own error → IsOkUnless result OutOfMemory
short_by own error (Ok value) plain passed refused = absurd passed
short_by own error (Err other) plain passed refused = passed ∙ short_of own error plain refused

-- work that does the same to columns of one number of rows
pub same_work : (work other : List (Option Value) → List (Option Value)) (count : ℕ) (columns : List TypedForm) → AreEven columns count → ((all : List (Option Value)) → length all ≡ count → work all ≡ other all)
    → map work (map (λ (c : TypedForm). column_rows c.column) columns) ≡ map other (map (λ (c : TypedForm). column_rows c.column) columns)
same_work work other count [] even same = refl
same_work work other count (c ∷ columns) even same =
    let P = λ (x : TypedForm). length (column_rows x.column) ≡ count in
    let here = same (column_rows c.column) (All-head P c columns even) in
    let rest = same_work work other count columns (All-tail P c columns even) same in
    (λ i. here i ∷ rest i)

-- without a fault, what is refused only for memory is refused so first
pub refused_first : {T : Type 0} (fault : Option VortexError) (result : Result T VortexError) → fault ≡ None → IsOkUnless result OutOfMemory → IsRefusedFirstBy fault result
refused_first fault (Ok value) none only = none
refused_first fault (Err error) none only = ap (λ (f : Option VortexError). option_or f (Some OutOfMemory)) none ∙ ap Some (sym only)

-- a table as it is seen
pub table_seen : {own seen : TableForm} → own ≡ seen → IsTable own → IsTable seen
table_seen {own} {seen} is table = subst IsTable is table

pub selected_alike : (t : TableForm) (order : List Stretch) (bits : List Bool) → IsTable t → ((all : List (Option Value)) → length all ≡ t.count → stretch_rows all order ≡ filter_rows bits all)
    → map (λ all. stretch_rows all order) (rows_of t) ≡ map (filter_rows bits) (rows_of t)
selected_alike t order bits table same = same_work (λ all. stretch_rows all order) (filter_rows bits) t.count t.columns table.even same

-- the fault of a range, of a table that is seen otherwise
pub range_seen : (made : Option VortexError) (start stop count own_count : ℕ) → count ≡ own_count → made ≡ range_fault start stop count → made ≡ range_fault start stop own_count
range_seen made start stop count own_count counted is = is ∙ ap (λ (n : ℕ). range_fault start stop n) counted

-- the fault of a mask and of a table that are seen otherwise
pub fault_seen : (made : Option VortexError) (dtype own_dtype : DType) (long own_long count own_count : ℕ) → dtype ≡ own_dtype → long ≡ own_long → count ≡ own_count
    → made ≡ option_or (mask_fault dtype) (filter_fault long count) → made ≡ option_or (mask_fault own_dtype) (filter_fault own_long own_count)
fault_seen made dtype own_dtype long own_long count own_count typed counted rows_counted is = is ∙ (λ i. option_or (mask_fault (typed i)) (filter_fault (counted i) (rows_counted i)))

-- a mask without a fault has a bit for each row
pub bit_of_each : (mask : List (Option Value)) (dtype : DType) (count : ℕ) → option_or (mask_fault dtype) (filter_fault (length mask) count) ≡ None → length (truths_of mask) ≡ count
bit_of_each mask dtype count none = length-map mask is_true ∙ same_length (length mask) count (no_faults (mask_fault dtype) (filter_fault (length mask) count) none).1
