-- How the calls end, and what they make and answer.
use Rattle.std.proofs.Common.{◌≡◌, ◌≢◌, ◌∙◌, ℕ, ℤ, pos, ap, refl, sym, subst, inl, inr, Bool, true, false, if◌then◌else◌}
use Rattle.std.specs.Prelude.{IfErr, IfOk, IsErrOf, Option, Some, None, Result, Ok, Err}
use Rattle.std.specs.Global.{Global}
use Rattle.column_base.specs.Types.{nullability_of}
use Rattle.column_ops.specs.declared.operator.CompareOperator.{CompareOperator}
use Rattle.runend_array.specs.Column.{Runs, column_of_runs}
use Rattle.runend_floats.specs.TruthRuns.{AreTruthRuns}
use Rattle.column_base.specs.declared.dtype.DType.{DType}
use Rattle.column_base.specs.declared.error.VortexError.{VortexError}
use Rattle.column_base.specs.declared.error.VortexError.TheVariants.{OutOfMemory, TypeMismatch}
use Rattle.column_base.specs.Error.{number_of}
use Rattle.column_core.specs.Refusal.{IsErrorFor, IsRefusedBy}
use Rattle.column_floats.specs.Formats.{bits_fault, constant_fault, floats_fault, format_of, is_bits, is_floats}
use Rattle.runend_array.specs.Array.{column_of, dtype_of, rows}
use Rattle.runend_array.specs.declared.array_ref.ArrayRef.{ArrayRef}
use Rattle.c_columns.specs.Ending.{HasFields, IsRefusedAs, WhereBoth}
use Rattle.c_columns.specs.declared.error_fields.ErrorFields.{ErrorFields}
use Rattle.c_columns.proofs.Endings.{as_error}
use Rattle.c_kernels.specs.Floats.{AreComparedBy, EndsFirstBy, EndsOnFloats, HoldsBy}

abbrev pub Held : Type 0
Held = Option (ArrayRef Global)

abbrev Fault : Type 0
Fault = DType → Option VortexError

-- ---- The fault of a type comes first ----

pub first_of : {B : Type 0} (holds : Bool) (outcome : Result B VortexError) (error : VortexError) → (holds ≡ false → IsErrOf outcome TypeMismatch) → (if holds then None else Some TypeMismatch) ≡ Some error → IsErrOf outcome error
first_of true outcome error mismatch is = absurd (cc)
first_of false outcome error mismatch is = mismatch refl ∙ ap Err (cc)

pub no_bits : {B : Type 0} (t : DType) (outcome : Result B VortexError) (error : VortexError) → (is_bits t ≡ false → IsErrOf outcome TypeMismatch) → bits_fault t ≡ Some error → IsErrOf outcome error
no_bits t outcome error = first_of (is_bits t) outcome error

pub no_floats : {B : Type 0} (t : DType) (outcome : Result B VortexError) (error : VortexError) → (is_floats t ≡ false → IsErrOf outcome TypeMismatch) → floats_fault t ≡ Some error → IsErrOf outcome error
no_floats t outcome error = first_of (is_floats t) outcome error

-- ---- Endings ----

-- what is refused without a fault is refused for memory
pub short_only : (error : VortexError) → IsErrorFor None error → error ≡ OutOfMemory
short_only error (inl short) = short
short_only error (inr found) = absurd (cc)

first_ends : {B : Type 0} (fault : Option VortexError) (outcome : Result B VortexError) (code : ℤ) (fields : ErrorFields) → IsRefusedBy fault outcome → ((error : VortexError) → fault ≡ Some error → IsErrOf outcome error)
    → IfOk outcome (λ _. code ≡ pos 0) → IfErr outcome (λ why. IsRefusedAs why code fields) → EndsFirstBy fault code fields
first_ends None (Ok made) code fields refused first ok err = inl ok
first_ends None (Err why) code fields refused first ok err = inr (as_error why OutOfMemory code fields (short_only why refused) err.0 err.1)
first_ends (Some error) (Ok made) code fields refused first ok err = let other = first error refl in absurd (cc)
first_ends (Some error) (Err why) code fields refused first ok err =
    let other = first error refl in let same : why ≡ error = cc in as_error why error code fields same err.0 err.1

pub floats_empty : (fault : Fault) (c : Held) (code : ℤ) (fields : ErrorFields) → c ≡ None → code ≡ pos 22 → EndsOnFloats fault c code fields
floats_empty fault c code fields none is = subst (λ (h : Held). EndsOnFloats fault h code fields) (sym none) is

pub ends_held : {B : Type 0} (fault : Fault) (c : Held) (a : ArrayRef Global) (outcome : Result B VortexError) (code : ℤ) (fields : ErrorFields) → c ≡ Some a → IsRefusedBy (fault (dtype_of a)) outcome
    → ((error : VortexError) → fault (dtype_of a) ≡ Some error → IsErrOf outcome error) → IfOk outcome (λ _. code ≡ pos 0) → IfErr outcome (λ why. IsRefusedAs why code fields) → EndsOnFloats fault c code fields
ends_held fault c a outcome code fields some refused first ok err =
    subst (λ (h : Held). EndsOnFloats fault h code fields) (sym some) (first_ends (fault (dtype_of a)) outcome code fields refused first ok err)

-- of a call that answers a column
ok_code : {B X : Type 0} (outcome : Result B VortexError) (value : B → X) (out : Option X) (code : ℤ) → IfOk outcome (λ made. (code ≡ pos 0) × (out ≡ Some (value made))) → IfOk outcome (λ _. code ≡ pos 0)
ok_code (Ok made) value out code ok = ok.0
ok_code (Err why) value out code ok = ok

err_code : {B X : Type 0} (outcome : Result B VortexError) (out old : Option X) (code : ℤ) (fields : ErrorFields)
    → IfErr outcome (λ why. (code ≡ pos (number_of why)) × (code ≢ pos 0) × (out ≡ old) × HasFields why fields) → IfErr outcome (λ why. IsRefusedAs why code fields)
err_code (Ok made) out old code fields err = err
err_code (Err why) out old code fields err = (err.0, err.3)

pub column_ends : {B X : Type 0} (outcome : Result B VortexError) (value : B → X) (fault : Fault) (c : Held) (out old : Option X) (a : ArrayRef Global) (code : ℤ) (fields : ErrorFields) → c ≡ Some a
    → IsRefusedBy (fault (dtype_of a)) outcome → ((error : VortexError) → fault (dtype_of a) ≡ Some error → IsErrOf outcome error) → IfOk outcome (λ made. (code ≡ pos 0) × (out ≡ Some (value made)))
    → IfErr outcome (λ why. (code ≡ pos (number_of why)) × (code ≢ pos 0) × (out ≡ old) × HasFields why fields) → EndsOnFloats fault c code fields
column_ends outcome value fault c out old a code fields some refused first ok err =
    ends_held fault c a outcome code fields some refused first (ok_code outcome value out code ok) (err_code outcome out old code fields err)

pub column_made : {B X : Type 0} (outcome : Result B VortexError) (value : B → ArrayRef Global) (Made : ArrayRef Global → ArrayRef Global → Type 0) (c out : Held) (held old : X) (a : ArrayRef Global) (code : ℤ) (fields : ErrorFields)
    → c ≡ Some a → IfOk outcome (λ made. Made a (value made)) → IfOk outcome (λ made. out ≡ Some (value made))
    → IfErr outcome (λ why. (code ≡ pos (number_of why)) × (code ≢ pos 0) × (held ≡ old) × HasFields why fields) → code ≡ pos 0 → WhereBoth Made c out
column_made (Ok made) value Made c out held old a code fields some is ok err zero =
    subst (λ (h : Held). WhereBoth Made h out) (sym some) (subst (λ (h : Held). WhereBoth Made (Some a) h) (sym ok) is)
column_made (Err why) value Made c out held old a code fields some is ok err zero = absurd (err.1 zero)

-- of a comparison with a constant
abbrev fault_with : ℕ → Fault
fault_with bits dtype = constant_fault dtype bits

pub constant_empty : (bits : ℕ) (c : Held) (code : ℤ) (fields : ErrorFields) → c ≡ None → code ≡ pos 22 → EndsOnFloats (λ dtype. constant_fault dtype bits) c code fields
constant_empty bits c code fields none is = floats_empty (fault_with bits) c code fields none is

pub compared_ends : {B X : Type 0} (outcome : Result B VortexError) (value : B → X) (bits : ℕ) (c : Held) (out old : Option X) (a : ArrayRef Global) (code : ℤ) (fields : ErrorFields) → c ≡ Some a
    → IsRefusedBy (constant_fault (dtype_of a) bits) outcome → ((error : VortexError) → constant_fault (dtype_of a) bits ≡ Some error → IsErrOf outcome error) → IfOk outcome (λ made. (code ≡ pos 0) × (out ≡ Some (value made)))
    → IfErr outcome (λ why. (code ≡ pos (number_of why)) × (code ≢ pos 0) × (out ≡ old) × HasFields why fields) → EndsOnFloats (λ dtype. constant_fault dtype bits) c code fields
compared_ends outcome value bits c out old a code fields some refused first ok err = column_ends outcome value (fault_with bits) c out old a code fields some refused first ok err

pub truths_boxed : {B : Type 0} (is_ieee by : Bool) (operator : CompareOperator) (constant : ℕ) (floats : ArrayRef Global) (runs : Runs) (outcome : Result B VortexError) (value : B → ArrayRef Global) → is_ieee ≡ by
    → AreTruthRuns (format_of (dtype_of floats)) (λ other. HoldsBy by operator (format_of (dtype_of floats)) other constant) (rows floats) (nullability_of (dtype_of floats)) runs
    → IfOk outcome (λ made. column_of (value made) ≡ column_of_runs runs) → IfOk outcome (λ made. AreComparedBy is_ieee operator constant floats (value made))
truths_boxed is_ieee by operator constant floats runs (Ok made) value same are form =
    subst (λ (b : Bool). AreComparedBy b operator constant floats (value made)) (sym same) (record { runs = runs; compared = are; is = form })
truths_boxed is_ieee by operator constant floats runs (Err why) value same are form = form
