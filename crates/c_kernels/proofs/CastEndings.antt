-- How casts by runs end, and what they make.
use Rattle.std.proofs.Common.{◌≡◌, ◌≢◌, ◌∙◌, ℤ, pos, ap, refl, sym, subst, inl, inr, Bool, true, false, List, map}
use Rattle.std.specs.Prelude.{IfErr, IfOk, IsErrAnd, IsErrOf, IsOkUnless, Option, Some, None, Result, Ok, Err, if◌then◌else◌}
use Rattle.std.specs.Global.{Global}
use Rattle.column_base.specs.declared.dtype.DType.{DType}
use Rattle.column_base.specs.declared.dtype.PType.{PType}
use Rattle.column_base.specs.declared.dtype.DType.TheVariants as column
use Rattle.column_base.specs.Types.{nullability_of}
use Rattle.column_base.specs.declared.error.VortexError.{VortexError}
use Rattle.column_base.specs.declared.error.VortexError.TheVariants.{OutOfMemory, TypeMismatch}
use Rattle.column_base.specs.Error.{number_of}
use Rattle.column_core.specs.Refusal.{IsErrorFor}
use Rattle.column_sums.specs.SumAnswer.{number_in}
use Rattle.float_bits.specs.declared.formats.FloatFormat.{FloatFormat}
use Rattle.column_floats.specs.Casts.{Becomes, IsCastRefusal, IsKeyOfInteger, IsSameKey}
use Rattle.column_floats.specs.Formats.{floats_fault, format_of, is_floats, keys_of_format}
use Rattle.runend_array.specs.Array.{column_of, dtype_of, rows}
use Rattle.runend_array.specs.Column.{Runs, column_of_runs}
use Rattle.runend_array.specs.declared.array_ref.ArrayRef.{ArrayRef}
use Rattle.runend_floats.specs.CastRuns.{AreCastRuns, integers_fault, is_integers}
use Rattle.c_columns.specs.Ending.{HasFields, IsRefusedAs}
use Rattle.c_columns.specs.declared.error_fields.ErrorFields.{ErrorFields}
use Rattle.c_columns.proofs.Endings.{as_error}
use Rattle.c_kernels.specs.FloatCasts.{AreCast, AreFloatsCast, AreIntegersCast, AreKeysCast, Becoming, EndsByCast, EndsOnCast, FailsAsFloats, FailsAsIntegers, FailsAsKeys, FloatBecomes, IntegerBecomes, IsCastFailure, KeyBecomes}
use Rattle.c_kernels.proofs.FloatEndings.{first_of, short_only}

abbrev Held : Type 0
Held = Option (ArrayRef Global)

abbrev Fault : Type 0
Fault = DType → Option VortexError

-- ---- The column that a cast makes ----

cast_boxed : {B : Type 0} (Casts : Becoming) (target : PType) (given : ArrayRef Global) (runs : Runs) (outcome : Result B VortexError) (value : B → ArrayRef Global)
    → AreCastRuns Casts (rows given) (column.Primitive target (nullability_of (dtype_of given))) runs → IfOk outcome (λ made. column_of (value made) ≡ column_of_runs runs)
    → IfOk outcome (λ made. AreCast Casts target given (value made))
cast_boxed Casts target given runs (Ok made) value are form = record { runs = runs; cast = are; is = form }
cast_boxed Casts target given runs (Err why) value are form = form

pub floats_boxed : {B : Type 0} (is_rounded by : Bool) (to : FloatFormat) (floats : ArrayRef Global) (runs : Runs) (outcome : Result B VortexError) (value : B → ArrayRef Global) → is_rounded ≡ by
    → AreCastRuns (FloatBecomes by (format_of (dtype_of floats)) to) (rows floats) (column.Primitive (keys_of_format to) (nullability_of (dtype_of floats))) runs
    → IfOk outcome (λ made. column_of (value made) ≡ column_of_runs runs) → IfOk outcome (λ made. AreFloatsCast is_rounded to floats (value made))
floats_boxed is_rounded by to floats runs outcome value is are form =
    subst (λ (b : Bool). IfOk outcome (λ made. AreFloatsCast b to floats (value made))) (sym is) (cast_boxed (FloatBecomes by (format_of (dtype_of floats)) to) (keys_of_format to) floats runs outcome value are form)

pub integers_boxed : {B : Type 0} (is_rounded by : Bool) (to : FloatFormat) (integers : ArrayRef Global) (runs : Runs) (outcome : Result B VortexError) (value : B → ArrayRef Global) → is_rounded ≡ by
    → AreCastRuns (IntegerBecomes by to) (rows integers) (column.Primitive (keys_of_format to) (nullability_of (dtype_of integers))) runs
    → IfOk outcome (λ made. column_of (value made) ≡ column_of_runs runs) → IfOk outcome (λ made. AreIntegersCast is_rounded to integers (value made))
integers_boxed is_rounded by to integers runs outcome value is are form =
    subst (λ (b : Bool). IfOk outcome (λ made. AreIntegersCast b to integers (value made))) (sym is) (cast_boxed (IntegerBecomes by to) (keys_of_format to) integers runs outcome value are form)

pub keys_boxed : {B : Type 0} (to : PType) (floats : ArrayRef Global) (runs : Runs) (outcome : Result B VortexError) (value : B → ArrayRef Global)
    → AreCastRuns (KeyBecomes to (format_of (dtype_of floats))) (rows floats) (column.Primitive to (nullability_of (dtype_of floats))) runs
    → IfOk outcome (λ made. column_of (value made) ≡ column_of_runs runs) → IfOk outcome (λ made. AreKeysCast to floats (value made))
keys_boxed to floats runs outcome value are form = cast_boxed (KeyBecomes to (format_of (dtype_of floats))) to floats runs outcome value are form

-- ---- Why a cast fails ----

pub no_integers : {B : Type 0} (t : DType) (outcome : Result B VortexError) (error : VortexError) → (is_integers t ≡ false → IsErrOf outcome TypeMismatch) → integers_fault t ≡ Some error → IsErrOf outcome error
no_integers t outcome error = first_of (is_integers t) outcome error

-- an error that is passed on is the one that was found
pub passed_on : {B C : Type 0} (given : Result B VortexError) (result : Result C VortexError) (why error : VortexError) → given ≡ Err why → IsErrAnd result (λ (e : VortexError). e ≡ why) → IsErrOf given error → IsErrOf result error
passed_on given (Ok made) why error was passed first = absurd passed
passed_on given (Err other) why error was passed first = let same : why ≡ error = cc in ap Err (passed ∙ same)

-- a type without a fault is the one that is wanted
wanted : (holds : Bool) → (if holds then None else Some TypeMismatch) ≡ None → holds ≡ true
wanted true none = refl
wanted false none = absurd (cc)

-- for memory, whether it rounds or not
short : (is_rounded : Bool) (Casts : Becoming) (numbers : List (Option ℤ)) (why : VortexError) → why ≡ OutOfMemory → IsCastFailure is_rounded Casts numbers why
short false Casts numbers why is = inl is
short true Casts numbers why is = is

pub floats_box_fails : {B : Type 0} (is_rounded : Bool) (to : FloatFormat) (floats : ArrayRef Global) (outcome : Result B VortexError) → IsOkUnless outcome OutOfMemory → floats_fault (dtype_of floats) ≡ None
    → IfErr outcome (FailsAsFloats is_rounded to floats)
floats_box_fails is_rounded to floats (Ok made) only none = tt
floats_box_fails is_rounded to floats (Err why) only none = short is_rounded (FloatBecomes is_rounded (format_of (dtype_of floats)) to) (map number_in (rows floats)) why only

pub integers_box_fails : {B : Type 0} (is_rounded : Bool) (to : FloatFormat) (integers : ArrayRef Global) (outcome : Result B VortexError) → IsOkUnless outcome OutOfMemory → integers_fault (dtype_of integers) ≡ None
    → IfErr outcome (FailsAsIntegers is_rounded to integers)
integers_box_fails is_rounded to integers (Ok made) only none = tt
integers_box_fails is_rounded to integers (Err why) only none = short is_rounded (IntegerBecomes is_rounded to) (map number_in (rows integers)) why only

pub keys_box_fails : {B : Type 0} (to : PType) (floats : ArrayRef Global) (outcome : Result B VortexError) → IsOkUnless outcome OutOfMemory → floats_fault (dtype_of floats) ≡ None → IfErr outcome (FailsAsKeys to floats)
keys_box_fails to floats (Ok made) only none = tt
keys_box_fails to floats (Err why) only none = inl only

without_fault : (fault : Option VortexError) (why : VortexError) → fault ≡ None → IsErrorFor fault why → why ≡ OutOfMemory
without_fault fault why none refused = short_only why (subst (λ (f : Option VortexError). IsErrorFor f why) none refused)

pub rounded_floats_fail : (is_rounded : Bool) (to : FloatFormat) (floats : ArrayRef Global) (why : VortexError) → IsErrorFor (floats_fault (dtype_of floats)) why → floats_fault (dtype_of floats) ≡ None
    → FailsAsFloats is_rounded to floats why
rounded_floats_fail is_rounded to floats why refused none = short is_rounded (FloatBecomes is_rounded (format_of (dtype_of floats)) to) (map number_in (rows floats)) why (without_fault (floats_fault (dtype_of floats)) why none refused)

pub exact_floats_fail : (is_rounded : Bool) (to : FloatFormat) (floats : ArrayRef Global) (why : VortexError) → is_rounded ≡ false
    → (is_floats (dtype_of floats) ≡ true → IsCastRefusal (Becomes (keys_of_format to) (IsSameKey (format_of (dtype_of floats)) to)) (map number_in (rows floats)) why) → floats_fault (dtype_of floats) ≡ None
    → FailsAsFloats is_rounded to floats why
exact_floats_fail is_rounded to floats why is refused none = subst (λ (b : Bool). FailsAsFloats b to floats why) (sym is) (refused (wanted (is_floats (dtype_of floats)) none))

pub rounded_integers_fail : (is_rounded : Bool) (to : FloatFormat) (integers : ArrayRef Global) (why : VortexError) → IsErrorFor (integers_fault (dtype_of integers)) why → integers_fault (dtype_of integers) ≡ None
    → FailsAsIntegers is_rounded to integers why
rounded_integers_fail is_rounded to integers why refused none = short is_rounded (IntegerBecomes is_rounded to) (map number_in (rows integers)) why (without_fault (integers_fault (dtype_of integers)) why none refused)

pub exact_integers_fail : (is_rounded : Bool) (to : FloatFormat) (integers : ArrayRef Global) (why : VortexError) → is_rounded ≡ false
    → (is_integers (dtype_of integers) ≡ true → IsCastRefusal (Becomes (keys_of_format to) (IsKeyOfInteger to)) (map number_in (rows integers)) why) → integers_fault (dtype_of integers) ≡ None
    → FailsAsIntegers is_rounded to integers why
exact_integers_fail is_rounded to integers why is refused none = subst (λ (b : Bool). FailsAsIntegers b to integers why) (sym is) (refused (wanted (is_integers (dtype_of integers)) none))

pub keys_fail : (to : PType) (floats : ArrayRef Global) (why : VortexError) → (is_floats (dtype_of floats) ≡ true → FailsAsKeys to floats why) → floats_fault (dtype_of floats) ≡ None → FailsAsKeys to floats why
keys_fail to floats why refused none = refused (wanted (is_floats (dtype_of floats)) none)

-- ---- How a call ends ----

pub cast_empty : (fault : Fault) (Fails : ArrayRef Global → VortexError → Type 0) (c : Held) (code : ℤ) (fields : ErrorFields) → c ≡ None → code ≡ pos 22 → EndsOnCast fault Fails c code fields
cast_empty fault Fails c code fields none is = subst (λ (h : Held). EndsOnCast fault Fails h code fields) (sym none) is

-- what came of a cast ends so
module _ {B X : Type 0} (value : B → X) (out old : Option X) (code : ℤ) (fields : ErrorFields) where
  abbrev IsDone : B → Type 0
  IsDone made = (code ≡ pos 0) × (out ≡ Some (value made))

  abbrev IsRefused : VortexError → Type 0
  IsRefused why = (code ≡ pos (number_of why)) × (code ≢ pos 0) × (out ≡ old) × HasFields why fields

  outcome_ends : (fault : Option VortexError) (Fails : VortexError → Type 0) (outcome : Result B VortexError) → (fault ≡ None → IfErr outcome Fails) → ((error : VortexError) → fault ≡ Some error → IsErrOf outcome error)
      → IfOk outcome IsDone → IfErr outcome IsRefused → EndsByCast fault Fails code fields
  outcome_ends None Fails (Ok made) refused first ok err = inl ok.0
  outcome_ends None Fails (Err why) refused first ok err = inr (why, refused refl, (err.0, err.3))
  outcome_ends (Some error) Fails (Ok made) refused first ok err = let other = first error refl in absurd (cc)
  outcome_ends (Some error) Fails (Err why) refused first ok err =
      let other = first error refl in let same : why ≡ error = cc in as_error why error code fields same err.0 err.3

ends_held : {B X : Type 0} (value : B → X) (fault : Fault) (Fails : ArrayRef Global → VortexError → Type 0) (outcome : Result B VortexError) (c : Held) (out old : Option X) (a : ArrayRef Global) (code : ℤ) (fields : ErrorFields) → c ≡ Some a
    → (fault (dtype_of a) ≡ None → IfErr outcome (Fails a)) → ((error : VortexError) → fault (dtype_of a) ≡ Some error → IsErrOf outcome error)
    → IfOk outcome (λ made. (code ≡ pos 0) × (out ≡ Some (value made)))
    → IfErr outcome (λ why. (code ≡ pos (number_of why)) × (code ≢ pos 0) × (out ≡ old) × HasFields why fields) → EndsOnCast fault Fails c code fields
ends_held value fault Fails outcome c out old a code fields some refused first ok err =
    subst (λ (h : Held). EndsOnCast fault Fails h code fields) (sym some) (outcome_ends value out old code fields (fault (dtype_of a)) (Fails a) outcome refused first ok err)

-- of each cast
pub floats_end : {B X : Type 0} (is_rounded : Bool) (format : FloatFormat) (outcome : Result B VortexError) (value : B → X) (c : Held) (out old : Option X) (a : ArrayRef Global) (code : ℤ) (fields : ErrorFields) → c ≡ Some a
    → (floats_fault (dtype_of a) ≡ None → IfErr outcome (FailsAsFloats is_rounded format a)) → ((error : VortexError) → floats_fault (dtype_of a) ≡ Some error → IsErrOf outcome error)
    → IfOk outcome (λ made. (code ≡ pos 0) × (out ≡ Some (value made)))
    → IfErr outcome (λ why. (code ≡ pos (number_of why)) × (code ≢ pos 0) × (out ≡ old) × HasFields why fields) → EndsOnCast floats_fault (FailsAsFloats is_rounded format) c code fields
floats_end is_rounded format outcome value c out old a code fields some refused first ok err =
    ends_held value floats_fault (FailsAsFloats is_rounded format) outcome c out old a code fields some refused first ok err

pub integers_end : {B X : Type 0} (is_rounded : Bool) (format : FloatFormat) (outcome : Result B VortexError) (value : B → X) (c : Held) (out old : Option X) (a : ArrayRef Global) (code : ℤ) (fields : ErrorFields) → c ≡ Some a
    → (integers_fault (dtype_of a) ≡ None → IfErr outcome (FailsAsIntegers is_rounded format a)) → ((error : VortexError) → integers_fault (dtype_of a) ≡ Some error → IsErrOf outcome error)
    → IfOk outcome (λ made. (code ≡ pos 0) × (out ≡ Some (value made)))
    → IfErr outcome (λ why. (code ≡ pos (number_of why)) × (code ≢ pos 0) × (out ≡ old) × HasFields why fields) → EndsOnCast integers_fault (FailsAsIntegers is_rounded format) c code fields
integers_end is_rounded format outcome value c out old a code fields some refused first ok err =
    ends_held value integers_fault (FailsAsIntegers is_rounded format) outcome c out old a code fields some refused first ok err

pub keys_end : {B X : Type 0} (ptype : PType) (outcome : Result B VortexError) (value : B → X) (c : Held) (out old : Option X) (a : ArrayRef Global) (code : ℤ) (fields : ErrorFields) → c ≡ Some a
    → (floats_fault (dtype_of a) ≡ None → IfErr outcome (FailsAsKeys ptype a)) → ((error : VortexError) → floats_fault (dtype_of a) ≡ Some error → IsErrOf outcome error)
    → IfOk outcome (λ made. (code ≡ pos 0) × (out ≡ Some (value made)))
    → IfErr outcome (λ why. (code ≡ pos (number_of why)) × (code ≢ pos 0) × (out ≡ old) × HasFields why fields) → EndsOnCast floats_fault (FailsAsKeys ptype) c code fields
keys_end ptype outcome value c out old a code fields some refused first ok err =
    ends_held value floats_fault (FailsAsKeys ptype) outcome c out old a code fields some refused first ok err
