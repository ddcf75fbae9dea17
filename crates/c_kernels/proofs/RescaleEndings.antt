-- How casts to decimals and from decimals end, and what they make.
use Rattle.std.proofs.Common.{◌≡◌, ◌≢◌, ℤ, pos, refl, sym, subst, inl, inr, true, false, List, map, min}
use Rattle.std.specs.Prelude.{IfErr, IfOk, IsErrOf, Option, Some, None, Result, Ok, Err}
use Rattle.std.specs.Global.{Global}
use Rattle.column_base.specs.declared.dtype.DType.{DType}
use Rattle.column_base.specs.declared.dtype.DType.TheVariants as column
use Rattle.column_base.specs.declared.dtype.DecimalDType.{DecimalDType}
use Rattle.column_base.specs.declared.dtype.PType.{PType}
use Rattle.column_base.specs.declared.error.VortexError.{VortexError}
use Rattle.column_core.specs.Kinds.{is_numbers}
use Rattle.column_core.specs.Value.{Value}
use Rattle.column_sums.specs.SumAnswer.{number_in}
use Rattle.runend_array.specs.Array.{dtype_of}
use Rattle.runend_array.specs.declared.array_ref.ArrayRef.{ArrayRef}
use Rattle.runend_decimals.specs.Digits.{HasDigits}
use Rattle.runend_decimals.specs.Rows.{decimal_in, decimals_fault}
use Rattle.runend_decimals.specs.Scales.{scale_of, EachDecimal, IsHeldAt}
use Rattle.runend_decimals.specs.declared.fault.RescaleError.{RescaleError}
use Rattle.runend_decimals.specs.declared.fault.RescaleError.TheVariants.{Refused}
use Rattle.c_columns.specs.Ending.{WhereBoth}
use Rattle.c_columns.specs.declared.error_fields.ErrorFields.{ErrorFields}
use Rattle.c_kernels.specs.DecimalCasts.{exact_fault, exact_in, AllAreDecimals, EndsByRescale, EndsOnRescale, FailsAsDecimals, FailsAsWholes, IsRescaleErrorAs}

abbrev Held : Type 0
Held = Option (ArrayRef Global)

abbrev Fault : Type 0
Fault = DType → Option VortexError

-- each number is held, of a column of integers, which have no places
pub integers_held : {T E : Type 0} (t : DType) (to : DecimalDType) (rows : List (Option Value)) (result : Result T E) → is_numbers t ≡ true
    → IfOk result (λ _. EachDecimal (IsHeldAt (pos 0) to.scale (HasDigits (min to.precision 38))) (map number_in rows)) → IfOk result (λ _. AllAreDecimals t to (map (exact_in t) rows))
integers_held (column.Bool n) to rows result is held = absurd (cc)
integers_held (column.Primitive p n) to rows result is held = held
integers_held (column.Decimal d n) to rows result is held = absurd (cc)
integers_held (column.Utf8 n) to rows result is held = absurd (cc)
integers_held (column.Binary n) to rows result is held = absurd (cc)
integers_held (column.List e n) to rows result is held = absurd (cc)

-- and of one of decimals
pub decimals_held : {T E : Type 0} (t : DType) (to : DecimalDType) (rows : List (Option Value)) (result : Result T E) → is_numbers t ≡ false
    → IfOk result (λ _. EachDecimal (IsHeldAt (scale_of t) to.scale (HasDigits (min to.precision 38))) (map decimal_in rows)) → IfOk result (λ _. AllAreDecimals t to (map (exact_in t) rows))
decimals_held (column.Bool n) to rows result is held = held
decimals_held (column.Primitive p n) to rows result is held = absurd (cc)
decimals_held (column.Decimal d n) to rows result is held = held
decimals_held (column.Utf8 n) to rows result is held = held
decimals_held (column.Binary n) to rows result is held = held
decimals_held (column.List e n) to rows result is held = held

-- ---- How a call ends ----

pub rescale_empty : (fault : Fault) (Fails : ArrayRef Global → RescaleError → Type 0) (c : Held) (code : ℤ) (fields : ErrorFields) → c ≡ None → code ≡ pos 22 → EndsOnRescale fault Fails c code fields
rescale_empty fault Fails c code fields none is = subst (λ (h : Held). EndsOnRescale fault Fails h code fields) (sym none) is

-- what came of a cast ends so
module _ {B X : Type 0} (value : B → X) (out old : Option X) (code : ℤ) (fields : ErrorFields) where
  abbrev IsDone : B → Type 0
  IsDone made = (code ≡ pos 0) × (out ≡ Some (value made))

  abbrev IsRefused : RescaleError → Type 0
  IsRefused why = (code ≢ pos 0) × (out ≡ old) × IsRescaleErrorAs why code fields

  outcome_ends : (fault : Option VortexError) (Fails : RescaleError → Type 0) (outcome : Result B RescaleError) → (fault ≡ None → IfErr outcome Fails) → ((error : VortexError) → fault ≡ Some error → IsErrOf outcome (Refused error))
      → IfOk outcome IsDone → IfErr outcome IsRefused → EndsByRescale fault Fails code fields
  outcome_ends None Fails (Ok made) refused first ok err = inl ok.0
  outcome_ends None Fails (Err why) refused first ok err = inr (why, refused refl, err.2)
  outcome_ends (Some error) Fails (Ok made) refused first ok err = let other = first error refl in absurd (cc)
  outcome_ends (Some error) Fails (Err why) refused first ok err =
      let other = first error refl in let same : why ≡ Refused error = cc in subst (λ (e : RescaleError). IsRescaleErrorAs e code fields) same err.2

ends_held : {B X : Type 0} (value : B → X) (fault : Fault) (Fails : ArrayRef Global → RescaleError → Type 0) (outcome : Result B RescaleError) (c : Held) (out old : Option X) (a : ArrayRef Global) (code : ℤ) (fields : ErrorFields) → c ≡ Some a
    → (fault (dtype_of a) ≡ None → IfErr outcome (Fails a)) → ((error : VortexError) → fault (dtype_of a) ≡ Some error → IsErrOf outcome (Refused error))
    → IfOk outcome (λ made. (code ≡ pos 0) × (out ≡ Some (value made)))
    → IfErr outcome (λ why. (code ≢ pos 0) × (out ≡ old) × IsRescaleErrorAs why code fields) → EndsOnRescale fault Fails c code fields
ends_held value fault Fails outcome c out old a code fields some refused first ok err =
    subst (λ (h : Held). EndsOnRescale fault Fails h code fields) (sym some) (outcome_ends value out old code fields (fault (dtype_of a)) (Fails a) outcome refused first ok err)

-- of each cast
pub decimals_end : {B X : Type 0} (to : DecimalDType) (outcome : Result B RescaleError) (value : B → X) (c : Held) (out old : Option X) (a : ArrayRef Global) (code : ℤ) (fields : ErrorFields) → c ≡ Some a
    → (exact_fault (dtype_of a) ≡ None → IfErr outcome (FailsAsDecimals to a)) → ((error : VortexError) → exact_fault (dtype_of a) ≡ Some error → IsErrOf outcome (Refused error))
    → IfOk outcome (λ made. (code ≡ pos 0) × (out ≡ Some (value made)))
    → IfErr outcome (λ why. (code ≢ pos 0) × (out ≡ old) × IsRescaleErrorAs why code fields) → EndsOnRescale exact_fault (FailsAsDecimals to) c code fields
decimals_end to outcome value c out old a code fields some refused first ok err =
    ends_held value exact_fault (FailsAsDecimals to) outcome c out old a code fields some refused first ok err

pub wholes_end : {B X : Type 0} (ptype : PType) (outcome : Result B RescaleError) (value : B → X) (c : Held) (out old : Option X) (a : ArrayRef Global) (code : ℤ) (fields : ErrorFields) → c ≡ Some a
    → (decimals_fault (dtype_of a) ≡ None → IfErr outcome (FailsAsWholes ptype a)) → ((error : VortexError) → decimals_fault (dtype_of a) ≡ Some error → IsErrOf outcome (Refused error))
    → IfOk outcome (λ made. (code ≡ pos 0) × (out ≡ Some (value made)))
    → IfErr outcome (λ why. (code ≢ pos 0) × (out ≡ old) × IsRescaleErrorAs why code fields) → EndsOnRescale decimals_fault (FailsAsWholes ptype) c code fields
wholes_end ptype outcome value c out old a code fields some refused first ok err =
    ends_held value decimals_fault (FailsAsWholes ptype) outcome c out old a code fields some refused first ok err

-- ---- The column that a call makes ----

pub rescale_made : {B X : Type 0} (outcome : Result B RescaleError) (value : B → ArrayRef Global) (Made : ArrayRef Global → ArrayRef Global → Type 0) (c out : Held) (held old : X) (a : ArrayRef Global) (code : ℤ) (fields : ErrorFields)
    → c ≡ Some a → IfOk outcome (λ made. Made a (value made)) → IfOk outcome (λ made. out ≡ Some (value made))
    → IfErr outcome (λ why. (code ≢ pos 0) × (held ≡ old) × IsRescaleErrorAs why code fields) → code ≡ pos 0 → WhereBoth Made c out
rescale_made (Ok made) value Made c out held old a code fields some is ok err zero =
    subst (λ (h : Held). WhereBoth Made h out) (sym some) (subst (λ (h : Held). WhereBoth Made (Some a) h) (sym ok) is)
rescale_made (Err why) value Made c out held old a code fields some is ok err zero = absurd (err.0 zero)
