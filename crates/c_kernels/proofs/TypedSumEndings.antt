-- How the call of a sum ends, and what it reports.
use Rattle.std.proofs.Common.{◌≡◌, ◌≢◌, ◌∙◌, ℤ, pos, ap, refl, sym, subst, inl, inr}
use Rattle.std.specs.Prelude.{IfErr, IfOk, IsSomeAnd, Option, Some, None, Result, Ok, Err, nat_abs, nat_eq, true}
use Rattle.std.proofs.lemmas.Bool.{false≢true}
use Rattle.std.specs.Global.{Global}
use Rattle.column_base.specs.declared.error.VortexError.{VortexError}
use Rattle.column_base.specs.declared.error.VortexError.TheVariants.{OutOfMemory, Unsupported}
use Rattle.column_base.specs.Error.{number_of}
use Rattle.column_core.specs.Refusal.{IsErrorFor}
use Rattle.runend_array.specs.Array.{column_of}
use Rattle.runend_array.specs.declared.session.Kernel.TheVariants.{Sum}
use Rattle.runend_decimals.specs.declared.fault.DecimalError.{DecimalError}
use Rattle.runend_decimals.specs.declared.fault.DecimalError.TheVariants.{Overflow, Refused}
use Rattle.typed_columns.specs.Typed.{typed_of}
use Rattle.typed_columns.specs.declared.typed_column.TypedColumn.{TypedColumn}
use Rattle.typed_kernels.specs.Sums.{summand_fault, summand_of, IsTypedSumError}
use Rattle.typed_kernels.specs.declared.sums.Summand.{Summand}
use Rattle.typed_kernels.specs.declared.sums.Summand.TheVariants.{Integers}
use Rattle.c_columns.specs.Ending.{IsRefusedAs}
use Rattle.c_columns.specs.Sessions.{IsReadInPlaceIn}
use Rattle.c_columns.specs.declared.error_fields.ErrorFields.{ErrorFields}
use Rattle.c_columns.specs.declared.sessions.Session.{Session}
use Rattle.c_columns.proofs.Endings.{as_error}
use Rattle.c_columns.proofs.Short.{done_not_short, refused_short}
use Rattle.c_kernels.specs.Floats.{EndsFirstBy}
use Rattle.c_kernels.specs.TypedSums.{IsSumError, EndsOnSum, IsSumNeverShortOn, IsSumOf}
use Rattle.c_kernels.specs.declared.typed_sums.Total.{Total}
use Rattle.c_kernels.proofs.FloatEndings.{short_only}

abbrev Held : Type 0
Held = Option (TypedColumn Global)

abbrev Outcome : Type 0
Outcome = Result Total DecimalError

pub sum_empty : (c : Held) (code : ℤ) (fields : ErrorFields) → c ≡ None → code ≡ pos 22 → EndsOnSum c code fields
sum_empty c code fields none is = subst (λ (h : Held). EndsOnSum h code fields) (sym none) is

pub short_empty : (s : Session) (c : Held) (code : ℤ) → c ≡ None → IsSumNeverShortOn s c code
short_empty s c code none = subst (λ (h : Held). IsSumNeverShortOn s h code) (sym none) tt

-- a call that is not refused had rows that are added
added : (found : Total) (summand : Option Summand) (code : ℤ) (fields : ErrorFields) → (summand ≡ None → Ok found ≡ Err (Refused Unsupported)) → code ≡ pos 0 → EndsFirstBy (summand_fault summand) code fields
added found None code fields first is = let other = first refl in absurd (cc other)
added found (Some summand) code fields first is = inl is

same_error : (outcome : Outcome) (why error : VortexError) → outcome ≡ Err (Refused why) → outcome ≡ Err (Refused error) → why ≡ error
same_error outcome why error is other = cc

refused_ends : (outcome : Outcome) (summand : Option Summand) (why : VortexError) (code : ℤ) (fields : ErrorFields) → outcome ≡ Err (Refused why)
    → (summand ≡ None → outcome ≡ Err (Refused Unsupported)) → IsErrorFor (summand_fault summand) why → IsRefusedAs why code fields → EndsFirstBy (summand_fault summand) code fields
refused_ends outcome None why code fields is first refused told = as_error why Unsupported code fields (same_error outcome why Unsupported is (first refl)) told.0 told.1
refused_ends outcome (Some summand) why code fields is first refused told = inr (as_error why OutOfMemory code fields (short_only why refused) told.0 told.1)

outcome_ends : (a : TypedColumn Global) (outcome : Outcome) (total old : Total) (code : ℤ) (fields : ErrorFields) → IfErr outcome (IsTypedSumError (typed_of a))
    → (summand_of (typed_of a) ≡ None → outcome ≡ Err (Refused Unsupported)) → IfOk outcome (λ found. (code ≡ pos 0) × (total ≡ found))
    → IfErr outcome (λ why. (code ≢ pos 0) × IsSumError why code fields × (total ≡ old)) → EndsOnSum (Some a) code fields
outcome_ends a (Ok found) total old code fields refused first ok err = inl (added found (summand_of (typed_of a)) code fields first ok.0)
outcome_ends a (Err (Refused why)) total old code fields refused first ok err = inl (refused_ends (Err (Refused why)) (summand_of (typed_of a)) why code fields refl first refused err.1)
outcome_ends a (Err (Overflow row)) total old code fields refused first ok err = inr (record { row = row; decimals = refused.0; leaving = refused.1; told = err.1 })

pub sum_ends : (c : Held) (a : TypedColumn Global) (outcome : Outcome) (total old : Total) (code : ℤ) (fields : ErrorFields) → c ≡ Some a → IfErr outcome (IsTypedSumError (typed_of a))
    → (summand_of (typed_of a) ≡ None → outcome ≡ Err (Refused Unsupported)) → IfOk outcome (λ found. (code ≡ pos 0) × (total ≡ found))
    → IfErr outcome (λ why. (code ≢ pos 0) × IsSumError why code fields × (total ≡ old)) → EndsOnSum c code fields
sum_ends c a outcome total old code fields some refused first ok err =
    subst (λ (h : Held). EndsOnSum h code fields) (sym some) (outcome_ends a outcome total old code fields refused first ok err)

pub sum_told : (c : Held) (a : TypedColumn Global) (outcome : Outcome) (total old : Total) (code : ℤ) (fields : ErrorFields) → c ≡ Some a → IfOk outcome (IsSumOf (typed_of a))
    → IfOk outcome (λ found. (code ≡ pos 0) × (total ≡ found)) → IfErr outcome (λ why. (code ≢ pos 0) × IsSumError why code fields × (total ≡ old))
    → code ≡ pos 0 → IsSomeAnd c (λ x. IsSumOf (typed_of x) total)
sum_told c a (Ok found) total old code fields some is ok err zero =
    subst (λ (h : Held). IsSomeAnd h (λ x. IsSumOf (typed_of x) total)) (sym some) (subst (λ (t : Total). IsSumOf (typed_of a) t) (sym ok.1) is)
sum_told c a (Err why) total old code fields some is ok err zero = absurd (err.0 zero)

-- a call that had its memory does not answer 21
not_short : (outcome : Outcome) (total old : Total) (code : ℤ) (fields : ErrorFields) → outcome ≢ Err (Refused OutOfMemory) → IfOk outcome (λ found. (code ≡ pos 0) × (total ≡ found))
    → IfErr outcome (λ why. (code ≢ pos 0) × IsSumError why code fields × (total ≡ old)) → code ≢ pos (number_of OutOfMemory)
not_short (Ok found) total old code fields long ok err = done_not_short code ok.0
not_short (Err (Refused why)) total old code fields long ok err = λ short. long (ap (λ (e : VortexError). Err (Refused e)) (refused_short why code err.1.0 short))
not_short (Err (Overflow row)) total old code fields long ok err = λ short. absurd (false≢true (ap (λ (z : ℤ). nat_eq (nat_abs z) 21) (sym err.1.0 ∙ short)))

pub never_short : (s : Session) (c : Held) (a : TypedColumn Global) (outcome : Outcome) (total old : Total) (code : ℤ) (fields : ErrorFields) → c ≡ Some a
    → (summand_of (typed_of a) ≡ Some Integers → IsReadInPlaceIn s Sum (column_of a.array) → outcome ≢ Err (Refused OutOfMemory))
    → IfOk outcome (λ found. (code ≡ pos 0) × (total ≡ found)) → IfErr outcome (λ why. (code ≢ pos 0) × IsSumError why code fields × (total ≡ old)) → IsSumNeverShortOn s c code
never_short s c a outcome total old code fields some memory ok err =
    subst (λ (h : Held). IsSumNeverShortOn s h code) (sym some) (λ integers read. not_short outcome total old code fields (memory integers read) ok err)

-- an error that is passed on is the one that was
pub passed : {T U : Type 0} (outcome : Result T DecimalError) (other : Result U DecimalError) (why error : DecimalError) → outcome ≡ Err why → other ≡ Err why → other ≡ Err error → outcome ≡ Err error
passed outcome other why error is same short = let this : why ≡ error = cc in is ∙ ap (λ (e : DecimalError). Err e) this
