-- Rows that a function of native numbers is asked for.
use Rattle.std.specs.Prelude.{◌≡◌, ℤ, Bool, true, false, List, Contains, Option, Some, None, option_map, if◌then◌else◌}
use Rattle.column_base.specs.contracts.dtype.PTypePartialEq.TheImpl as ptype_eq
use Rattle.column_base.specs.declared.dtype.PType.{PType}
use Rattle.column_base.specs.declared.dtype.DType.{DType}
use Rattle.column_base.specs.declared.dtype.DType.TheVariants as column
use Rattle.column_base.specs.declared.error.VortexError.{VortexError}
use Rattle.column_base.specs.declared.error.VortexError.TheVariants.{TypeMismatch}
use Rattle.column_core.specs.Value.{Number, Single, Truth, Value}
use Rattle.runend_array.specs.Column.{Column, OfLeaf, OfConstant, OfLists, OfRuns, Runs, runs_with}
use Rattle.runend_array.specs.Encoding.{IsComputedFlat}
use Rattle.runend_array.specs.SessionForm.{SessionForm, is_registered_in}
use Rattle.runend_array.specs.declared.session.Kernel.TheVariants.{ScalarFn}
use Rattle.runend_column.specs.VisibleForm.{IsOverVisibleRuns}

-- an optional native value, whose number is known, as a row
abbrev pub number_row : {S : Type 0} → (S → ℤ) → Option S → Option Value
number_row number value = option_map (λ s. Single (Number (number s))) value

-- an optional boolean as a row
abbrev pub truth_row : Option Bool → Option Value
truth_row truth = option_map (λ b. Single (Truth b)) truth

-- the function may be called on each row's value
abbrev pub MayAsk : {X : Type 0} → (X → Option Value) → (X → Type 0) → List (Option Value) → Type 0
MayAsk {X} row_of may_call rows = (x : X) → Contains rows (row_of x) → may_call x

-- the answer is one that the function owes for the row's value
pub record IsOwed {X Y : Type 0} (row_of : X → Option Value) (answer_of : Y → Option Value) (answers : X → Y → Type 0) (row answer : Option Value) : Type 0 where
  pub asked : X
  pub given : Y
  pub of_row : row ≡ row_of asked
  pub is_answer : answer ≡ answer_of given
  pub owed : answers asked given

-- whether the type is that of these native numbers
abbrev pub is_native : PType → DType → Bool
is_native ptype (column.Bool n) = false
is_native ptype (column.Primitive t n) = (ptype_eq.ghosts).eq t ptype
is_native ptype (column.Decimal d n) = false
is_native ptype (column.Utf8 n) = false
is_native ptype (column.Binary n) = false
is_native ptype (column.List e n) = false

-- rows of another type
abbrev pub native_fault : PType → DType → Option VortexError
native_fault ptype dtype = if is_native ptype dtype then None else Some TypeMismatch

-- the visible runs are kept, or the answers are flat as a call computes them
abbrev pub IsMappedRuns : Bool → Runs → Column → Type 0
IsMappedRuns true runs mapped = IsOverVisibleRuns runs mapped
IsMappedRuns false runs mapped = IsComputedFlat mapped

-- a run column keeps its visible runs where scalar functions are registered; else the answers are flat
abbrev pub IsMappedForm : SessionForm → Column → Column → Type 0
IsMappedForm session (OfLeaf leaf) mapped = IsComputedFlat mapped
IsMappedForm session (OfConstant constant) mapped = IsComputedFlat mapped
IsMappedForm session (OfLists lists) mapped = IsComputedFlat mapped
IsMappedForm session (OfRuns ends_type ends values offset count) mapped =
    IsMappedRuns (is_registered_in session ScalarFn) (runs_with ends_type ends values offset count) mapped
