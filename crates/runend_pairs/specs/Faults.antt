-- Why answers are refused.
use Rattle.std.specs.Prelude.{◌≡◌, ◌⊎◌, ◌&&◌, ◌||◌, ℕ, if◌then◌else◌, Bool, true, false, List, Option, Some, None}
use Rattle.std.specs.Option.{option_or}
use Rattle.column_base.specs.declared.dtype.DType.{DType}
use Rattle.column_base.specs.declared.dtype.Nullability.{Nullability}
use Rattle.column_base.specs.declared.dtype.DType.TheVariants as column
use Rattle.column_base.specs.declared.error.VortexError.{VortexError}
use Rattle.column_base.specs.declared.error.VortexError.TheVariants.{OutOfMemory, TypeMismatch, Unsupported}
use Rattle.column_core.specs.Kinds.{is_numbers, list_fault, same_kind}
use Rattle.column_base.specs.declared.dtype.PType.{PType}
use Rattle.column_core.specs.Value.{IsLists, Value}
use Rattle.runend_array.specs.Encoding.{IsNumbersOf}
use Rattle.column_ops.specs.CompareFault.{length_fault}
use Rattle.runend_pairs.specs.Decimals.{is_decimals}
use Rattle.runend_pairs.specs.Operations.{IsLeftOf, IsOfKind}
use Rattle.runend_pairs.specs.declared.choices.PickRule.{PickRule}
use Rattle.runend_pairs.specs.declared.choices.PickRule.TheVariants.{FirstValid, Lesser, Greater, WhereTrue, WhereFalse}
use Rattle.runend_pairs.specs.Zipped.{IsFirstWithout}
use Rattle.runend_pairs.specs.declared.fault.ZipError.{ZipError}
use Rattle.runend_pairs.specs.declared.fault.ZipError.TheVariants.{Refused, Overflow}

-- whether the type is one of booleans
abbrev pub is_truths : DType → Bool
is_truths (column.Bool n) = true
is_truths (column.Primitive t n) = false
is_truths (column.Decimal d n) = false
is_truths (column.Utf8 n) = false
is_truths (column.Binary n) = false
is_truths (column.List e n) = false

-- why two columns of these types and numbers of rows are refused: unless both are of integers, of one native type, and
-- have as many rows
abbrev pub numeric_fault : DType → DType → ℕ → ℕ → Option VortexError
numeric_fault left right left_count right_count =
    if is_numbers left && is_numbers right then (if same_kind left right then length_fault left_count right_count else Some TypeMismatch) else Some Unsupported

-- both are of booleans, and have as many rows
abbrev pub boolean_fault : DType → DType → ℕ → ℕ → Option VortexError
boolean_fault left right left_count right_count = if is_truths left && is_truths right then length_fault left_count right_count else Some Unsupported

-- whether rows can be picked of a column of the type: it is one of integers, of decimals or of booleans
abbrev pub is_picked : DType → Bool
is_picked dtype = is_numbers dtype || (is_decimals dtype || is_truths dtype)

-- rows can be picked of both, both are of one type except for nullability, and have as many rows
abbrev pub pick_fault : DType → DType → ℕ → ℕ → Option VortexError
pick_fault left right left_count right_count =
    if is_picked left && is_picked right then (if same_kind left right then length_fault left_count right_count else Some TypeMismatch) else Some Unsupported

-- a mask is of booleans, rows can be picked of both columns, and all have as many rows
abbrev pub choice_fault : DType → DType → DType → ℕ → ℕ → ℕ → Option VortexError
choice_fault mask left right mask_count left_count right_count =
    if is_truths mask then option_or (pick_fault left right left_count right_count) (length_fault mask_count left_count) else Some Unsupported

-- a column is of booleans
abbrev pub truth_fault : DType → Option VortexError
truth_fault dtype = if is_truths dtype then None else Some Unsupported

-- two columns are not compared where both are lists of one type
abbrev pub equality_fault : DType → DType → Option VortexError
equality_fault left right = if same_kind left right then list_fault left else None

-- two columns that are worked pair by pair: neither is of lists, and they have as many rows
pub record AreSingle (left right : DType) (left_count right_count : ℕ) : Type 0 where
  pub left_is : ¬ IsLists left
  pub right_is : ¬ IsLists right
  pub counted : left_count ≡ right_count

-- the left column is one that a rule takes next to the right one
abbrev pub IsLeftFor : PickRule → DType → DType → Type 0
IsLeftFor FirstValid left right = same_kind left right ≡ true
IsLeftFor Lesser left right = same_kind left right ≡ true
IsLeftFor Greater left right = same_kind left right ≡ true
IsLeftFor WhereTrue left right = is_truths left ≡ true
IsLeftFor WhereFalse left right = is_truths left ≡ true

-- two columns that a rule picks rows of
pub record ArePicked (rule : PickRule) (left right : DType) (left_count right_count : ℕ) : Type 0 where
  pub kind : is_picked right ≡ true
  pub left_is : IsLeftFor rule left right
  pub counted : left_count ≡ right_count

-- the same, where the right column is of this type, with null or without
pub record AreOfKind (rule : PickRule) (dtype_in : Nullability → DType) (left right : DType) (left_count right_count : ℕ) : Type 0 where
  pub left_is : IsLeftOf rule dtype_in left
  pub right_is : IsOfKind dtype_in right
  pub left_single : ¬ IsLists left
  pub right_single : ¬ IsLists right
  pub counted : left_count ≡ right_count

-- two columns of integers of this native type, with as many rows
pub record AreNumbers (ptype : PType) (left right : DType) (left_count right_count : ℕ) : Type 0 where
  pub left_is : IsNumbersOf ptype left
  pub right_is : IsNumbersOf ptype right
  pub counted : left_count ≡ right_count

-- refused by the first row whose answer the type does not have, or for memory
abbrev pub IsZipRefusal : (Option Value → Type 0) → List (Option Value) → ZipError → Type 0
IsZipRefusal has answers (Refused error) = error ≡ OutOfMemory
IsZipRefusal has answers (Overflow row) = IsFirstWithout has answers row

-- the same, where a fault of the two columns comes before
abbrev pub IsCallRefusal : Option VortexError → (Option Value → Type 0) → List (Option Value) → ZipError → Type 0
IsCallRefusal fault has answers (Refused error) = (error ≡ OutOfMemory) ⊎ (fault ≡ Some error)
IsCallRefusal fault has answers (Overflow row) = (fault ≡ None) × IsFirstWithout has answers row
