-- What faults and types say of operations.
use Rattle.std.proofs.Common.{◌≡◌, ℕ, ℤ, pos, negsuc, Bool, true, false, List, Option, Some, None, refl, sym, subst, ◌∙◌, ap, arith, inl, FitsSigned}
use Rattle.std.proofs.lemmas.Int.{ints}
use Rattle.std.specs.Prelude.{◌&&◌, if◌then◌else◌, is_some, IsSome, IfErr, IfOk, IsOkUnless, Result, Ok, Err, ◌==◌}
use Rattle.std.specs.Int.{w128}
use Rattle.std.proofs.lemmas.Bool.{false≢true}
use Rattle.std.proofs.lemmas.Bool.Decides.{Decides-eqb}
use Rattle.column_base.specs.declared.dtype.Nullability.{Nullability}
use Rattle.column_base.specs.declared.dtype.Nullability.TheVariants.{NonNullable, Nullable}
use Rattle.column_base.specs.declared.dtype.PType.{PType}
use Rattle.column_base.specs.declared.dtype.PType.TheVariants.{U8, U16, U32, U64, I8, I16, I32, I64}
use Rattle.column_base.specs.declared.dtype.DType.{DType}
use Rattle.column_base.specs.declared.dtype.DType.TheVariants as column
use Rattle.column_base.specs.declared.error.VortexError.{VortexError}
use Rattle.column_base.specs.declared.error.VortexError.TheVariants.{ColumnLength, OutOfMemory, TypeMismatch, Unsupported}
use Rattle.column_base.specs.Types.{HasNumber, nullability_of, with_nullability}
use Rattle.column_core.specs.Kinds.{is_list, is_numbers, same_kind}
use Rattle.column_core.specs.Refusal.{IsRefusedBy}
use Rattle.column_core.specs.SameType.{same_dtype-decides}
use Rattle.column_core.specs.Value.{IsLists, Value}
use Rattle.column_ops.specs.CompareFault.{compare_column_fault, compare_scalar_fault, length_fault}
use Rattle.column_ops.specs.Comparing.{compared, either_nullability}
use Rattle.column_ops.specs.declared.operator.CompareOperator.{CompareOperator}
use Rattle.runend_array.specs.Encoding.{IsNumbersOf}
use Rattle.runend_pairs.specs.Faults.{boolean_fault, is_truths, numeric_fault, AreNumbers, AreSingle, IsCallRefusal, IsZipRefusal}
use Rattle.std.specs.Option.{option_or}
use Rattle.runend_pairs.specs.Operations.{IsNeverNull, boolean_of, connected, numeric_dtype, numeric_of, ptype_in, truth_of, truth_row}
use Rattle.runend_pairs.specs.declared.fault.ZipError.{ZipError}
use Rattle.runend_pairs.specs.declared.fault.ZipError.TheVariants.{Overflow, Refused}
use Rattle.runend_pairs.specs.declared.numerics.NumericOperator.{NumericOperator}
use Rattle.runend_pairs.specs.declared.booleans.BooleanOperator.{BooleanOperator}
use Rattle.runend_pairs.specs.declared.booleans.BooleanOperator.TheVariants.{And, Or}

-- numbers of the eight types have 128 bits
pub wide : (t : PType) (n : ℤ) → HasNumber t n → FitsSigned w128 n
wide U8 (pos n) has = record { sfits = omega (arith, ints, has.1) }
wide U8 (negsuc n) has = absurd (omega (arith, ints, has.0))
wide U16 (pos n) has = record { sfits = omega (arith, ints, has.1) }
wide U16 (negsuc n) has = absurd (omega (arith, ints, has.0))
wide U32 (pos n) has = record { sfits = omega (arith, ints, has.1) }
wide U32 (negsuc n) has = absurd (omega (arith, ints, has.0))
wide U64 (pos n) has = record { sfits = omega (arith, ints, has.1) }
wide U64 (negsuc n) has = absurd (omega (arith, ints, has.0))
wide I8 (pos n) has = record { sfits = omega (arith, has.sfits) }
wide I8 (negsuc n) has = record { sfits = omega (arith, has.sfits) }
wide I16 (pos n) has = record { sfits = omega (arith, has.sfits) }
wide I16 (negsuc n) has = record { sfits = omega (arith, has.sfits) }
wide I32 (pos n) has = record { sfits = omega (arith, has.sfits) }
wide I32 (negsuc n) has = record { sfits = omega (arith, has.sfits) }
wide I64 (pos n) has = record { sfits = omega (arith, has.sfits) }
wide I64 (negsuc n) has = record { sfits = omega (arith, has.sfits) }

-- a type that has null where either of two has it has none where neither has
both_required : (m n : Nullability) → either_nullability m n ≡ NonNullable → (m ≡ NonNullable) × (n ≡ NonNullable)
both_required NonNullable n none = (refl, none)
both_required Nullable n none = cc

-- an operation that makes no null of two values answers none where neither type has null
pub strict : (f : Option Value → Option Value → Option Value) (m n : Nullability) → ((a b : Option Value) → IsSome a → IsSome b → IsSome (f a b)) → either_nullability m n ≡ NonNullable → IsNeverNull m n f
strict f m n some none a b left right = let parts = both_required m n none in some a b (left parts.0) (right parts.1)

pub numeric_some : (operator : NumericOperator) (a b : Option Value) → IsSome a → IsSome b → IsSome (numeric_of operator a b)
numeric_some operator None b left right = absurd (false≢true left)
numeric_some operator (Some x) None left right = absurd (false≢true right)
numeric_some operator (Some x) (Some y) left right = refl

pub compared_some : (operator : CompareOperator) (a b : Option Value) → IsSome a → IsSome b → IsSome (compared operator a b)
compared_some operator None b left right = absurd (false≢true left)
compared_some operator (Some x) None left right = absurd (false≢true right)
compared_some operator (Some x) (Some y) left right = refl

connected_some : (operator : BooleanOperator) (x y : Bool) → is_some (connected operator (Some x) (Some y)) ≡ true
connected_some And true y = refl
connected_some And false y = refl
connected_some Or true y = refl
connected_some Or false y = refl

truth_row_some : (truth : Option Bool) → is_some truth ≡ true → IsSome (truth_row truth)
truth_row_some None some = cc
truth_row_some (Some b) some = refl

pub boolean_some : (operator : BooleanOperator) (a b : Option Value) → IsSome a → IsSome b → IsSome (boolean_of operator a b)
boolean_some operator None b left right = absurd (false≢true left)
boolean_some operator (Some x) None left right = absurd (false≢true right)
boolean_some operator (Some x) (Some y) left right = truth_row_some (connected operator (Some (truth_of x)) (Some (truth_of y))) (connected_some operator (truth_of x) (truth_of y))

-- columns that differ in rows have a fault
as_many : (left right : ℕ) (same : Bool) → same ≡ (left == right) → (if same then None else Some (ColumnLength left right)) ≡ None → left ≡ right
as_many left right true is none = (Decides-eqb left right).0 (sym is)
as_many left right false is none = cc

pub same_length : (left right : ℕ) → length_fault left right ≡ None → left ≡ right
same_length left right none = as_many left right (left == right) refl none

-- columns of integers without a fault: both are of one native type, and have as many rows
pub no_fault_of_three : (a b same : Bool) (rest : Option VortexError) → (if a && b then (if same then rest else Some TypeMismatch) else Some Unsupported) ≡ None
    → (a ≡ true) × (b ≡ true) × (same ≡ true) × (rest ≡ None)
no_fault_of_three true true true rest none = (refl, refl, refl, none)
no_fault_of_three true true false rest none = cc
no_fault_of_three true false same rest none = cc
no_fault_of_three false b same rest none = cc

same_numbers : (p : PType) (n : Nullability) (right : DType) → is_numbers right ≡ true → same_kind (column.Primitive p n) right ≡ true → IsNumbersOf p right
same_numbers p n (column.Bool m) numbers same = cc
same_numbers p n (column.Primitive t m) numbers same = let one = (same_dtype-decides (column.Primitive p NonNullable) (column.Primitive t NonNullable)).0 same in cc
same_numbers p n (column.Decimal d m) numbers same = cc
same_numbers p n (column.Utf8 m) numbers same = cc
same_numbers p n (column.Binary m) numbers same = cc
same_numbers p n (column.List e m) numbers same = cc

-- of two columns of integers without a fault both are of one native type, and have as many rows
pub numbers_of_both : (p : PType) (n : Nullability) (left right seen : DType) (left_count right_count : ℕ) → seen ≡ left → seen ≡ column.Primitive p n → numeric_fault left right left_count right_count ≡ None
    → AreNumbers p left right left_count right_count
numbers_of_both p n left right seen left_count right_count own is none =
    let is_left : left ≡ column.Primitive p n = sym own ∙ is in
    let known = no_fault_of_three (is_numbers left) (is_numbers right) (same_kind left right) (length_fault left_count right_count) none in
    record {
      left_is = subst (IsNumbersOf p) (sym is_left) refl;
      right_is = same_numbers p n right known.1 (subst (λ (t : DType). same_kind t right ≡ true) is_left known.2);
      counted = same_length left_count right_count known.3;
    }

-- without a fault the left column is of integers
pub left_numbers : (left right : DType) (left_count right_count : ℕ) → numeric_fault left right left_count right_count ≡ None → is_numbers left ≡ true
left_numbers left right left_count right_count none = (no_fault_of_three (is_numbers left) (is_numbers right) (same_kind left right) (length_fault left_count right_count) none).0

-- integers of one native type
pub single_numbers : (p : PType) (t : DType) → IsNumbersOf p t → ¬ IsLists t
single_numbers p (column.Bool n) is = λ h. h
single_numbers p (column.Primitive t n) is = λ h. h
single_numbers p (column.Decimal d n) is = λ h. h
single_numbers p (column.Utf8 n) is = λ h. h
single_numbers p (column.Binary n) is = λ h. h
single_numbers p (column.List e n) is = absurd is

pub ptype_of_numbers : (p : PType) (t : DType) → IsNumbersOf p t → ptype_in t ≡ p
ptype_of_numbers p (column.Bool n) is = absurd is
ptype_of_numbers p (column.Primitive t n) is = is
ptype_of_numbers p (column.Decimal d n) is = absurd is
ptype_of_numbers p (column.Utf8 n) is = absurd is
ptype_of_numbers p (column.Binary n) is = absurd is
ptype_of_numbers p (column.List e n) is = absurd is

-- booleans
pub single_truths : (t : DType) → is_truths t ≡ true → ¬ IsLists t
single_truths (column.Bool n) is = λ h. h
single_truths (column.Primitive t n) is = cc
single_truths (column.Decimal d n) is = cc
single_truths (column.Utf8 n) is = cc
single_truths (column.Binary n) is = cc
single_truths (column.List e n) is = cc

-- columns of booleans without a fault
no_fault_of_two : (a b : Bool) (rest : Option VortexError) → (if a && b then rest else Some Unsupported) ≡ None → (a ≡ true) × (b ≡ true) × (rest ≡ None)
no_fault_of_two true true rest none = (refl, refl, none)
no_fault_of_two true false rest none = cc
no_fault_of_two false b rest none = cc

pub no_boolean_fault : (left right : DType) (left_count right_count : ℕ) → boolean_fault left right left_count right_count ≡ None → AreSingle left right left_count right_count
no_boolean_fault left right left_count right_count none =
    let known = no_fault_of_two (is_truths left) (is_truths right) (length_fault left_count right_count) none in
    record {
      left_is = single_truths left known.0;
      right_is = single_truths right known.1;
      counted = same_length left_count right_count known.2;
    }

-- columns that are compared
lists_apart : (left right : DType) → compare_scalar_fault left right ≡ None → ¬ IsLists left
lists_apart (column.Bool n) right none = λ h. h
lists_apart (column.Primitive t n) right none = λ h. h
lists_apart (column.Decimal d n) right none = λ h. h
lists_apart (column.Utf8 n) right none = λ h. h
lists_apart (column.Binary n) right none = λ h. h
lists_apart (column.List e n) right none = cc

without_null_lists : (t : DType) → IsLists t → IsLists (with_nullability t NonNullable)
without_null_lists (column.Bool n) h = h
without_null_lists (column.Primitive t n) h = h
without_null_lists (column.Decimal d n) h = h
without_null_lists (column.Utf8 n) h = h
without_null_lists (column.Binary n) h = h
without_null_lists (column.List e n) h = h

lists_without_null : (t : DType) → IsLists (with_nullability t NonNullable) → IsLists t
lists_without_null (column.Bool n) h = h
lists_without_null (column.Primitive t n) h = h
lists_without_null (column.Decimal d n) h = h
lists_without_null (column.Utf8 n) h = h
lists_without_null (column.Binary n) h = h
lists_without_null (column.List e n) h = h

of_one_kind : (lists same : Bool) → (if lists then Some Unsupported else (if same then None else Some TypeMismatch)) ≡ None → same ≡ true
of_one_kind true same none = cc
of_one_kind false true none = refl
of_one_kind false false none = cc

pub neither : (first second : Option VortexError) → option_or first second ≡ None → (first ≡ None) × (second ≡ None)
neither None second none = (refl, none)
neither (Some error) second none = cc

pub no_compare_fault : (left right : DType) (left_count right_count : ℕ) → compare_column_fault left right left_count right_count ≡ None → AreSingle left right left_count right_count
no_compare_fault left right left_count right_count none =
    let known = neither (compare_scalar_fault left right) (length_fault left_count right_count) none in
    let one = of_one_kind (is_list left) (same_kind left right) known.0 in
    let same = (same_dtype-decides (with_nullability left NonNullable) (with_nullability right NonNullable)).0 one in
    record {
      left_is = lists_apart left right known.0;
      right_is = λ lists. lists_apart left right known.0 (lists_without_null left (subst IsLists (sym same) (without_null_lists right lists)));
      counted = same_length left_count right_count known.1;
    }

-- an operation whose type has every answer is refused for memory only
pub only_memory : {T : Type 0} (has : Option Value → Type 0) (rows : List (Option Value)) (result : Result T ZipError) → ((answer : Option Value) → has answer) → IfErr result (IsZipRefusal has rows)
    → IfErr result (λ error. error ≡ Refused OutOfMemory)
only_memory has rows (Ok value) total refused = tt
only_memory has rows (Err (Refused error)) total refused = ap Refused refused
only_memory has rows (Err (Overflow row)) total refused = absurd (refused.lacks (total refused.answer))

-- what holds of an answer that was passed on
pub kept_answer : {T : Type 0} (made : Result T ZipError) (given : Result T VortexError) (P : T → Type 0) → ((value : T) → given ≡ Ok value → made ≡ Ok value) → IfOk made P → IfOk given P
kept_answer made (Ok value) P same holds = subst (λ r. IfOk r P) (same value refl) holds
kept_answer made (Err error) P same holds = tt

-- a refusal where the columns have no fault
pub no_fault_before : {T : Type 0} (fault : Option VortexError) (has : Option Value → Type 0) (rows : List (Option Value)) (result : Result T ZipError) → fault ≡ None → IfErr result (IsZipRefusal has rows)
    → IfErr result (IsCallRefusal fault has rows)
no_fault_before fault has rows (Ok value) none refused = tt
no_fault_before fault has rows (Err (Refused error)) none refused = inl refused
no_fault_before fault has rows (Err (Overflow row)) none refused = (none, refused)

-- what is refused for memory only has no other fault
pub no_other_fault : {T : Type 0} (fault : Option VortexError) (result : Result T VortexError) → fault ≡ None → IsOkUnless result OutOfMemory → IsRefusedBy fault result
no_other_fault fault (Ok value) none only = none
no_other_fault fault (Err error) none only = inl only

-- the type of the answers of two columns of integers
pub numeric_dtype_is : (p : PType) (left right : DType) (n : Nullability) → IsNumbersOf p left → n ≡ either_nullability (nullability_of left) (nullability_of right) → column.Primitive p n ≡ numeric_dtype left right
numeric_dtype_is p left right n is same = λ i. column.Primitive (sym (ptype_of_numbers p left is) i) (same i)
