-- Constants whose one value is worked on: what is done to it is done to each row.
use Rattle.std.proofs.Common.{◌≡◌, ◌∙◌, ◌<◌, ℕ, zero, suc, [], ◌∷◌, Bool, true, false, Option, Some, None, cond, map, replicate, refl, sym, ap, arith}
use Rattle.std.specs.Prelude.{◌&&◌, ◌||◌, not, option_map, unwrap_or}
use Rattle.std.specs.Option.{option_or}
use Rattle.column_base.specs.declared.dtype.ElementDType.{ElementDType}
use Rattle.column_base.specs.declared.dtype.Nullability.{Nullability}
use Rattle.column_base.specs.declared.dtype.DType.{DType}
use Rattle.column_base.specs.declared.dtype.DType.TheVariants as column
use Rattle.column_base.specs.declared.error.VortexError.{VortexError}
use Rattle.column_base.specs.declared.error.VortexError.TheVariants.{Unsupported}
use Rattle.column_core.specs.Refusal.{first_fault}
use Rattle.column_core.specs.ScalarForm.{ScalarForm}
use Rattle.column_core.specs.Value.{FlatValue, IsLists, PlainColumn, Single, Value}
use Rattle.column_ops.specs.Cast.{can_cast, cast_fault, cast_row_fault}
use Rattle.column_ops.specs.Fill.{fill_dtype, fill_fault}
use Rattle.column_ops.specs.Comparing.{compare_with, compared}
use Rattle.column_ops.specs.declared.operator.CompareOperator.{CompareOperator}
use Rattle.runend_array.specs.Column.{Constant, OfConstant, plain_of, repeated}
use Rattle.runend_column.proofs.FilledRows.{lists_refused}
use Rattle.runend_commands.specs.Meaning.{rows_filled}

no_fault_repeated : {B : Type 0} (fault : B → Option VortexError) (x : B) (n : ℕ) → fault x ≡ None → first_fault fault (replicate n x) ≡ None
no_fault_repeated fault x zero none = refl
no_fault_repeated fault x (suc n) none =
    ap (λ (o : Option VortexError). option_or o (first_fault fault (replicate n x))) none ∙ no_fault_repeated fault x n none

-- equal items have the fault of one of them
pub repeated_fault : {B : Type 0} (fault : B → Option VortexError) (x : B) (n : ℕ) → 0 < n → first_fault fault (replicate n x) ≡ first_fault fault (replicate 1 x)
repeated_fault fault x zero some = absurd (omega arith)
repeated_fault fault x (suc n) some = elim (fault x) as (λ o. fault x ≡ o → first_fault fault (replicate (suc n) x) ≡ first_fault fault (replicate 1 x)) [
  | None ↦ λ none. no_fault_repeated fault x (suc n) none ∙ sym (no_fault_repeated fault x 1 none)
  | Some error ↦ λ is. ap (λ (o : Option VortexError). option_or o (first_fault fault (replicate n x))) is ∙ sym (ap (λ (o : Option VortexError). option_or o None) is)
] refl

-- what is made of equal items
pub map-repeated : {X Y : Type 0} (f : X → Y) (x : X) (n : ℕ) → map f (replicate n x) ≡ replicate n (f x)
map-repeated f x zero = refl
map-repeated f x (suc n) = ap (λ ys. f x ∷ ys) (map-repeated f x n)

-- a constant that has a row is cast as one row of it
pub cast_of_one : (constant : Constant) (to : DType) → 0 < constant.count → cast_fault (plain_of (OfConstant (repeated constant 1))) to ≡ cast_fault (plain_of (OfConstant constant)) to
cast_of_one constant to some =
    ap (λ (o : Option VortexError). cond (can_cast constant.dtype to) o (Some Unsupported))
    (sym (repeated_fault (cast_row_fault to) (option_map (λ (v : FlatValue). Single v) constant.value) constant.count some))

both_false : (a b : Bool) → ((a && false) || (b && false)) ≡ false
both_false true true = refl
both_false true false = refl
both_false false true = refl
both_false false false = refl

-- nothing is cast to lists
pub cast_single : (plain : PlainColumn) (to : DType) → cast_fault plain to ≡ None → ¬ IsLists to
cast_single plain (column.Bool n) none = λ lists. lists
cast_single plain (column.Primitive t n) none = λ lists. lists
cast_single plain (column.Decimal d n) none = λ lists. lists
cast_single plain (column.Utf8 n) none = λ lists. lists
cast_single plain (column.Binary n) none = λ lists. lists
cast_single plain (column.List e n) none = λ lists.
    let never : can_cast plain.dtype (column.List e n) ≡ false = both_false _ _ in
    let refused : cast_fault plain (column.List e n) ≡ Some Unsupported =
    ap (λ (b : Bool). cond b (first_fault (cast_row_fault (column.List e n)) plain.rows) (Some Unsupported)) never in
    absurd (cc (none, refused))

-- lists are not filled
pub fill_single : (dtype : DType) (scalar : ScalarForm) → fill_fault dtype scalar ≡ None → ¬ IsLists (fill_dtype dtype)
fill_single (column.Bool n) scalar none = λ lists. lists
fill_single (column.Primitive t n) scalar none = λ lists. lists
fill_single (column.Decimal d n) scalar none = λ lists. lists
fill_single (column.Utf8 n) scalar none = λ lists. lists
fill_single (column.Binary n) scalar none = λ lists. lists
fill_single (column.List e n) scalar none = λ lists. let refused = lists_refused (column.List e n) scalar tt in absurd (cc (none, refused))

-- the row that a filled row becomes
pub row_filled : Option Value → Option FlatValue → Option Value
row_filled row None = row
row_filled row (Some value) = Some (unwrap_or row (Single value))

pub filled-repeated : (row : Option Value) (value : Option FlatValue) (n : ℕ) → rows_filled (replicate n row) value ≡ replicate n (row_filled row value)
unfolding row_filled
filled-repeated row None n = refl
filled-repeated row (Some value) n = map-repeated (λ (r : Option Value). Some (unwrap_or r (Single value))) row n

-- equal rows compared with a value
pub compared-repeated : (operator : CompareOperator) (row right : Option Value) (n : ℕ) → compare_with operator (replicate n row) right ≡ replicate n (compared operator row right)
compared-repeated operator row right n = map-repeated (λ (r : Option Value). compared operator r right) row n
