-- Rows of a column cast, and when they are refused.
use Rattle.std.proofs.Common.{◌≡◌, Bool, true, false, List, Option, Some, cond, refl, ap, ◌∙◌}
use Rattle.std.specs.Prelude.{◌&&◌}
use Rattle.column_base.specs.declared.dtype.ElementDType.{ElementDType}
use Rattle.column_base.specs.declared.dtype.Nullability.{Nullability}
use Rattle.column_base.specs.declared.dtype.DType.{DType}
use Rattle.column_base.specs.declared.dtype.DType.TheVariants as column
use Rattle.column_base.specs.declared.error.VortexError.TheVariants.{Unsupported}
use Rattle.column_core.specs.Value.{IsLists, Value}
use Rattle.column_core.specs.Leaf.{Leaf, leaf_dtype, plain_leaf, single_rows}
use Rattle.column_ops.specs.Cast.{can_cast, cast_fault, cast_row_fault}
use Rattle.column_ops.specs.Fault.{first_fault}
use Rattle.column_ops.specs.Fill.{same_kind}
use Rattle.runend_array.specs.Column.{Column, column_dtype, column_rows, plain_of}

and_false : (b : Bool) → (b && false) ≡ false
and_false true = refl
and_false false = refl

-- lists are not cast
no_list_cast : (e : ElementDType) (n : Nullability) (to : DType) → can_cast (column.List e n) to ≡ false
no_list_cast e n (column.Bool m) = refl
no_list_cast e n (column.Primitive t m) = refl
no_list_cast e n (column.Decimal d m) = refl
no_list_cast e n (column.Utf8 m) = refl
no_list_cast e n (column.Binary m) = refl
no_list_cast e n (column.List f m) = and_false (same_kind (column.List e n) (column.List f m))

pub lists_fault : (from to : DType) (rows : List (Option Value)) → IsLists from → cast_fault (record { dtype = from; rows = rows }) to ≡ Some Unsupported
lists_fault (column.Bool n) to rows lists = absurd lists
lists_fault (column.Primitive t n) to rows lists = absurd lists
lists_fault (column.Decimal d n) to rows lists = absurd lists
lists_fault (column.Utf8 n) to rows lists = absurd lists
lists_fault (column.Binary n) to rows lists = absurd lists
lists_fault (column.List e n) to rows lists = ap (λ (b : Bool). cond b (first_fault (cast_row_fault to) rows) (Some Unsupported)) (no_list_cast e n to)

-- a column written row by row has the fault of the column
pub plain_fault : (values : Leaf) (c : Column) (to : DType) → single_rows values ≡ column_rows c → leaf_dtype values ≡ column_dtype c → cast_fault (plain_leaf values) to ≡ cast_fault (plain_of c) to
plain_fault values c to shown same =
    ap (λ (from : DType). cond (can_cast from to) (first_fault (cast_row_fault to) (single_rows values)) (Some Unsupported)) same
    ∙ ap (λ (xs : List (Option Value)). cond (can_cast (column_dtype c) to) (first_fault (cast_row_fault to) xs) (Some Unsupported)) shown
