-- The distinct rows of a column, and how many rows are equal to each.
use Rattle.std.specs.Prelude.{◌≡◌, ℕ, pos, All, Contains, List, Option, Some, count_by, map}
use Rattle.std.specs.Ordering.{is_eq}
use Rattle.column_base.specs.declared.dtype.DType.{DType}
use Rattle.column_base.specs.declared.dtype.DType.TheVariants as column
use Rattle.column_base.specs.declared.dtype.Nullability.TheVariants.{NonNullable}
use Rattle.column_base.specs.declared.dtype.PType.TheVariants.{U64}
use Rattle.column_core.specs.Value.{Number, Single, Value}
use Rattle.column_ops.specs.Order.{row_cmp}
use Rattle.column_ops.specs.OrderFacts.{IsInStrictOrder}
use Rattle.runend_array.specs.Column.{Column, IsLeaf, column_dtype, column_rows}

-- how many rows are equal to this one, null equal to null
abbrev pub count_of : List (Option Value) → Option Value → ℕ
count_of rows row = count_by (λ other. is_eq (row_cmp row other)) rows

-- a number as a row
abbrev pub count_row : ℕ → Option Value
count_row count = Some (Single (Number (pos count)))

-- the distinct rows of a column of a type, and for each how many rows are equal to it, both flat
pub record AreCounts (rows : List (Option Value)) (dtype : DType) (values counts : Column) : Type 0 where
  pub ordered : IsInStrictOrder (column_rows values)
  pub all : All (Contains (column_rows values)) rows
  pub some : All (Contains rows) (column_rows values)
  pub counted : column_rows counts ≡ map (λ value. count_row (count_of rows value)) (column_rows values)
  pub typed : column_dtype values ≡ dtype
  pub counts_typed : column_dtype counts ≡ column.Primitive U64 NonNullable
  pub flat : IsLeaf values
  pub counts_flat : IsLeaf counts
