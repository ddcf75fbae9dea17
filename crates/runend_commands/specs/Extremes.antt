-- The least and the greatest row of a column, and the scalars that they are answered as.
use Rattle.std.specs.Prelude.{◌≡◌, All, Option, None, Some, option_map}
use Rattle.std.specs.declared.cmp.Ordering.{Ordering}
use Rattle.column_base.specs.declared.dtype.DType.{DType}
use Rattle.column_base.specs.declared.dtype.DType.TheVariants as column
use Rattle.column_core.specs.ScalarForm.{ScalarForm}
use Rattle.column_core.specs.ScalarView.{sees}
use Rattle.column_core.specs.Value.{PlainColumn, Single, Value}
use Rattle.column_core.specs.declared.view.ScalarView.{ScalarView}
use Rattle.column_ops.specs.OrderFacts.{IsFurthest, IsGreatest, IsLeast}

-- a type of texts or of bytes: a copy of such a value takes memory, and one of any other value takes none
abbrev pub HasBytes : DType → Type 0
HasBytes (column.Utf8 n) = Unit {0}
HasBytes (column.Binary n) = Unit {0}
HasBytes t = ⊥

-- what a scalar shows in a row
abbrev pub shown : ScalarForm → Option Value
shown scalar = option_map Single scalar.value

-- the least and the greatest row, as scalars of the column's type
pub record AreExtremes (before : PlainColumn) (first last : ScalarForm) : Type 0 where
  pub first_dtype : first.dtype ≡ before.dtype
  pub last_dtype : last.dtype ≡ before.dtype
  pub least : IsLeast before.rows (shown first)
  pub greatest : IsGreatest before.rows (shown last)

-- the least and the greatest row, or none where all rows are null
abbrev pub AreExtremesIfAny : PlainColumn → Option (ScalarForm × ScalarForm) → Type 0
AreExtremesIfAny before None = All (λ row. row ≡ None) before.rows
AreExtremesIfAny before (Some ends) = AreExtremes before ends.0 ends.1

-- the row that is furthest to a side, as a scalar of the column's type
pub record IsExtreme (side : Ordering) (before : PlainColumn) (scalar : ScalarForm) : Type 0 where
  pub dtype : scalar.dtype ≡ before.dtype
  pub furthest : IsFurthest side before.rows (shown scalar)

-- the row that is furthest to a side, or none where all rows are null
abbrev pub IsExtremeIfAny : Ordering → PlainColumn → Option ScalarForm → Type 0
IsExtremeIfAny side before None = All (λ row. row ≡ None) before.rows
IsExtremeIfAny side before (Some scalar) = IsExtreme side before scalar

-- a scalar of the type, that shows what the view shows
abbrev pub IsCopyOf : {A : Type 0} → DType → ScalarView A → ScalarForm → Type 0
IsCopyOf dtype view scalar = (scalar.dtype ≡ dtype) × (shown scalar ≡ sees view)

-- such a scalar, where there is a view
abbrev pub IsCopyIfAny : {A : Type 0} → DType → Option (ScalarView A) → Option ScalarForm → Type 0
IsCopyIfAny dtype None None = Unit {0}
IsCopyIfAny dtype None (Some scalar) = ⊥
IsCopyIfAny dtype (Some view) None = ⊥
IsCopyIfAny dtype (Some view) (Some scalar) = IsCopyOf dtype view scalar

-- two such scalars, where there are two views
abbrev pub AreCopiesOf : {A : Type 0} → DType → Option (ScalarView A × ScalarView A) → Option (ScalarForm × ScalarForm) → Type 0
AreCopiesOf dtype None None = Unit {0}
AreCopiesOf dtype None (Some scalars) = ⊥
AreCopiesOf dtype (Some views) None = ⊥
AreCopiesOf dtype (Some views) (Some scalars) = IsCopyOf dtype views.0 scalars.0 × IsCopyOf dtype views.1 scalars.1
