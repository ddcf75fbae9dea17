-- What a borrowed value shows.
use Rattle.std.specs.Prelude.{◌≡◌, ℕ, ◌+◌, ◌≤◌, pos, length, Option, None, Some, slice_range}
use Rattle.column_base.specs.declared.dtype.ElementDType.{ElementDType}
use Rattle.column_base.specs.declared.dtype.DType.{DType}
use Rattle.column_base.specs.declared.dtype.DType.TheVariants as column
use Rattle.column_base.specs.Types.{HasNumber, IsUnsigned, nullability_of}
use Rattle.column_core.specs.Value.{Truth, Number, DecimalNumber, Text, Bytes, Value, Single, Items, MayBeNull, element_of}
use Rattle.column_core.specs.Leaf.{Leaf, leaf_rows, leaf_dtype}
use Rattle.column_core.specs.FlatColumn.{leaf_of}
use Rattle.column_core.specs.declared.view.ScalarView.{ScalarView}
use Rattle.column_core.specs.declared.view.ScalarView.TheVariants as view

-- the optional value that a view shows
abbrev pub sees : {A : Type 0} → ScalarView A → Option Value
sees view.Null = None
sees (view.Bool b) = Some (Single (Truth b))
sees (view.Unsigned n) = Some (Single (Number (pos n)))
sees (view.Signed z) = Some (Single (Number z))
sees (view.Decimal z) = Some (Single (DecimalNumber z))
sees (view.Utf8 s) = Some (Single (Text s.now))
sees (view.Binary s) = Some (Single (Bytes s.now))
sees (view.List elements start size) = Some (Items (slice_range (leaf_rows (leaf_of elements.now)) start (start + size)))

-- a list of elements of the type, which lies within the elements that there are
pub record IsListIn (e : ElementDType) (elements : Leaf) (start size : ℕ) : Type 0 where
  pub within : start + size ≤ length (leaf_rows elements)
  pub element : element_of (leaf_dtype elements) ≡ e

-- the view is of the type: unsigned numbers are seen as Unsigned, signed ones as Signed, and a list has elements of its
-- type and lies within them
abbrev pub IsViewOf : {A : Type 0} → DType → ScalarView A → Type 0
IsViewOf t view.Null = MayBeNull (nullability_of t)
IsViewOf (column.Bool n) (view.Bool b) = Unit {0}
IsViewOf (column.Primitive t n) (view.Unsigned k) = IsUnsigned t × HasNumber t (pos k)
IsViewOf (column.Primitive t n) (view.Signed z) = (¬ IsUnsigned t) × HasNumber t z
IsViewOf (column.Decimal d n) (view.Decimal z) = Unit {0}
IsViewOf (column.Utf8 n) (view.Utf8 s) = Unit {0}
IsViewOf (column.Binary n) (view.Binary s) = Unit {0}
IsViewOf (column.List e n) (view.List elements start size) = IsListIn e (leaf_of elements.now) start size
IsViewOf t v = ⊥
