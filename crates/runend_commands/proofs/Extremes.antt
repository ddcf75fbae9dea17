-- The least and the greatest row, copied.
use Rattle.std.proofs.Common.{◌≡◌, ◌≢◌, Option, Some, None, refl}
use Rattle.std.specs.Prelude.{All, IfNone, IfOk, IfSome, Result, Ok, Err}
use Rattle.std.specs.declared.cmp.Ordering.{Ordering}
use Rattle.std.specs.declared.cmp.Ordering.TheVariants.{Less, Equal, Greater}
use Rattle.column_base.specs.declared.dtype.DType.{DType}
use Rattle.column_base.specs.declared.dtype.DType.TheVariants as column
use Rattle.column_base.specs.declared.dtype.Nullability.{Nullability}
use Rattle.column_base.specs.declared.error.VortexError.{VortexError}
use Rattle.column_base.specs.ValidityForm.{nullability_in}
use Rattle.column_core.specs.Leaf.{Leaf, OfNumbers, OfTruths, OfDecimals, OfVarBins, leaf_dtype}
use Rattle.column_core.specs.ScalarForm.{ScalarForm}
use Rattle.column_core.specs.ScalarView.{sees}
use Rattle.column_core.specs.Value.{IsLists, PlainColumn}
use Rattle.column_core.specs.VarBinForm.{kind_dtype}
use Rattle.column_core.specs.declared.varbinview.VarBinKind.{VarBinKind}
use Rattle.column_core.specs.declared.varbinview.VarBinKind.TheVariants.{Utf8, Binary}
use Rattle.column_core.specs.declared.view.ScalarView.{ScalarView}
use Rattle.column_ops.specs.OrderFacts.{IsFurthest, IsGreatest, IsLeast}
use Rattle.column_core.specs.Kinds.{list_fault}
use Rattle.runend_commands.specs.Extremes.{AreCopiesOf, AreExtremes, AreExtremesIfAny, IsCopyIfAny, IsExtreme, IsExtremeIfAny}

-- a type whose rows have an order is none of lists
pub single_if_ordered : (t : DType) → list_fault t ≡ None → ¬ IsLists t
single_if_ordered (column.List e n) same lists = cc
single_if_ordered t same lists = absurd lists

-- and the rows of any other type have one
ordered_if_single : (t : DType) → ¬ IsLists t → list_fault t ≡ None
ordered_if_single (column.Bool n) single = refl
ordered_if_single (column.Primitive p n) single = refl
ordered_if_single (column.Decimal d n) single = refl
ordered_if_single (column.Utf8 n) single = refl
ordered_if_single (column.Binary n) single = refl
ordered_if_single (column.List e n) single = absurd (single tt)

single_kind : (kind : VarBinKind) (n : Nullability) → ¬ IsLists (kind_dtype kind n)
single_kind Utf8 n lists = lists
single_kind Binary n lists = lists

-- no flat column is of a type of lists
pub single_leaf : (leaf : Leaf) → ¬ IsLists (leaf_dtype leaf)
single_leaf (OfNumbers form) lists = lists
single_leaf (OfTruths form) lists = lists
single_leaf (OfDecimals form) lists = lists
single_leaf (OfVarBins form) lists = single_kind form.kind (nullability_in form.validity) lists

-- so its rows have an order
pub ordered_leaf : (leaf : Leaf) → list_fault (leaf_dtype leaf) ≡ None
ordered_leaf leaf = ordered_if_single (leaf_dtype leaf) (single_leaf leaf)

-- copies of the least and the greatest row are these
extremes_copied : {A : Type 0} (before : PlainColumn) (found : Option (ScalarView A × ScalarView A)) (scalars : Option (ScalarForm × ScalarForm))
    → IfNone found (All (λ row. row ≡ None) before.rows) → IfSome found (λ ends. IsLeast before.rows (sees ends.0)) → IfSome found (λ ends. IsGreatest before.rows (sees ends.1))
    → AreCopiesOf before.dtype found scalars → AreExtremesIfAny before scalars
extremes_copied before None None none least greatest copies = none
extremes_copied before None (Some scalars) none least greatest copies = absurd copies
extremes_copied before (Some views) None none least greatest copies = absurd copies
extremes_copied before (Some views) (Some scalars) none least greatest copies = record {
  first_dtype = copies.0.0;
  last_dtype = copies.1.0;
  least = rw copies.0.1 least;
  greatest = rw copies.1.1 greatest;
}

-- and so are copies that may be refused
pub extremes_answered : {A : Type 0} (before : PlainColumn) (found : Option (ScalarView A × ScalarView A)) (result : Result (Option (ScalarForm × ScalarForm)) VortexError)
    → IfNone found (All (λ row. row ≡ None) before.rows) → IfSome found (λ ends. IsLeast before.rows (sees ends.0)) → IfSome found (λ ends. IsGreatest before.rows (sees ends.1))
    → IfOk result (AreCopiesOf before.dtype found) → IfOk result (AreExtremesIfAny before)
extremes_answered before found (Ok scalars) none least greatest copies = extremes_copied before found scalars none least greatest copies
extremes_answered before found (Err error) none least greatest copies = tt

-- a copy of the row that is furthest to a side is that row
extreme_copied : {A : Type 0} (side : Ordering) (before : PlainColumn) (found : Option (ScalarView A)) (scalar : Option ScalarForm)
    → IfNone found (All (λ row. row ≡ None) before.rows) → IfSome found (λ row. IsFurthest side before.rows (sees row))
    → IsCopyIfAny before.dtype found scalar → IsExtremeIfAny side before scalar
extreme_copied side before None None none some copy = none
extreme_copied side before None (Some scalar) none some copy = absurd copy
extreme_copied side before (Some view) None none some copy = absurd copy
extreme_copied side before (Some view) (Some scalar) none some copy = record {
  dtype = copy.0;
  furthest = rw copy.1 some;
}

-- and so is a copy that may be refused
pub extreme_answered : {A : Type 0} (side : Ordering) (before : PlainColumn) (found : Option (ScalarView A)) (result : Result (Option ScalarForm) VortexError)
    → IfNone found (All (λ row. row ≡ None) before.rows) → IfSome found (λ row. IsFurthest side before.rows (sees row))
    → IfOk result (IsCopyIfAny before.dtype found) → IfOk result (IsExtremeIfAny side before)
extreme_answered side before found (Ok scalar) none some copy = extreme_copied side before found scalar none some copy
extreme_answered side before found (Err error) none some copy = tt

-- the first of two is the least
pub least_of_both : (before : PlainColumn) (first last : ScalarForm) (side : Ordering) → side ≡ Less → AreExtremes before first last → IsExtreme side before first
least_of_both before first last side is ends = rw is (record { dtype = ends.first_dtype; furthest = ends.least })

-- the last of two is the greatest
pub greatest_of_both : (before : PlainColumn) (first last : ScalarForm) (side : Ordering) → side ≢ Less → side ≢ Equal → AreExtremes before first last → IsExtreme side before last
greatest_of_both before first last Less not_less not_equal ends = absurd (not_less refl)
greatest_of_both before first last Equal not_less not_equal ends = absurd (not_equal refl)
greatest_of_both before first last Greater not_less not_equal ends = record { dtype = ends.last_dtype; furthest = ends.greatest }
