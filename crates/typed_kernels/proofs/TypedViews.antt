-- What a view shows of a row, by what the rows of its column are worked as.
use Rattle.std.proofs.Common.{◌≡◌, ◌≢◌, ℕ, List, Option, Some, refl, sym, subst}
use Rattle.std.specs.Prelude.{IsSomeAnd, slice_get}
use Rattle.column_base.specs.declared.dtype.DType.{DType}
use Rattle.column_base.specs.declared.dtype.DType.TheVariants as columns
use Rattle.column_base.specs.declared.dtype.Nullability.{Nullability}
use Rattle.column_base.specs.Types.{nullability_of}
use Rattle.column_core.specs.ScalarView.{IsViewOf, sees}
use Rattle.column_core.specs.Value.{Value}
use Rattle.column_core.specs.declared.view.ScalarView.{ScalarView}
use Rattle.column_core.specs.declared.view.ScalarView.TheVariants as view
use Rattle.column_floats.proofs.CastKeys.{key_of_number}
use Rattle.float_bits.specs.declared.formats.FloatFormat.{FloatFormat}
use Rattle.float_bits.specs.declared.formats.FloatFormat.TheVariants.{F16, F32, F64}
use Rattle.logical_types.specs.Storage.{key_type}
use Rattle.logical_types.specs.declared.types.LogicalType.TheVariants.{Float}
use Rattle.runend_array.specs.Column.{column_dtype}
use Rattle.typed_columns.specs.Typed.{TypedForm}
use Rattle.typed_kernels.specs.Served.{served, IsOfType}
use Rattle.typed_kernels.specs.Views.{IsFloatShown, IsKeyView, IsShownAs, IsStoredShown}
use Rattle.typed_kernels.specs.declared.meanings.Served.{Served}
use Rattle.typed_kernels.specs.declared.meanings.Served.TheVariants.{Stored, Floats, Times}
use Rattle.typed_kernels.specs.declared.views.TypedView.{TypedView}
use Rattle.typed_kernels.specs.declared.views.TypedView.TheVariants as shown

-- a view of the type in which the keys of a format are stored
stored_key : {A : Type 0} (f : FloatFormat) (n : Nullability) (v : ScalarView A) → IsViewOf (columns.Primitive (key_type f) n) v → IsKeyView f v
stored_key f n view.Null of = tt
stored_key F16 n (view.Bool b) of = absurd of
stored_key F32 n (view.Bool b) of = absurd of
stored_key F64 n (view.Bool b) of = absurd of
stored_key F16 n (view.Unsigned k) of = absurd of.0
stored_key F32 n (view.Unsigned k) of = absurd of.0
stored_key F64 n (view.Unsigned k) of = absurd of.0
stored_key F16 n (view.Signed z) of = key_of_number F16 z of.1
stored_key F32 n (view.Signed z) of = key_of_number F32 z of.1
stored_key F64 n (view.Signed z) of = key_of_number F64 z of.1
stored_key f n (view.Decimal z) of = absurd of
stored_key f n (view.Utf8 s) of = absurd of
stored_key f n (view.Binary s) of = absurd of
stored_key f n (view.List elements start size) of = absurd of

-- a row of a column of floats is seen as a key
pub key_view : {A : Type 0} (c : TypedForm) (f : FloatFormat) (v : ScalarView A) → IsOfType c (Float f) → IsViewOf (column_dtype c.column) v → IsKeyView f v
key_view c f v is of = stored_key f (nullability_of (column_dtype c.column)) v (subst (λ (t : DType). IsViewOf t v) is.stored of)

module _ {A : Type 0} (c : TypedForm) (dtype : DType) (rows : List (Option Value)) (index : ℕ) (v : ScalarView A) where
  -- the row that a float is shown of
  pub float_row : (f : FloatFormat) (seen : TypedView A) → served c ≡ Floats f → slice_get rows index ≡ Some (sees v) → IsFloatShown f (sees v) seen → IsSomeAnd (slice_get rows index) (λ row. IsShownAs (served c) dtype row seen)
  float_row f seen is there shows =
      subst (λ (found : Option (Option Value)). IsSomeAnd found (λ row. IsShownAs (served c) dtype row seen)) (sym there) (subst (λ (s : Served). IsShownAs s dtype (sees v) seen) (sym is) shows)

  -- and that of any other column
  as_stored : (s : Served) → ((f : FloatFormat) → s ≢ Floats f) → IsStoredShown dtype (sees v) (shown.Stored v) → IsShownAs s dtype (sees v) (shown.Stored v)
  as_stored Stored other shows = shows
  as_stored (Floats f) other shows = absurd (other f refl)
  as_stored (Times t) other shows = shows

  pub stored_row : ((f : FloatFormat) → served c ≢ Floats f) → slice_get rows index ≡ Some (sees v) → IsViewOf dtype v → IsSomeAnd (slice_get rows index) (λ row. IsShownAs (served c) dtype row (shown.Stored v))
  stored_row other there of =
      subst (λ (found : Option (Option Value)). IsSomeAnd found (λ row. IsShownAs (served c) dtype row (shown.Stored v))) (sym there) (as_stored (served c) other (refl, of))
