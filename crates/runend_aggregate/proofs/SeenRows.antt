-- Rows that are seen: those that are not lists are null or flat, and the order distinguishes them.
use Rattle.std.proofs.Common.{◌≡◌, ◌∙◌, ◌+◌, ℕ, false, List, Option, Some, None, refl, sym, ap, arith, inl, inr}
use Rattle.std.specs.Prelude.{slice_get, option_map}
use Rattle.std.specs.Ordering.{is_ne}
use Rattle.std.specs.declared.cmp.Ordering.{Ordering}
use Rattle.std.specs.declared.cmp.Ordering.TheVariants.{Less, Equal, Greater}
use Rattle.std.proofs.lemmas.Bool.{cases_lt}
use Rattle.column_base.specs.declared.dtype.DType.{DType}
use Rattle.column_base.specs.declared.dtype.DType.TheVariants as column
use Rattle.column_core.specs.Value.{FlatValue, Truth, Number, DecimalNumber, Text, Bytes, Value, Single}
use Rattle.column_core.specs.ScalarView.{sees, IsViewOf}
use Rattle.column_core.specs.declared.view.ScalarView.{ScalarView}
use Rattle.column_core.specs.declared.view.ScalarView.TheVariants as view
use Rattle.column_core.specs.Kinds.{is_list}
use Rattle.column_ops.specs.Order.{row_cmp}
use Rattle.column_ops.proofs.OrderLaws.{row_equal}
use Rattle.column_ops.proofs.RowRanges.{AreSame}

abbrev single : Option FlatValue → Option Value
single = option_map (λ (v : FlatValue). Single v)

-- a view of another type shows no list
no_list : {A : Type 0} (t : DType) (seen : ScalarView A) → is_list t ≡ false → IsViewOf t seen → (v : Option FlatValue) × (single v ≡ sees seen)
no_list t view.Null flat typed = (None, refl)
no_list t (view.Bool b) flat typed = (Some (Truth b), refl)
no_list t (view.Unsigned n) flat typed = (Some (Number _), refl)
no_list t (view.Signed n) flat typed = (Some (Number n), refl)
no_list t (view.Decimal n) flat typed = (Some (DecimalNumber n), refl)
no_list t (view.Utf8 text) flat typed = (Some (Text text.now), refl)
no_list t (view.Binary bytes) flat typed = (Some (Bytes bytes.now), refl)
no_list (column.Bool n) (view.List elements start size) flat typed = absurd typed
no_list (column.Primitive p n) (view.List elements start size) flat typed = absurd typed
no_list (column.Decimal d n) (view.List elements start size) flat typed = absurd typed
no_list (column.Utf8 n) (view.List elements start size) flat typed = absurd typed
no_list (column.Binary n) (view.List elements start size) flat typed = absurd typed
no_list (column.List e n) (view.List elements start size) flat typed = cc

-- rows that are equal in the order are one
pub seen_equal : {A : Type 0} (t : DType) (a b : ScalarView A) → is_list t ≡ false → IsViewOf t a → IsViewOf t b → row_cmp (sees a) (sees b) ≡ Equal → sees a ≡ sees b
seen_equal t a b flat typed_a typed_b same =
    let v = no_list t a flat typed_a in
    let w = no_list t b flat typed_b in
    let told : row_cmp (single v.0) (single w.0) ≡ Equal = rw (v.1, w.1) same in
    sym v.1 ∙ ap single (row_equal v.0 w.0 told) ∙ w.1

-- an ordering that is neither of the others is equality
pub level : (o : Ordering) → is_ne o ≡ false → o ≡ Equal
level Less h = cc
level Equal h = refl
level Greater h = cc

-- the next row is the same as the first
pub AreSame-step : (rows : List (Option Value)) (start stop : ℕ) → slice_get rows start ≡ slice_get rows stop → AreSame rows start stop → AreSame rows start (stop + 1)
AreSame-step rows start stop one same k low high = elim (cases_lt k stop) [
  | inl before ↦ same k low before
  | inr from ↦ let here : k ≡ stop = omega arith in ap (slice_get rows) here ∙ sym one
]
