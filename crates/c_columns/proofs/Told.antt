-- What is passed to C of a row, from what its view shows.
use Rattle.std.proofs.Common.{◌≡◌, ◌∙◌, inr, sym, ap, subst, pos, ℤ, ℕ, Bor, List, length, take, arith}
use Rattle.std.specs.Prelude.{All, Bool, true, false, Option, Some, None, Result, Ok, Err, IfErr, IfOk, slice_get}
use Rattle.std.proofs.lemmas.Bool.{false≢true}
use Rattle.std.specs.Global.{Global}
use Rattle.column_base.specs.declared.dtype.DType.{DType}
use Rattle.column_base.specs.declared.error.VortexError.{VortexError}
use Rattle.column_base.specs.declared.dtype.DType.TheVariants as column
use Rattle.column_core.specs.ScalarForm.{ScalarForm}
use Rattle.column_core.specs.ScalarView.{IsViewOf, sees}
use Rattle.column_core.specs.Value.{PlainColumn, Value, Single, Items, Number, DecimalNumber, Truth, Text, Bytes}
use Rattle.column_core.specs.declared.view.ScalarView.{ScalarView}
use Rattle.column_core.specs.declared.view.ScalarView.TheVariants as view
use Rattle.runend_array.specs.Array.{dtype_of, rows}
use Rattle.runend_array.specs.declared.array_ref.ArrayRef.{ArrayRef}
use Rattle.column_ops.specs.OrderFacts as order
use Rattle.runend_commands.specs.Extremes.{IsExtreme, shown}
use Rattle.runend_commands.specs.Refusal.{refusal}
use Rattle.runend_commands.specs.declared.command.Command.TheVariants.{MinMax}
use Rattle.c_columns.specs.Ending.{IsExtremeFault}
use Rattle.c_columns.specs.Flags.{byte_of}
use Rattle.c_columns.specs.Values.{IsExtremeOf, IsFurthestRow, IsRoomFault, IsRoomThere, IsShownAt, IsTold, TellsView, halves, side_in}
use Rattle.c_columns.specs.declared.row_value.RowValue.{RowValue}

pub null_told : (value : RowValue) (text : List ℕ) → value.kind ≡ 0 → TellsView value text view.Null
null_told value text kind t of = kind

pub unsigned_told : (value : RowValue) (text : List ℕ) (number : ℕ) → value.kind ≡ 1 → value.as_unsigned ≡ number → TellsView value text (view.Unsigned number)
unsigned_told value text number kind is (column.Primitive p n) of = record { unsigned = λ _. (kind, ap pos is); signed = λ other. absurd (other of.0) }
unsigned_told value text number kind is (column.Bool n) of = absurd of
unsigned_told value text number kind is (column.Decimal d n) of = absurd of
unsigned_told value text number kind is (column.Utf8 n) of = absurd of
unsigned_told value text number kind is (column.Binary n) of = absurd of
unsigned_told value text number kind is (column.List e n) of = absurd of

pub signed_told : (value : RowValue) (text : List ℕ) (number : ℤ) → value.kind ≡ 2 → value.as_signed ≡ number → TellsView value text (view.Signed number)
signed_told value text number kind is (column.Primitive p n) of = record { unsigned = λ other. absurd (of.0 other); signed = λ _. (kind, is) }
signed_told value text number kind is (column.Bool n) of = absurd of
signed_told value text number kind is (column.Decimal d n) of = absurd of
signed_told value text number kind is (column.Utf8 n) of = absurd of
signed_told value text number kind is (column.Binary n) of = absurd of
signed_told value text number kind is (column.List e n) of = absurd of

pub truth_told : (value : RowValue) (text : List ℕ) (truth : Bool) → value.kind ≡ 3 → value.truth ≡ byte_of truth → TellsView value text (view.Bool truth)
truth_told value text truth kind is t of = (kind, is)

pub decimal_told : (value : RowValue) (text : List ℕ) (number : ℤ) → value.kind ≡ 4 → halves value ≡ number → TellsView value text (view.Decimal number)
decimal_told value text number kind is t of = (kind, is)

pub text_told : (value : RowValue) (text : List ℕ) (string : Bor (List ℕ)) → value.kind ≡ 5 → value.as_unsigned ≡ length string.now → take value.as_unsigned text ≡ string.now → TellsView value text (view.Utf8 string)
text_told value text string kind size front t of = (kind, record { size = size; front = sym (ap (λ (n : ℕ). take n text) size) ∙ front })

pub bytes_told : (value : RowValue) (text : List ℕ) (bytes : Bor (List ℕ)) → value.kind ≡ 6 → value.as_unsigned ≡ length bytes.now → take value.as_unsigned text ≡ bytes.now → TellsView value text (view.Binary bytes)
bytes_told value text bytes kind size front t of = (kind, record { size = size; front = sym (ap (λ (n : ℕ). take n text) size) ∙ front })

-- what has room is never refused for none
pub never_short : (value : Option Value) (room : ℕ) (error : VortexError) → IsRoomThere value room → IsRoomFault value room error → ⊥
never_short None room error there short = short
never_short (Some (Single (Number number))) room error there short = short
never_short (Some (Single (DecimalNumber number))) room error there short = short
never_short (Some (Single (Truth truth))) room error there short = short
never_short (Some (Single (Text bytes))) room error there short = omega (arith, there, short.1)
never_short (Some (Single (Bytes bytes))) room error there short = omega (arith, there, short.1)
never_short (Some (Items items)) room error there short = there

-- the row of a number
pub row_told : (row : ℕ) (c : ArrayRef Global) (text : List ℕ) (value : RowValue) (seen : ScalarView Global) → slice_get (rows c) row ≡ Some (sees seen) → IsViewOf (dtype_of c) seen → TellsView value text seen → IsShownAt row c text value
row_told row c text value seen there of tells = record { shown = sees seen; there = there; told = tells (dtype_of c) of }

-- the least or the greatest row, as one of the two scalars that the command answers
least_row : (rows : List (Option Value)) (row : Option Value) → order.IsLeast rows row → IsFurthestRow false rows row
least_row rows None is = absurd (false≢true is.value)
least_row rows (Some value) is = is

greatest_row : (rows : List (Option Value)) (row : Option Value) → order.IsGreatest rows row → IsFurthestRow true rows row
greatest_row rows None is = absurd (false≢true is.value)
greatest_row rows (Some value) is = is

-- the row that is furthest to the side of the one that is asked for
furthest_row : (greatest : Bool) (rows : List (Option Value)) (row : Option Value) → order.IsFurthest (side_in greatest) rows row → IsFurthestRow greatest rows row
furthest_row true rows row is = greatest_row rows row is
furthest_row false rows row is = least_row rows row is

module _ (before : PlainColumn) (text : List ℕ) (value : RowValue) (scalar : ScalarForm) (seen : ScalarView Global) where
  told_as : scalar.dtype ≡ before.dtype → sees seen ≡ shown scalar → IsViewOf scalar.dtype seen → TellsView value text seen → IsTold before.dtype (shown scalar) value text
  told_as typed same of tells = subst (λ (r : Option Value). IsTold before.dtype r value text) same (subst (λ (t : DType). IsTold t (sees seen) value text) typed (tells scalar.dtype of))

  pub extreme_told : (greatest : Bool) → IsExtreme (side_in greatest) before scalar → sees seen ≡ shown scalar → IsViewOf scalar.dtype seen → TellsView value text seen → IsExtremeOf greatest before text value
  extreme_told greatest extreme same of tells = record { row = shown scalar; furthest = furthest_row greatest before.rows (shown scalar) extreme.furthest; told = told_as extreme.dtype same of tells }

-- what was passed, if there was room
pub extreme_of : (greatest : Bool) (before : PlainColumn) (text : List ℕ) (outcome : Result RowValue VortexError) (scalar : ScalarForm) (seen : ScalarView Global) → IsExtreme (side_in greatest) before scalar → sees seen ≡ shown scalar → IsViewOf scalar.dtype seen
    → IfOk outcome (λ value. TellsView value text seen) → IfOk outcome (λ value. IsExtremeOf greatest before text value)
extreme_of greatest before text (Ok value) scalar seen extreme same of tells = extreme_told before text value scalar seen greatest extreme same of tells
extreme_of greatest before text (Err error) scalar seen extreme same of tells = tt

-- or why there was none
pub extreme_short : (greatest : Bool) (before : PlainColumn) (room : ℕ) (outcome : Result RowValue VortexError) (scalar : ScalarForm) (seen : ScalarView Global) → refusal {A = Global} before MinMax ≡ None → IsExtreme (side_in greatest) before scalar → sees seen ≡ shown scalar
    → IfErr outcome (λ error. IsRoomFault (sees seen) room error) → IfErr outcome (λ error. IsExtremeFault greatest before room error)
extreme_short greatest before room (Ok value) scalar seen accepted extreme same short = tt
extreme_short greatest before room (Err error) scalar seen accepted extreme same short =
    inr (accepted, record { value = sees seen; furthest = subst (λ (r : Option Value). IsFurthestRow greatest before.rows r) (sym same) (furthest_row greatest before.rows (shown scalar) extreme.furthest); short = short })

-- all rows are null
pub none_told : (greatest : Bool) (before : PlainColumn) (text : List ℕ) (value : RowValue) → All (λ row. row ≡ None) before.rows → value.kind ≡ 0 → IsExtremeOf greatest before text value
none_told greatest before text value nulls kind = record { row = None; furthest = nulls; told = kind }
