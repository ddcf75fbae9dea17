-- What is shown of a row, by what rows are worked as.
use Rattle.std.specs.Prelude.{◌≡◌, Option, Some, None}
use Rattle.column_base.specs.declared.dtype.DType.{DType}
use Rattle.column_core.specs.ScalarView.{IsViewOf, sees}
use Rattle.column_core.specs.Value.{Value}
use Rattle.column_core.specs.declared.view.ScalarView.{ScalarView}
use Rattle.column_core.specs.declared.view.ScalarView.TheVariants as view
use Rattle.column_floats.specs.FloatRows.{float_in}
use Rattle.column_floats.specs.Formats.{IsKey}
use Rattle.float_bits.specs.declared.formats.FloatFormat.{FloatFormat}
use Rattle.float_bits.specs.Format.{IsPattern}
use Rattle.typed_kernels.specs.declared.meanings.Served.{Served}
use Rattle.typed_kernels.specs.declared.meanings.Served.TheVariants.{Stored, Floats, Times}
use Rattle.typed_kernels.specs.declared.views.TypedView.{TypedView}
use Rattle.typed_kernels.specs.declared.views.TypedView.TheVariants as shown

-- a view of a row that is the key of a float of this format, or null
abbrev pub IsKeyView : {A : Type 0} → FloatFormat → ScalarView A → Type 0
IsKeyView f view.Null = Unit {0}
IsKeyView f (view.Bool b) = ⊥
IsKeyView f (view.Unsigned n) = ⊥
IsKeyView f (view.Signed key) = IsKey f key
IsKeyView f (view.Decimal z) = ⊥
IsKeyView f (view.Utf8 s) = ⊥
IsKeyView f (view.Binary s) = ⊥
IsKeyView f (view.List elements start size) = ⊥

-- a row as it is stored in a column of this type
abbrev pub IsStoredShown : {A : Type 0} → DType → Option Value → TypedView A → Type 0
IsStoredShown dtype row (shown.Stored view) = (sees view ≡ row) × IsViewOf dtype view
IsStoredShown dtype row (shown.Float f bits) = ⊥

-- a float by its bits, and null as a stored row
abbrev pub IsFloatShown : {A : Type 0} → FloatFormat → Option Value → TypedView A → Type 0
IsFloatShown f row (shown.Stored view) = (float_in f row ≡ None) × (sees view ≡ None)
IsFloatShown f row (shown.Float g bits) = (float_in f row ≡ Some bits) × (g ≡ f) × IsPattern f bits

-- a row of a column of this type, whose rows are worked so
abbrev pub IsShownAs : {A : Type 0} → Served → DType → Option Value → TypedView A → Type 0
IsShownAs Stored dtype row shown = IsStoredShown dtype row shown
IsShownAs (Floats f) dtype row shown = IsFloatShown f row shown
IsShownAs (Times t) dtype row shown = IsStoredShown dtype row shown
