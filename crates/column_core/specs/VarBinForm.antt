-- What a flat column of texts or of bytes is: views into buffers.
use Rattle.std.specs.Prelude.{ℕ, ◌+◌, ◌<◌, ◌≤◌, List, [], Bool, false, Option, length, map, option_map, slice_index_or, slice_range, IsTrue}
use Rattle.std.specs.Str.{IsUtf8}
use Rattle.column_base.specs.declared.dtype.Nullability.{Nullability}
use Rattle.column_base.specs.declared.dtype.DType.{DType}
use Rattle.column_base.specs.declared.dtype.DType.TheVariants as column
use Rattle.column_base.specs.ValidityForm.{ValidityForm, HasLength, flags, nullability_in}
use Rattle.column_core.specs.Value.{FlatValue, Text, Bytes}
use Rattle.column_core.specs.Optionals.{optionals, AreBlankAtNulls}
use Rattle.column_core.specs.declared.varbinview.View.{View}
use Rattle.column_core.specs.declared.varbinview.VarBinKind.{VarBinKind}
use Rattle.column_core.specs.declared.varbinview.VarBinKind.TheVariants.{Utf8, Binary}

-- the form: texts or bytes, the views and the bytes of the buffers as they are stored, and which rows are valid
pub record VarBinForm : Type 0 where
  pub kind : VarBinKind
  pub views : List View
  pub buffers : List (List ℕ)
  pub validity : ValidityForm

-- the form with these parts
abbrev pub varbin_with : VarBinKind → List View → List (List ℕ) → ValidityForm → VarBinForm
varbin_with kind views buffers validity = record { kind = kind; views = views; buffers = buffers; validity = validity }

-- the view of nothing, which is stored under null where a call computes a column
abbrev pub zero_view : View
zero_view = record { buffer = 0; start = 0; size = 0 }

-- the bytes that a view cuts from its buffer
abbrev pub view_bytes : List (List ℕ) → View → List ℕ
view_bytes buffers view = slice_range (slice_index_or buffers view.buffer []) view.start (view.start + view.size)

-- the view lies within its buffer
pub record IsWithinBuffer (buffers : List (List ℕ)) (view : View) : Type 0 where
  pub buffer : view.buffer < length buffers
  pub bytes : view.start + view.size ≤ length (slice_index_or buffers view.buffer [])

-- the flags of the rows: whether each is valid
abbrev pub varbin_flags : VarBinForm → List Bool
varbin_flags form = flags form.validity (length form.views)

-- the optional bytes, row by row
abbrev pub optional_bytes : VarBinForm → List (Option (List ℕ))
optional_bytes form = optionals (map (view_bytes form.buffers) form.views) (varbin_flags form)

-- bytes as a value: a text, or bytes
abbrev pub varbin_value : VarBinKind → List ℕ → FlatValue
varbin_value Utf8 bytes = Text bytes
varbin_value Binary bytes = Bytes bytes

-- the rows
abbrev pub varbin_rows : VarBinForm → List (Option FlatValue)
varbin_rows form = map (option_map (varbin_value form.kind)) (optional_bytes form)

-- the type of texts or of bytes
abbrev pub kind_dtype : VarBinKind → Nullability → DType
kind_dtype Utf8 nullability = column.Utf8 nullability
kind_dtype Binary nullability = column.Binary nullability

-- the type
abbrev pub varbin_dtype : VarBinForm → DType
varbin_dtype form = kind_dtype form.kind (nullability_in form.validity)

-- under null the view of nothing is stored
abbrev pub IsZeroViewAtNulls : VarBinForm → Type 0
IsZeroViewAtNulls form = AreBlankAtNulls zero_view form.views (varbin_flags form)

-- the row is valid
abbrev pub IsValidRow : VarBinForm → ℕ → Type 0
IsValidRow form row = IsTrue (slice_index_or (varbin_flags form) row false)

-- the bytes are a text, where texts are wanted
abbrev pub IsOfKind : VarBinKind → List ℕ → Type 0
IsOfKind Utf8 bytes = IsUtf8 bytes
IsOfKind Binary bytes = Unit {0}

-- a flat column of texts or bytes: each valid row has a view within its buffer, and a text where texts are wanted
pub record AreVarBins (form : VarBinForm) : Type 0 where
  pub counted : HasLength form.validity (length form.views)
  pub within : (row : ℕ) → row < length form.views → IsValidRow form row → IsWithinBuffer form.buffers (slice_index_or form.views row zero_view)
  pub texts : (row : ℕ) → row < length form.views → IsValidRow form row → IsOfKind form.kind (view_bytes form.buffers (slice_index_or form.views row zero_view))
