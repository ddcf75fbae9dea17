-- Why parts do not make a flat column of texts or of bytes: the first fault, in the order in which they are tested.
use Rattle.std.specs.Prelude.{◌≡◌, ◌≢◌, ℕ, ◌<◌, pos, length, Some, slice_index_or}
use Rattle.column_base.specs.declared.error.VortexError.{VortexError}
use Rattle.column_base.specs.declared.error.VortexError.TheVariants.{ColumnLength, OutOfBounds, TypeMismatch}
use Rattle.column_base.specs.ValidityForm.{HasLength, length_of}
use Rattle.column_core.specs.VarBinForm.{VarBinForm, IsValidRow, IsWithinBuffer, IsOfKind, view_bytes, zero_view}

-- the view of the row lies within its buffer
abbrev pub IsWithinAt : VarBinForm → ℕ → Type 0
IsWithinAt form row = IsWithinBuffer form.buffers (slice_index_or form.views row zero_view)

-- the row's bytes are a text, where texts are wanted
abbrev pub IsOfKindAt : VarBinForm → ℕ → Type 0
IsOfKindAt form row = IsOfKind form.kind (view_bytes form.buffers (slice_index_or form.views row zero_view))

-- each valid row has a view within its buffer
abbrev pub AreWithin : VarBinForm → Type 0
AreWithin form = (row : ℕ) → row < length form.views → IsValidRow form row → IsWithinAt form row

-- each valid row is a text, where texts are wanted
abbrev pub AreOfKind : VarBinForm → Type 0
AreOfKind form = (row : ℕ) → row < length form.views → IsValidRow form row → IsOfKindAt form row

-- the first valid row whose view is not within its buffer
pub record IsFirstOutside (form : VarBinForm) (row : ℕ) : Type 0 where
  pub in_rows : row < length form.views
  pub valid : IsValidRow form row
  pub outside : ¬ IsWithinAt form row
  pub before : (k : ℕ) → k < row → IsValidRow form k → IsWithinAt form k

-- a valid row that is not a text, where texts are wanted
pub record IsNoText (form : VarBinForm) (row : ℕ) : Type 0 where
  pub in_rows : row < length form.views
  pub valid : IsValidRow form row
  pub otherwise : ¬ IsOfKindAt form row

-- the first fault: lengths that differ, then a view outside of its buffer, then bytes that are not a text
abbrev pub VarBinFault : VarBinForm → VortexError → Type 0
VarBinFault form (ColumnLength views count) = (views ≡ length form.views) × (length_of form.validity ≡ Some count) × (views ≢ count)
VarBinFault form (OutOfBounds index count) = HasLength form.validity (length form.views) × (count ≡ length form.views) × ((row : ℕ) × ((index ≡ pos row) × IsFirstOutside form row))
VarBinFault form TypeMismatch = HasLength form.validity (length form.views) × AreWithin form × ((row : ℕ) × IsNoText form row)
VarBinFault form error = ⊥
