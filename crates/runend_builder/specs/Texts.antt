-- Texts or bytes that are put one after the other into one buffer.
use Rattle.std.specs.Prelude.{◌≡◌, ℕ, List, [], ◌∷◌, All, length, map}
use Rattle.column_core.specs.VarBinForm.{IsOfKind, IsWithinBuffer, view_bytes, zero_view}
use Rattle.column_core.specs.declared.varbinview.View.{View}
use Rattle.column_core.specs.declared.varbinview.VarBinKind.{VarBinKind}

-- what the views cut from the buffers
abbrev pub texts_of : List (List ℕ) → List View → List (List ℕ)
texts_of buffers views = map (view_bytes buffers) views

-- the view of a text that is put after the bytes: the view of nothing is the zero view
abbrev pub text_view : List ℕ → List ℕ → View
text_view bytes [] = zero_view
text_view bytes (first ∷ others) = record { buffer = 0; start = length bytes; size = length (first ∷ others) }

-- the view cuts a text of the kind, and is the zero view where that is empty
pub record IsCut (kind : VarBinKind) (buffers : List (List ℕ)) (view : View) : Type 0 where
  pub within : IsWithinBuffer buffers view
  pub of_kind : IsOfKind kind (view_bytes buffers view)
  pub empty : view.size ≡ 0 → view ≡ zero_view

-- all views do
abbrev pub AreCut : VarBinKind → List (List ℕ) → List View → Type 0
AreCut kind buffers views = All (IsCut kind buffers) views
