-- What bytes are as the fields of texts or of bytes.
use Rattle.std.specs.Prelude.{◌≡◌, ℕ, ◌^◌, ◌<◌, Bool, true, false, List, [], ◌∷◌, length, sum}
use Rattle.column_base.specs.ValidityForm.{ValidityForm, flags}
use Rattle.column_core.specs.declared.varbinview.View.{View}
use Rattle.column_core.specs.declared.varbinview.VarBinKind.{VarBinKind}
use Rattle.column_core.specs.Optionals.{AreBlankAtNulls}
use Rattle.column_core.specs.VarBinForm.{VarBinForm, AreVarBins, IsOfKind, varbin_with}
use Rattle.column_bytes.specs.Texts.{AreTexts, packed, sizes_bytes, sizes_in, text_bytes, text_fields, text_items, text_sizes, views_from}

-- the bytes are the fields of the packed column of `rows` texts, or bytes
pub record AreTextsOf (kind : VarBinKind) (rows : ℕ) (bytes : List ℕ) (form : VarBinForm) : Type 0 where
  pub kind_is : form.kind ≡ kind
  pub counted : length form.views ≡ rows
  pub stored : AreTexts form
  pub packed_is : packed form ≡ form
  pub spelt : bytes ≡ text_fields form.validity (text_sizes form) (text_bytes form)

pub record AreNoTextsOf (kind : VarBinKind) (rows : ℕ) (bytes : List ℕ) : Type 0 where
  pub none : (form : VarBinForm) → AreTextsOf kind rows bytes form → ⊥

-- the bytes are not sizes and content
pub record AreNoTextItems (bytes : List ℕ) : Type 0 where
  pub none : (sizes content : List ℕ) → length sizes < 2 ^ 64 → length content < 2 ^ 64 → bytes ≡ text_items sizes content → ⊥

-- the views of `rows` rows one after the other, with these bytes of their sizes; all rows together have `total` bytes
pub record AreViewsOf (rows total : ℕ) (bytes : List ℕ) (views : List View) : Type 0 where
  pub are : views ≡ views_from 0 (sizes_in views)
  pub counted : length views ≡ rows
  pub summed : sum (sizes_in views) ≡ total
  pub spelt : bytes ≡ sizes_bytes (sizes_in views)

pub record AreNoViewsOf (rows total : ℕ) (bytes : List ℕ) : Type 0 where
  pub none : (sizes : List ℕ) → length sizes ≡ rows → sum sizes ≡ total → bytes ≡ sizes_bytes sizes → ⊥

-- the same where a null row has no bytes
pub record AreRowsOf (validity : ValidityForm) (rows total : ℕ) (bytes : List ℕ) (views : List View) : Type 0 where
  pub views_are : AreViewsOf rows total bytes views
  pub blank : AreBlankAtNulls 0 (sizes_in views) (flags validity rows)

pub record AreNoRowsOf (validity : ValidityForm) (rows total : ℕ) (bytes : List ℕ) : Type 0 where
  pub none : (sizes : List ℕ) → length sizes ≡ rows → sum sizes ≡ total → bytes ≡ sizes_bytes sizes → AreBlankAtNulls 0 sizes (flags validity rows) → ⊥

-- the column of these views into one buffer
pub record AreTextsOver (kind : VarBinKind) (views : List View) (content : List ℕ) (validity : ValidityForm) (form : VarBinForm) : Type 0 where
  pub is : form ≡ varbin_with kind views (content ∷ []) validity
  pub are : AreVarBins form

pub record HasNoTextsOver (kind : VarBinKind) (views : List View) (content : List ℕ) (validity : ValidityForm) : Type 0 where
  pub none : AreVarBins (varbin_with kind views (content ∷ []) validity) → ⊥

-- the column of `rows` rows with this validity, with these bytes of the sizes, and these bytes that the rows show
pub record AreTextsIn (kind : VarBinKind) (rows : ℕ) (validity : ValidityForm) (bytes content : List ℕ) (form : VarBinForm) : Type 0 where
  pub sizes : List ℕ
  pub is : form ≡ varbin_with kind (views_from 0 sizes) (content ∷ []) validity
  pub are : AreVarBins form
  pub counted : length sizes ≡ rows
  pub summed : sum sizes ≡ length content
  pub spelt : bytes ≡ sizes_bytes sizes
  pub blank : AreBlankAtNulls 0 sizes (flags validity rows)

pub record AreNoTextsIn (kind : VarBinKind) (rows : ℕ) (validity : ValidityForm) (bytes content : List ℕ) : Type 0 where
  pub none : (form : VarBinForm) → AreTextsIn kind rows validity bytes content form → ⊥

-- a row may show these bytes: a text where texts are wanted, and none where the row is null
abbrev pub FitsRow : VarBinKind → Bool → List ℕ → Type 0
FitsRow kind true bytes = IsOfKind kind bytes
FitsRow kind false bytes = length bytes ≡ 0
