-- What a message of texts or of bytes ends with: which rows are null, how many bytes each row shows, and these bytes.
use Rattle.std.specs.Prelude.{ℕ, ◌+◌, ◌^◌, ◌<◌, List, [], ◌∷◌, ◌++◌, length, map, flat_map, Option, Some}
use Rattle.std.specs.List.{concat}
use Rattle.column_base.specs.ValidityForm.{ValidityForm}
use Rattle.column_core.specs.declared.varbinview.View.{View}
use Rattle.column_core.specs.declared.varbinview.VarBinKind.{VarBinKind}
use Rattle.column_core.specs.Leaf.{OfVarBins, single_rows}
use Rattle.column_core.specs.Value.{Value, Single, Text, Bytes}
use Rattle.column_core.specs.VarBinForm.{VarBinForm, AreVarBins, varbin_with}
use Rattle.column_fields.specs.Field.{bytes_field}
use Rattle.column_fields.specs.Validity.{validity_field}
use Rattle.column_fields.specs.Varint.{varint}

-- the bytes that a row shows: of null none
abbrev pub shown_row : Option Value → List ℕ
shown_row (Some (Single (Text bytes))) = bytes
shown_row (Some (Single (Bytes bytes))) = bytes
shown_row row = []

abbrev pub shown_rows : VarBinForm → List (List ℕ)
shown_rows form = map shown_row (single_rows (OfVarBins form))

-- how many bytes each row shows
abbrev pub text_sizes : VarBinForm → List ℕ
text_sizes form = map length (shown_rows form)

-- the bytes that the rows show, one row after the other
abbrev pub text_bytes : VarBinForm → List ℕ
text_bytes form = concat (shown_rows form)

-- sizes, each as the shortest varint
unfoldable pub sizes_bytes : List ℕ → List ℕ
sizes_bytes sizes = flat_map varint sizes

-- the bytes of the sizes, and those that the rows show
unfoldable pub text_items : List ℕ → List ℕ → List ℕ
text_items sizes content = bytes_field 12 sizes ++ bytes_field 13 content

-- the fields, of the sizes and of the bytes that the rows show
unfoldable pub text_fields : ValidityForm → List ℕ → List ℕ → List ℕ
text_fields validity sizes content = validity_field validity ++ text_items (sizes_bytes sizes) content

-- the sizes of views
abbrev pub sizes_in : List View → List ℕ
sizes_in views = map (λ (view : View). view.size) views

-- the views of rows with these sizes, one after the other from `start` on
abbrev pub views_from : ℕ → List ℕ → List View
views_from start [] = []
views_from start (size ∷ sizes) = record { buffer = 0; start = start; size = size } ∷ views_from (start + size) sizes

-- the column of rows with these sizes, one after the other in one buffer
abbrev pub packed_with : VarBinKind → List ℕ → List ℕ → ValidityForm → VarBinForm
packed_with kind sizes content validity = varbin_with kind (views_from 0 sizes) (content ∷ []) validity

-- the same rows, packed: one buffer has the bytes that they show, one row after the other, and no other byte
abbrev pub packed : VarBinForm → VarBinForm
packed form = packed_with form.kind (text_sizes form) (text_bytes form) form.validity

-- a column of texts or bytes, which shows no more bytes than can be counted
pub record AreTexts (form : VarBinForm) : Type 0 where
  pub are : AreVarBins form
  pub rows_small : length form.views < 2 ^ 64
  pub bytes_small : length (text_bytes form) < 2 ^ 64
