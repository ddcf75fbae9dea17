-- Columns of texts or bytes that are packed: one buffer has what the rows show.
use Rattle.std.proofs.Common.{◌≡◌, ℕ, zero, suc, ◌+◌, ◌<◌, ◌≤◌, Bool, true, false, List, [], ◌∷◌, length, map, get_or, sum, refl, sym, ap, subst, ◌∙◌, arith}
use Rattle.std.specs.Prelude.{option_map}
use Rattle.std.specs.List.{concat}
use Rattle.std.proofs.lemmas.List.{length-map}
use Rattle.column_base.specs.ValidityForm.{ValidityForm, HasLength, flags}
use Rattle.column_base.proofs.ValidityRows.{length-flags}
use Rattle.column_core.specs.declared.varbinview.View.{View}
use Rattle.column_core.specs.declared.varbinview.VarBinKind.{VarBinKind}
use Rattle.column_core.specs.Optionals.{optionals, AreBlankAtNulls}
use Rattle.column_core.specs.VarBinForm.{VarBinForm, AreVarBins, IsOfKind, IsValidRow, IsWithinBuffer, optional_bytes, varbin_flags, varbin_rows, varbin_value, view_bytes, zero_view}
use Rattle.column_core.proofs.OptionalRows.{length-optionals}
use Rattle.column_bytes.specs.Texts.{shown_rows, text_sizes, text_bytes, text_fields, views_from, packed_with, packed, AreTexts}
use Rattle.column_bytes.proofs.TextPieces.{sum-cons, length-concat, pieces, length-pieces, sizes-pieces, concat-pieces, pieces-concat, or_none, shown-rows, shown-optionals, optionals-shown, blank-shown, blank-pieces, length-views, cut-views}

-- ---- a packed column of sizes and bytes

packed_rows : (kind : VarBinKind) (sizes content : List ℕ) (v : ValidityForm) → optional_bytes (packed_with kind sizes content v) ≡ optionals (pieces sizes content) (flags v (length sizes))
packed_rows kind sizes content v =
    ap (λ (xss : List (List ℕ)). optionals xss (flags v (length (views_from 0 sizes)))) (cut-views sizes content content 0 refl) ∙ ap (λ (n : ℕ). optionals (pieces sizes content) (flags v n)) (length-views 0 sizes)

module _ (kind : VarBinKind) (sizes content : List ℕ) (v : ValidityForm) (has : HasLength v (length sizes)) (blank : AreBlankAtNulls 0 sizes (flags v (length sizes))) (summed : sum sizes ≡ length content) where
  shown-packed : shown_rows (packed_with kind sizes content v) ≡ pieces sizes content
  shown-packed =
      shown-rows (packed_with kind sizes content v) ∙ ap (map or_none) (packed_rows kind sizes content v) ∙ shown-optionals (pieces sizes content) (flags v (length sizes)) (length-flags v (length sizes) has ∙ sym (length-pieces sizes content)) (blank-pieces sizes content (flags v (length sizes)) blank)

  pub sizes-packed : text_sizes (packed_with kind sizes content v) ≡ sizes
  sizes-packed = ap (map length) shown-packed ∙ sizes-pieces sizes content (omega (arith, summed))

  pub bytes-packed : text_bytes (packed_with kind sizes content v) ≡ content
  bytes-packed = ap concat shown-packed ∙ concat-pieces sizes content summed

  pub packed-same : packed (packed_with kind sizes content v) ≡ packed_with kind sizes content v
  packed-same = ap (λ (ns : List ℕ). packed_with kind ns (text_bytes (packed_with kind sizes content v)) v) sizes-packed ∙ ap (λ (xs : List ℕ). packed_with kind sizes xs v) bytes-packed

-- ---- a column, packed

module _ (form : VarBinForm) (has : HasLength form.validity (length form.views)) where
  flags_count : length (flags form.validity (length form.views)) ≡ length (map (view_bytes form.buffers) form.views)
  flags_count = length-flags form.validity (length form.views) has ∙ sym (length-map form.views (view_bytes form.buffers))

  pub count-shown : length (shown_rows form) ≡ length form.views
  count-shown =
      ap length (shown-rows form) ∙ length-map (optional_bytes form) or_none ∙ length-optionals (map (view_bytes form.buffers) form.views) (varbin_flags form) flags_count ∙ length-map form.views (view_bytes form.buffers)

  pub count-sizes : length (text_sizes form) ≡ length form.views
  count-sizes = length-map (shown_rows form) length ∙ count-shown

  pub blank-own : AreBlankAtNulls 0 (text_sizes form) (varbin_flags form)
  blank-own =
      subst (λ (xss : List (List ℕ)). AreBlankAtNulls 0 (map length xss) (varbin_flags form)) (sym (shown-rows form)) (blank-shown (map (view_bytes form.buffers) form.views) (varbin_flags form) flags_count)

  pub rows-packed : optional_bytes (packed form) ≡ optional_bytes form
  rows-packed =
      packed_rows form.kind (text_sizes form) (text_bytes form) form.validity ∙ ap (λ (xss : List (List ℕ)). optionals xss (flags form.validity (length (text_sizes form)))) (pieces-concat (shown_rows form)) ∙ ap (λ (n : ℕ). optionals (shown_rows form) (flags form.validity n)) count-sizes ∙ ap (λ (xss : List (List ℕ)). optionals xss (varbin_flags form)) (shown-rows form) ∙ optionals-shown (map (view_bytes form.buffers) form.views) (varbin_flags form) flags_count

  pub shown-own : shown_rows (packed form) ≡ shown_rows form
  shown-own = shown-rows (packed form) ∙ ap (map or_none) rows-packed ∙ sym (shown-rows form)

  -- its rows are the same
  pub varbin_rows-packed : varbin_rows (packed form) ≡ varbin_rows form
  varbin_rows-packed = ap (map (option_map (varbin_value form.kind))) rows-packed

-- packing it again changes nothing
pub packed-packed : (form : VarBinForm) → HasLength form.validity (length form.views) → packed (packed form) ≡ packed form
packed-packed form has = ap (λ (xss : List (List ℕ)). packed_with form.kind (map length xss) (concat xss) form.validity) (shown-own form has)

-- it has as many rows, and the same fields
pub same-count : (form : VarBinForm) → HasLength form.validity (length form.views) → length (views_from 0 (text_sizes form)) ≡ length form.views
same-count form has = length-views 0 (text_sizes form) ∙ count-sizes form has

pub same-fields : (form : VarBinForm) → HasLength form.validity (length form.views) → text_fields form.validity (text_sizes (packed form)) (text_bytes (packed form)) ≡ text_fields form.validity (text_sizes form) (text_bytes form)
same-fields form has = ap (λ (xss : List (List ℕ)). text_fields form.validity (map length xss) (concat xss)) (shown-own form has)

pub summed-own : (form : VarBinForm) → sum (text_sizes form) ≡ length (text_bytes form)
summed-own form = sym (length-concat (shown_rows form))

-- ---- a packed column is a column

within-views : (sizes content : List ℕ) (start k : ℕ) → k < length sizes → start + sum sizes ≤ length content → IsWithinBuffer (content ∷ []) (get_or (views_from start sizes) k zero_view)
within-views [] content start k lt le = absurd (omega arith)
within-views (size ∷ sizes) content start zero lt le = let whole = sum-cons size sizes in record { buffer = omega arith; bytes = omega arith }
within-views (size ∷ sizes) content start (suc k) lt le = let whole = sum-cons size sizes in within-views sizes content (start + size) k (omega arith) (omega arith)

get-map : (f : View → List ℕ) (views : List View) (k : ℕ) → k < length views → get_or (map f views) k [] ≡ f (get_or views k zero_view)
get-map f [] k lt = absurd (omega arith)
get-map f (view ∷ views) zero lt = refl
get-map f (view ∷ views) (suc k) lt = get-map f views k (omega arith)

valid-shown : (xss : List (List ℕ)) (bs : List Bool) (k : ℕ) → length bs ≡ length xss → k < length xss → get_or bs k false ≡ true → get_or (map or_none (optionals xss bs)) k [] ≡ get_or xss k []
valid-shown [] bs k h lt e = absurd (omega arith)
valid-shown (xs ∷ xss) [] k h lt e = absurd (omega arith)
valid-shown (xs ∷ xss) (true ∷ bs) zero h lt e = refl
valid-shown (xs ∷ xss) (false ∷ bs) zero h lt e = absurd cc
valid-shown (xs ∷ xss) (b ∷ bs) (suc k) h lt e = valid-shown xss bs k (omega arith) (omega arith) e

module _ (form : VarBinForm) (are : AreVarBins form) where
  -- a valid row shows the same bytes
  same-bytes : (row : ℕ) → row < length form.views → IsValidRow form row → view_bytes (text_bytes form ∷ []) (get_or (views_from 0 (text_sizes form)) row zero_view) ≡ view_bytes form.buffers (get_or form.views row zero_view)
  same-bytes row lt valid =
      let counted : length (views_from 0 (text_sizes form)) ≡ length form.views = length-views 0 (text_sizes form) ∙ count-sizes form are.counted in
      let cut : map (view_bytes (text_bytes form ∷ [])) (views_from 0 (text_sizes form)) ≡ shown_rows form = cut-views (text_sizes form) (text_bytes form) (text_bytes form) 0 refl ∙ pieces-concat (shown_rows form) in
      sym (get-map (view_bytes (text_bytes form ∷ [])) (views_from 0 (text_sizes form)) row (omega (arith, counted))) ∙ ap (λ (xss : List (List ℕ)). get_or xss row []) (cut ∙ shown-rows form) ∙ valid-shown (map (view_bytes form.buffers) form.views) (varbin_flags form) row (flags_count form are.counted) (omega (arith, length-map form.views (view_bytes form.buffers))) valid ∙ get-map (view_bytes form.buffers) form.views row lt

  counted-own : length (views_from 0 (text_sizes form)) ≡ length form.views
  counted-own = length-views 0 (text_sizes form) ∙ count-sizes form are.counted

  valid-own : (row : ℕ) → IsValidRow (packed form) row → IsValidRow form row
  valid-own row valid = subst (λ (n : ℕ). get_or (flags form.validity n) row false ≡ true) counted-own valid

  pub AreVarBins-packed : AreVarBins (packed form)
  AreVarBins-packed = record {
    counted = subst (λ (n : ℕ). HasLength form.validity n) (sym counted-own) are.counted;
    within = λ row lt valid. within-views (text_sizes form) (text_bytes form) 0 row (omega (arith, length-views 0 (text_sizes form))) (omega (arith, summed-own form));
    texts = λ row lt valid.
        let here : row < length form.views = omega (arith, counted-own) in
        subst (λ (xs : List ℕ). IsOfKind form.kind xs) (sym (same-bytes row here (valid-own row valid))) (are.texts row here (valid-own row valid));
  }

pub AreTexts-packed : (form : VarBinForm) → AreTexts form → AreTexts (packed form)
AreTexts-packed form texts = record {
  are = AreVarBins-packed form texts.are;
  rows_small = omega (arith, length-views 0 (text_sizes form), count-sizes form texts.are.counted, texts.rows_small);
  bytes_small = omega (arith, ap (λ (xss : List (List ℕ)). length (concat xss)) (shown-own form texts.are.counted), texts.bytes_small);
}
