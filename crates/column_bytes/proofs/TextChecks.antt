-- Rows that are looked at one after the other are those of a column.
use Rattle.std.proofs.Common.{◌≡◌, ℕ, zero, suc, ◌+◌, ◌-◌, ◌^◌, ◌<◌, ◌≤◌, Bool, true, false, List, [], ◌∷◌, ◌++◌, length, get_or, drop, refl, sym, ap, subst, ◌∙◌, arith, inl, inr}
use Rattle.std.specs.Prelude.{slice_range}
use Rattle.std.proofs.lemmas.Bool.{cases_lt}
use Rattle.std.proofs.lemmas.List.{length-append, length-map, get_or_append_left, get_or-append_right, length-drop, length-take-le}
use Rattle.std.proofs.lemmas.Option.{slice_get-get_or}
use Rattle.column_base.specs.ValidityForm.{ValidityForm, HasLength, flag_at, flags}
use Rattle.column_base.proofs.ValidityRows.{flags-at, length-flags}
use Rattle.column_core.specs.declared.varbinview.View.{View}
use Rattle.column_core.specs.declared.varbinview.VarBinKind.{VarBinKind}
use Rattle.column_core.specs.VarBinForm.{VarBinForm, AreVarBins, IsOfKind, IsWithinBuffer, varbin_with, view_bytes, zero_view}
use Rattle.column_fields.specs.Varint.{varint, BeginsWithNoShortest}
use Rattle.column_bytes.specs.Texts.{sizes_in, views_from}
use Rattle.column_bytes.specs.TextReading.{AreNoTextsIn, AreRowsOf, AreTextsIn, FitsRow}
use Rattle.column_bytes.proofs.TextNulls.{all_blank, blank_of, size_at}
use Rattle.column_bytes.proofs.TextPieces.{length-views}
use Rattle.column_bytes.proofs.TextSizes.{AreSoFar, started, one_more, all_read, left, left_over, no_size, too_many}
use Rattle.column_bytes.proofs.TextLaws.{no_rows, no_views, rows_in}

-- the view of the next row
abbrev view_at : ℕ → ℕ → View
view_at start size = record { buffer = 0; start = start; size = size }

pub record RowsSoFar (kind : VarBinKind) (v : ValidityForm) (content bytes rest : List ℕ) (start row : ℕ) : Type 0 where
  pub views : List View
  pub progress : AreSoFar bytes rest start views
  pub counted : length views ≡ row
  pub within : (k : ℕ) → k < row → IsWithinBuffer (content ∷ []) (get_or views k zero_view)
  pub fits : (k : ℕ) → k < row → FitsRow kind (flag_at v k) (view_bytes (content ∷ []) (get_or views k zero_view))

pub rows_none : (kind : VarBinKind) (v : ValidityForm) (content bytes : List ℕ) → RowsSoFar kind v content bytes bytes 0 0
rows_none kind v content bytes = record {
  views = [];
  progress = started bytes [] refl;
  counted = refl;
  within = λ k lt. absurd (omega (arith, lt));
  fits = λ k lt. absurd (omega (arith, lt));
}

-- ---- one row more

at_left : (views : List View) (view : View) (k : ℕ) → k < length views → get_or (views ++ view ∷ []) k zero_view ≡ get_or views k zero_view
at_left views view k lt = get_or_append_left views (view ∷ []) zero_view k lt

at_end : (views : List View) (view : View) (k : ℕ) → k ≡ length views → get_or (views ++ view ∷ []) k zero_view ≡ view
at_end views view k is =
    let none : k - length views ≡ 0 = omega (arith, is) in
    get_or-append_right views (view ∷ []) (length views) k zero_view refl (omega (arith, is)) ∙ ap (λ (n : ℕ). get_or (view ∷ []) n zero_view) none

each_more : (P : ℕ → View → Type 0) (views : List View) (view : View) (row : ℕ) → length views ≡ row → ((k : ℕ) → k < row → P k (get_or views k zero_view)) → P row view → (k : ℕ) → k < row + 1 → P k (get_or (views ++ view ∷ []) k zero_view)
each_more P views view row counted old new k lt =
    elim (cases_lt k row) [
      | inl below ↦ subst (λ (x : View). P k x) (sym (at_left views view k (omega (arith, below, counted)))) (old k below)
      | inr above ↦ (
          let same : row ≡ k = omega (arith, above, lt) in
          subst (λ (x : View). P k x) (sym (at_end views view k (omega (arith, same, counted)))) (subst (λ (n : ℕ). P n view) same new)
          )
    ]

pub rows_more : (kind : VarBinKind) (v : ValidityForm) (content bytes rest after : List ℕ) (start row number : ℕ) → RowsSoFar kind v content bytes rest start row → rest ≡ varint number ++ after → start + number ≤ length content → FitsRow kind (flag_at v row) (slice_range content start (start + number)) → RowsSoFar kind v content bytes after (start + number) (row + 1)
rows_more kind v content bytes rest after start row number h r le fits = record {
  views = h.views ++ view_at start number ∷ [];
  progress = one_more bytes rest after start number h.views (h.views ++ view_at start number ∷ []) h.progress r refl;
  counted = omega (arith, length-append h.views (view_at start number ∷ []), h.counted);
  within = each_more (λ _ view. IsWithinBuffer (content ∷ []) view) h.views (view_at start number) row h.counted h.within (record { buffer = omega arith; bytes = le });
  fits = each_more (λ k view. FitsRow kind (flag_at v k) (view_bytes (content ∷ []) view)) h.views (view_at start number) row h.counted h.fits fits;
}

-- ---- all rows

flag_or : (v : ValidityForm) (count k : ℕ) (d : Bool) → HasLength v count → k < count → get_or (flags v count) k d ≡ flag_at v k
flag_or v count k d has lt =
    let counted = length-flags v count has in
    let told = flags-at v count k has lt in
    let read = slice_get-get_or (flags v count) k d (omega (arith, counted)) in
    cc

-- how long the bytes of a view are
piece_long : (content : List ℕ) (view : View) → IsWithinBuffer (content ∷ []) view → view.buffer ≡ 0 → length (view_bytes (content ∷ []) view) ≡ view.size
piece_long content view h first =
    let own : view_bytes (content ∷ []) view ≡ slice_range content view.start (view.start + view.size) = ap (λ (n : ℕ). slice_range (get_or (content ∷ []) n []) view.start (view.start + view.size)) first in
    let le : view.start + view.size ≤ length content = subst (λ (n : ℕ). view.start + view.size ≤ length (get_or (content ∷ []) n [])) first h.bytes in
    let size : view.start + view.size - view.start ≡ view.size = omega arith in
    ap length own ∙ length-take-le (view.start + view.size - view.start) (drop view.start content) (omega (arith, length-drop view.start content, le)) ∙ size

first_buffer : (start : ℕ) (sizes : List ℕ) (k : ℕ) → (get_or (views_from start sizes) k zero_view).buffer ≡ 0
first_buffer start [] k = refl
first_buffer start (size ∷ sizes) zero = refl
first_buffer start (size ∷ sizes) (suc k) = first_buffer (start + size) sizes k

blank_row : (kind : VarBinKind) (b : Bool) (bytes : List ℕ) → b ≡ false → FitsRow kind b bytes → length bytes ≡ 0
blank_row kind b bytes e h = subst (λ (x : Bool). FitsRow kind x bytes) e h

text_row : (kind : VarBinKind) (b : Bool) (bytes : List ℕ) → b ≡ true → FitsRow kind b bytes → IsOfKind kind bytes
text_row kind b bytes e h = subst (λ (x : Bool). FitsRow kind x bytes) e h

pub rows_all : (kind : VarBinKind) (rows : ℕ) (v : ValidityForm) (sizes content rest : List ℕ) (start row : ℕ) → HasLength v rows → RowsSoFar kind v content sizes rest start row → row ≡ rows → length rest ≡ 0 → start ≡ length content → (form : VarBinForm) × AreTextsIn kind rows v sizes content form
rows_all kind rows v sizes content rest start row has h is none last =
    let form : VarBinForm = varbin_with kind h.views (content ∷ []) v in
    let counted : length h.views ≡ rows = h.counted ∙ is in
    let has' : HasLength v (length h.views) = subst (λ (n : ℕ). HasLength v n) (sym counted) has in
    let views = all_read rows (length content) sizes rest start h.views h.progress counted none last in
    let zero_at : (k : ℕ) → k < rows → flag_at v k ≡ false → get_or (sizes_in h.views) k 0 ≡ 0 = λ k lt null.
    let lt' : k < row = omega (arith, lt, is) in
    let first : (get_or h.views k zero_view).buffer ≡ 0 = ap (λ (vs : List View). (get_or vs k zero_view).buffer) h.progress.are ∙ first_buffer 0 (sizes_in h.views) k in
    size_at h.views k zero_view (omega (arith, lt, counted)) ∙ sym (piece_long content (get_or h.views k zero_view) (h.within k lt') first) ∙ blank_row kind (flag_at v k) (view_bytes (content ∷ []) (get_or h.views k zero_view)) null (h.fits k lt') in
    let r : AreRowsOf v rows (length content) sizes h.views = record { views_are = views; blank = all_blank v rows (sizes_in h.views) has zero_at } in
    let are : AreVarBins form = record {
      counted = has';
      within = λ k lt valid. h.within k (omega (arith, lt, h.counted));
      texts = λ k lt valid. text_row kind (flag_at v k) (view_bytes (content ∷ []) (get_or h.views k zero_view)) (sym (flag_or v (length h.views) k false has' lt) ∙ valid) (h.fits k (omega (arith, lt, h.counted)));
    } in
    (form, rows_in kind rows v sizes content h.views form r (record { is = refl; are = are }))

-- ---- what no column has

module _ (kind : VarBinKind) (rows : ℕ) (v : ValidityForm) (sizes content rest : List ℕ) (start row : ℕ) (h : RowsSoFar kind v content sizes rest start row) (p : start < 2 ^ 64) (q : length content < 2 ^ 64) where
  pub rows_no_size : row < rows → BeginsWithNoShortest rest → AreNoTextsIn kind rows v sizes content
  rows_no_size lt absent = no_rows kind rows v sizes content (no_views v rows (length content) sizes (no_size rows (length content) sizes rest start h.views h.progress (omega (arith, lt, h.counted)) p q absent))

  pub rows_too_many : (after : List ℕ) (number : ℕ) → row < rows → number < 2 ^ 64 → rest ≡ varint number ++ after → length content < start + number → AreNoTextsIn kind rows v sizes content
  rows_too_many after number lt small r more =
      no_rows kind rows v sizes content (no_views v rows (length content) sizes (too_many rows (length content) sizes rest after start number h.views h.progress (omega (arith, lt, h.counted)) p q small r more))

  pub rows_left_over : row ≡ rows → (length rest ≡ 0 → start ≡ length content → ⊥) → AreNoTextsIn kind rows v sizes content
  rows_left_over is ne = no_rows kind rows v sizes content (no_views v rows (length content) sizes (left_over rows (length content) sizes rest start h.views h.progress (h.counted ∙ is) p q ne))

views_left : (a b : List ℕ) (start k : ℕ) → k < length a → get_or (views_from start (a ++ b)) k zero_view ≡ get_or (views_from start a) k zero_view
views_left [] b start k lt = absurd (omega (arith, lt))
views_left (size ∷ a) b start zero lt = refl
views_left (size ∷ a) b start (suc k) lt = views_left a b (start + size) k (omega (arith, lt))

fits_by : (kind : VarBinKind) (bytes : List ℕ) (b : Bool) → (b ≡ true → IsOfKind kind bytes) → (b ≡ false → length bytes ≡ 0) → FitsRow kind b bytes
fits_by kind bytes true text blank = text refl
fits_by kind bytes false text blank = blank refl

-- the row of each column that shows these bytes fits
pub rows_unfit : (kind : VarBinKind) (rows : ℕ) (v : ValidityForm) (sizes content rest after : List ℕ) (start row number : ℕ) → RowsSoFar kind v content sizes rest start row → start < 2 ^ 64 → length content < 2 ^ 64 → HasLength v rows → row < rows → rest ≡ varint number ++ after → start + number ≤ length content → ¬ FitsRow kind (flag_at v row) (slice_range content start (start + number)) → AreNoTextsIn kind rows v sizes content
rows_unfit kind rows v sizes content rest after start row number h p q has lt r le unfit = record {
  none = λ form t.
      let view : View = view_at start number in
      let new : List View = h.views ++ view ∷ [] in
      let progress = one_more sizes rest after start number h.views new h.progress r refl in
      let long : length new ≡ row + 1 = omega (arith, length-append h.views (view ∷ []), h.counted) in
      let l = left rows (length content) sizes after (start + number) new t.sizes progress (omega (arith, long, lt)) (omega (arith, le, q)) q t.counted t.summed t.spelt in
      let within : row < length (sizes_in new) = omega (arith, length-map new (λ (x : View). x.size), long) in
      let shown : get_or (views_from 0 t.sizes) row zero_view ≡ view =
      ap (λ (ns : List ℕ). get_or (views_from 0 ns) row zero_view) l.is ∙ views_left (sizes_in new) l.tail 0 row within ∙ ap (λ (vs : List View). get_or vs row zero_view) (sym progress.are) ∙ at_end h.views view row (sym h.counted) in
      let size : get_or t.sizes row 0 ≡ number =
      ap (λ (ns : List ℕ). get_or ns row 0) l.is ∙ get_or_append_left (sizes_in new) l.tail 0 row within ∙ size_at new row zero_view (omega (arith, long)) ∙ ap (λ (x : View). x.size) (at_end h.views view row (sym h.counted)) in
      let are : AreVarBins (varbin_with kind (views_from 0 t.sizes) (content ∷ []) v) = subst (λ (f : VarBinForm). AreVarBins f) t.is t.are in
      let count : length (views_from 0 t.sizes) ≡ rows = length-views 0 t.sizes ∙ t.counted in
      let here : row < length (views_from 0 t.sizes) = omega (arith, count, lt) in
      unfit (fits_by kind (slice_range content start (start + number)) (flag_at v row) (λ e. subst (λ (x : View). IsOfKind kind (view_bytes (content ∷ []) x)) shown (are.texts row here (flag_or v (length (views_from 0 t.sizes)) row false are.counted here ∙ e))) (λ e.
      piece_long content view (record { buffer = omega arith; bytes = le }) refl ∙ sym size ∙ blank_of v rows row t.sizes has lt (omega (arith, t.counted, lt)) e t.blank));
}
