-- Rows that offsets cut, and why they cut none.
use Rattle.std.proofs.Common.{◌≡◌, ◌≢◌, ◌≤◌, ◌<◌, ◌+◌, ◌-◌, ◌∷◌, [], ◌++◌, ◌^◌, inl, inr, sym, ap, ◌∙◌, subst, pos, ℤ, ℕ, List, length, map, get_or, ⊎_elim, slice_index_or, arith}
use Rattle.std.specs.Prelude.{None, Result, Ok, Err, IfErr, IfOk, IsErrAnd}
use Rattle.std.specs.Global.{Global}
use Rattle.std.proofs.lemmas.Bool.{cases_eq}
use Rattle.std.proofs.lemmas.List.{get_or-map, get_or_append_left, get_or_push, length-map}
use Rattle.column_base.specs.ValidityForm.{ValidityForm}
use Rattle.column_base.specs.declared.error.VortexError.{VortexError}
use Rattle.column_core.specs.Refusal.{IsErrorFor}
use Rattle.column_core.specs.VarBinFault.{VarBinFault}
use Rattle.column_core.specs.Leaf.{OfVarBins}
use Rattle.column_core.specs.VarBinForm.{VarBinForm, varbin_with, zero_view}
use Rattle.column_core.specs.declared.varbinview.View.{View}
use Rattle.column_core.specs.declared.varbinview.VarBinKind.{VarBinKind}
use Rattle.runend_array.specs.Array.{column_of}
use Rattle.runend_array.specs.Column.{OfLeaf}
use Rattle.runend_array.specs.declared.array_ref.ArrayRef.{ArrayRef}
use Rattle.runend_array.specs.declared.array_ref.ArrayRef.TheVariants.{VarBinView}
use Rattle.c_columns.specs.Bits.{validity_by, validity_fault}
use Rattle.c_columns.specs.Ending.{IsShortOr}
use Rattle.c_columns.specs.Makers.{AreCuts, AreTextsOf, CutsFault, IsCut, IsFirstUncut, IsRowCut, TextsFault}

-- two offsets, one of which does not fit `usize`, or which fall, cut nothing
pub uncut_start : (start stop : ℤ) → ((k : ℕ) → k < 2 ^ 64 → start ≢ pos k) → ¬ IsCut start stop
uncut_start start stop none cut = none cut.from (omega (arith, cut.order, cut.numbered)) cut.begins

pub uncut_stop : (start stop : ℤ) → ((k : ℕ) → k < 2 ^ 64 → stop ≢ pos k) → ¬ IsCut start stop
uncut_stop start stop none cut = none cut.to cut.numbered cut.stops

pub uncut_order : (a b : ℕ) (start stop : ℤ) → start ≡ pos a → stop ≡ pos b → b < a → ¬ IsCut start stop
uncut_order a b start stop is other below cut =
    let same : pos cut.from ≡ pos a = sym cut.begins ∙ is in
    let same_to : pos cut.to ≡ pos b = sym cut.stops ∙ other in
    let from : cut.from ≡ a = cc in
    let to : cut.to ≡ b = cc in
    omega (arith, below, cut.order, from, to)

pub is_cut : (a b : ℕ) (start stop : ℤ) → start ≡ pos a → stop ≡ pos b → a ≤ b → b < 2 ^ 64 → IsCut start stop
is_cut a b start stop is other order numbered = record { from = a; to = b; begins = is; stops = other; order = order; numbered = numbered }

-- the first row that is none
pub first_uncut : (offsets : List ℤ) (row : ℕ) (start stop : ℤ) → row + 1 < length offsets → slice_index_or offsets row (pos 0) ≡ start → slice_index_or offsets (row + 1) (pos 0) ≡ stop
    → ¬ IsCut start stop → ((k : ℕ) → k < row → IsRowCut offsets k) → IsFirstUncut offsets row
first_uncut offsets row start stop there is other uncut before =
    record { there = there; uncut = λ cut. uncut (subst (λ (z : ℤ). IsCut z stop) is (subst (λ (z : ℤ). IsCut (slice_index_or offsets row (pos 0)) z) other cut)); before = before }

-- the number of an offset that was read
pub offset_at : {T : Type 0} (number : T → ℤ) (offsets : List T) (row : ℕ) (offset : T) → row < length offsets → offset ≡ get_or offsets row offset → slice_index_or (map number offsets) row (pos 0) ≡ number offset
offset_at number offsets row offset there is = get_or-map number offsets row offset (pos 0) there ∙ ap number (sym is)

-- what holds of each view so far and of the next
pub view_more : (P : ℕ → View → Type 0) (views more : List View) (row : ℕ) (view : View) → length views ≡ row → more ≡ views ++ view ∷ []
    → ((k : ℕ) → k < row → P k (slice_index_or views k zero_view)) → P row view → (k : ℕ) → k < row + 1 → P k (slice_index_or more k zero_view)
view_more P views more row view count put so_far this k below =
    let at : slice_index_or more k zero_view ≡ get_or (views ++ view ∷ []) k zero_view = ap (λ (l : List View). get_or l k zero_view) put in
    ⊎_elim
    (λ (same : k ≡ row).
    let here : slice_index_or more k zero_view ≡ view = at ∙ get_or_push views view zero_view k (count ∙ sym same) in
    subst (λ (v : View). P k v) (sym here) (subst (λ (n : ℕ). P n view) (sym same) this))
    (λ (other : k ≢ row).
    let below_row : k < row = omega (arith, below, other) in
    let here : slice_index_or more k zero_view ≡ slice_index_or views k zero_view = at ∙ get_or_append_left views (view ∷ []) zero_view k (subst (λ (n : ℕ). k < n) (sym count) below_row) in
    subst (λ (v : View). P k v) (sym here) (so_far k below_row))
    (cases_eq k row)

-- one row more that is cut
pub cut_more : (offsets : List ℤ) (row : ℕ) (start stop : ℤ) → ((k : ℕ) → k < row → IsRowCut offsets k) → slice_index_or offsets row (pos 0) ≡ start → slice_index_or offsets (row + 1) (pos 0) ≡ stop → IsCut start stop
    → (k : ℕ) → k < row + 1 → IsRowCut offsets k
cut_more offsets row start stop so_far is other cut k below =
    let this : IsRowCut offsets row = subst (λ (z : ℤ). IsCut z (slice_index_or offsets (row + 1) (pos 0))) (sym is) (subst (λ (z : ℤ). IsCut start z) (sym other) cut) in
    ⊎_elim
    (λ (same : k ≡ row). subst (λ (n : ℕ). IsRowCut offsets n) (sym same) this)
    (λ (above : k ≢ row). so_far k (omega (arith, below, above)))
    (cases_eq k row)

-- what the exit of a `?` returns
pub passed_short : {T : Type 0} (Fault : VortexError → Type 0) (error : VortexError) (r : Result T VortexError) → IsErrAnd r (λ (e : VortexError). e ≡ error) → IsShortOr Fault error → IfErr r (λ (e : VortexError). IsShortOr Fault e)
passed_short Fault error (Ok value) is why = absurd is
passed_short Fault error (Err other) is why = subst (λ (e : VortexError). IsShortOr Fault e) (sym is) why

-- what follows of a value
pub of_value : {T E : Type 0} (P Q : T → Type 0) (r : Result T E) → ((x : T) → P x → Q x) → IfOk r P → IfOk r Q
of_value P Q (Ok value) follows holds = follows value holds
of_value P Q (Err error) follows holds = holds

-- the column of texts
pub texts_made : {T : Type 0} (number : T → ℤ) (kind : VarBinKind) (offsets : List T) (bytes : List ℕ) (nulls : ℕ) (bits : List ℕ) (first : ℕ) (views : List View) (buffers : List (List ℕ)) (validity : ValidityForm) (count : ℕ) (array : VarBinForm) (c : ArrayRef Global)
    → AreCuts (map number offsets) views → count ≡ length views → validity ≡ validity_by nulls bits first count → buffers ≡ bytes ∷ [] → array ≡ varbin_with kind views buffers validity → c ≡ VarBinView array
    → AreTextsOf kind (map number offsets) bytes (validity_by nulls bits first (length offsets - 1)) c
texts_made number kind offsets bytes nulls bits first views buffers validity count array c cuts counted valid only is same =
    let rows : count ≡ length offsets - 1 = omega (arith, counted, cuts.count, length-map offsets number) in
    let form : array ≡ varbin_with kind views (bytes ∷ []) (validity_by nulls bits first (length offsets - 1)) =
    is ∙ ap (λ (b : List (List ℕ)). varbin_with kind views b validity) only ∙ ap (λ (v : ValidityForm). varbin_with kind views (bytes ∷ []) v) (valid ∙ ap (λ (n : ℕ). validity_by nulls bits first n) rows) in
    record { views = views; cuts = cuts; is = ap (λ (a : ArrayRef Global). column_of a) same ∙ ap (λ (f : VarBinForm). OfLeaf (OfVarBins f)) form }

module _ (kind : VarBinKind) (offsets : List ℤ) (bytes : List ℕ) (nulls : ℕ) (bits : List ℕ) (first : ℕ) (error : VortexError) where
  -- no rows are cut
  pub cuts_refused : IsShortOr (CutsFault offsets) error → IsShortOr (TextsFault kind offsets bytes nulls bits first) error
  cuts_refused (inl short) = inl short
  cuts_refused (inr fault) = inr (inl fault)

  -- there are fewer bits than rows
  pub bits_refused : (views : List View) → AreCuts offsets views → IsErrorFor (validity_fault nulls bits first (length views)) error → IsShortOr (TextsFault kind offsets bytes nulls bits first) error
  bits_refused views cuts (inl short) = inl short
  bits_refused views cuts (inr found) = inr (inr (record { views = views; cuts = cuts; is = inl found }))

  -- the rows are not texts
  pub texts_refused : (views : List View) (buffers : List (List ℕ)) (validity : ValidityForm) → AreCuts offsets views → validity_fault nulls bits first (length views) ≡ None → buffers ≡ bytes ∷ []
      → validity ≡ validity_by nulls bits first (length views) → VarBinFault (varbin_with kind views buffers validity) error → IsShortOr (TextsFault kind offsets bytes nulls bits first) error
  texts_refused views buffers validity cuts enough only is fault =
      let here = subst (λ (v : ValidityForm). VarBinFault (varbin_with kind views (bytes ∷ []) v) error) is (subst (λ (b : List (List ℕ)). VarBinFault (varbin_with kind views b validity) error) only fault) in
      inr (inr (record { views = views; cuts = cuts; is = inr (enough, here) }))

  -- the same, of as many bits as views
  pub array_refused : (views : List View) (buffers : List (List ℕ)) (validity : ValidityForm) (count : ℕ) → AreCuts offsets views → count ≡ length views → validity_fault nulls bits first count ≡ None → buffers ≡ bytes ∷ []
      → validity ≡ validity_by nulls bits first count → VarBinFault (varbin_with kind views buffers validity) error → IsShortOr (TextsFault kind offsets bytes nulls bits first) error
  array_refused views buffers validity count cuts counted enough only is fault =
      let rows = ap (λ (n : ℕ). validity_fault nulls bits first n) (sym counted) ∙ enough in
      texts_refused views buffers validity cuts rows only (is ∙ ap (λ (n : ℕ). validity_by nulls bits first n) counted) fault
