-- Texts in a range of one buffer, and after others once that range is there.
use Rattle.std.proofs.Common.{◌≡◌, ◌∙◌, ◌+◌, ◌-◌, ◌<◌, ◌≤◌, ℕ, zero, suc, List, [], ◌∷◌, ◌++◌, Bool, true, false, Some, length, map, drop, take, refl, sym, ap, subst, arith, get_or, append_assoc}
use Rattle.std.specs.Prelude.{All, Err, Ok, OnErr, OnOk, Result, slice_range}
use Rattle.std.proofs.Math.Seq.{drop-append-add}
use Rattle.std.proofs.lemmas.List.{drop-drop, drop-map, drop-take, length-append, map-append, take-take, take_more}
use Rattle.std.proofs.lemmas.List.Elements.{All-append, All-drop, All-from_get_or, All-head, All-map, All-push, All-tail, All-weaker}
use Rattle.std.proofs.lemmas.Str.{IsUtf8-nil}
use Rattle.std.proofs.lemmas.Option.{slice_get-get_or}
use Rattle.column_base.proofs.Ranges.{length-slice_range}
use Rattle.column_base.proofs.ValidityRows.{length-flags}
use Rattle.column_core.specs.VarBinForm.{AreVarBins, IsOfKind, IsWithinBuffer, IsZeroViewAtNulls, VarBinForm, varbin_flags, view_bytes, zero_view}
use Rattle.column_core.specs.declared.varbinview.VarBinKind.{VarBinKind}
use Rattle.column_core.specs.declared.varbinview.VarBinKind.TheVariants.{Binary, Utf8}
use Rattle.column_core.specs.declared.varbinview.View.{View}
use Rattle.runend_builder.specs.Spans.{IsInSpan, moved_view, placed_view}
use Rattle.runend_builder.specs.Texts.{AreCut, IsCut, texts_of}
use Rattle.runend_builder.proofs.Lists.{range_is_rest}
use Rattle.runend_builder.proofs.Cuts.{blank_at, cut_of_one, cut_stays, in_one, maps_agree, still_cut, within_one}

-- texts in a range lie in a wider one
pub spans_wider : (views : List View) (start end first last : ℕ) → first ≤ start → end ≤ last → All (IsInSpan start end) views → All (IsInSpan first last) views
spans_wider views start end first last less more texts =
    All-weaker (IsInSpan start end) (IsInSpan first last) (λ v text some. (let at = (text some).0 in omega arith, let to = (text some).1 in omega arith)) views texts

-- and one text more, in a range that has it too
pub spans_next : (views : List View) (k start end first last : ℕ) (d : View) → k < length views → first ≤ start → end ≤ last → (0 < (get_or views k d).size → first ≤ (get_or views k d).start)
    → (0 < (get_or views k d).size → (get_or views k d).start + (get_or views k d).size ≤ last) → All (IsInSpan start end) (take k views) → All (IsInSpan first last) (take (k + 1) views)
spans_next views k start end first last d within less more at to before =
    subst (All (IsInSpan first last)) (sym (take_more views k d within))
    (All-push (IsInSpan first last) (take k views) (get_or views k d) (spans_wider (take k views) start end first last less more before) (λ some. (at some, to some)))

-- the end of a text of the one buffer
pub end_within : (buffer : List ℕ) (views : List View) (k : ℕ) (d : View) → k < length views → All (IsWithinBuffer (buffer ∷ [])) views
    → (get_or views k d).start + (get_or views k d).size ≤ length buffer
end_within buffer views k d within texts = (in_one buffer (get_or views k d) (texts k d within)).1

-- one view more
pub moved_next : (f : View → View) (old now next : List View) (k : ℕ) (part : List View) (made d : View) → k < length part → made ≡ f (get_or part k d)
    → now ≡ old ++ map f (take k part) → next ≡ now ++ made ∷ [] → next ≡ old ++ map f (take (k + 1) part)
moved_next f old now next k part made d within same before pushed =
    let view = get_or part k d in
    pushed ∙ (λ i. before i ++ same i ∷ []) ∙ append_assoc old (map f (take k part)) (f view ∷ [])
    ∙ ap (λ (vs : List View). old ++ vs) (sym (ap (map f) (take_more part k d within) ∙ map-append f (take k part) (view ∷ [])))

-- bytes of a range, cut from that range
cut_from_range : (buffer : List ℕ) (first last start size : ℕ) → first ≤ start → start + size ≤ last → take size (drop (start - first) (slice_range buffer first last)) ≡ take size (drop start buffer)
cut_from_range buffer first last start size after before =
    let k = start - first in
    let m = last - start in
    let whole : last - first ≡ k + m = omega arith in
    let at : first + k ≡ start = omega arith in
    ap (λ (n : ℕ). take size (drop k (take n (drop first buffer)))) whole
    ∙ ap (take size) (drop-take k m (drop first buffer))
    ∙ take-take size m (drop k (drop first buffer)) (omega arith)
    ∙ ap (take size) (drop-drop k first buffer ∙ ap (λ (n : ℕ). drop n buffer) at)

-- and once the range is after other bytes
cut_behind : (old buffer : List ℕ) (first last start size : ℕ) → first ≤ start → start + size ≤ last
    → slice_range (old ++ slice_range buffer first last) (length old + (start - first)) (length old + (start - first) + size) ≡ slice_range buffer start (start + size)
cut_behind old buffer first last start size after before =
    let sum : length old + (start - first) + size - (length old + (start - first)) ≡ size = omega arith in
    let own : start + size - start ≡ size = omega arith in
    ap (λ (n : ℕ). take n (drop (length old + (start - first)) (old ++ slice_range buffer first last))) sum
    ∙ ap (take size) (drop-append-add old (slice_range buffer first last) (start - first))
    ∙ cut_from_range buffer first last start size after before
    ∙ ap (λ (n : ℕ). take n (drop start buffer)) (sym own)

nothing_long : (xs : List ℕ) → length xs ≡ 0 → [] ≡ xs
nothing_long [] none = refl
nothing_long (x ∷ xs) none = absurd (omega arith)

-- a moved view cuts what the view cut
placed_cut : (old buffer : List ℕ) (first last start size : ℕ) → (0 < size → (first ≤ start) × (start + size ≤ last))
    → view_bytes ((old ++ slice_range buffer first last) ∷ []) (placed_view (length old + (start - first)) size) ≡ slice_range buffer start (start + size)
placed_cut old buffer first last start zero text = ap (λ (n : ℕ). take n (drop start buffer)) (let none : 0 ≡ start + 0 - start = omega arith in none)
placed_cut old buffer first last start (suc size) text = let both = text (omega arith) in cut_behind old buffer first last start (suc size) both.0 both.1

pub moved_cut : (old buffer : List ℕ) (first last : ℕ) (v : View) → IsWithinBuffer (buffer ∷ []) v → IsInSpan first last v
    → view_bytes ((old ++ slice_range buffer first last) ∷ []) (moved_view first (length old) v) ≡ view_bytes (buffer ∷ []) v
moved_cut old buffer first last v within text =
    placed_cut old buffer first last v.start v.size text ∙ sym (cut_of_one buffer v (in_one buffer v within).0)

-- and lies within the one buffer
placed_within : (bytes : List ℕ) (start size : ℕ) → (0 < size → start + size ≤ length bytes) → IsWithinBuffer (bytes ∷ []) (placed_view start size)
placed_within bytes start zero fits = within_one bytes zero_view refl (omega arith)
placed_within bytes start (suc size) fits = within_one bytes (placed_view start (suc size)) refl (fits (omega arith))

placed_zero : (start size : ℕ) → (placed_view start size).size ≡ 0 → placed_view start size ≡ zero_view
placed_zero start zero none = refl
placed_zero start (suc size) none = absurd (omega arith)

-- a text of the one buffer
pub record IsText (kind : VarBinKind) (buffer : List ℕ) (view : View) : Type 0 where
  pub within : IsWithinBuffer (buffer ∷ []) view
  pub of_kind : IsOfKind kind (view_bytes (buffer ∷ []) view)

moved_sound : (kind : VarBinKind) (old buffer : List ℕ) (first last : ℕ) (v : View) → first ≤ last → last ≤ length buffer → IsText kind buffer v → IsInSpan first last v
    → IsCut kind ((old ++ slice_range buffer first last) ∷ []) (moved_view first (length old) v)
moved_sound kind old buffer first last v ordered inside is text = record {
  within = placed_within (old ++ slice_range buffer first last) (length old + (v.start - first)) v.size (λ some.
      let long = length-append old (slice_range buffer first last) in
      let size = length-slice_range buffer first last ordered inside in
      let at = (text some).0 in
      let to = (text some).1 in
      omega arith);
  of_kind = subst (IsOfKind kind) (sym (moved_cut old buffer first last v is.within text)) is.of_kind;
  empty = placed_zero (length old + (v.start - first)) v.size;
}

-- texts that stay as they are stay cut
pub cut_kept : (kind : VarBinKind) (old bytes : List ℕ) (own views : List View) → AreCut kind (old ∷ []) own → views ≡ own → bytes ≡ old → AreCut kind (bytes ∷ []) views
cut_kept kind old bytes own views cuts same_views same_bytes =
    subst (AreCut kind (bytes ∷ [])) (sym same_views) (subst (λ (bs : List ℕ). AreCut kind (bs ∷ []) own) (sym same_bytes) cuts)

-- all of them
pub record AreMoved (kind : VarBinKind) (old buffer bytes : List ℕ) (own part views : List View) : Type 0 where
  pub cut : AreCut kind (bytes ∷ []) views
  pub texts : texts_of (bytes ∷ []) views ≡ texts_of (old ∷ []) own ++ texts_of (buffer ∷ []) part

both_all : (kind : VarBinKind) (buffer : List ℕ) (first last : ℕ) (part : List View) → All (IsText kind buffer) part → All (IsInSpan first last) part
    → All (λ v. IsText kind buffer v × IsInSpan first last v) part
both_all kind buffer first last part are texts = λ k d within. (are k d within, texts k d within)

moved_texts : (kind : VarBinKind) (old buffer : List ℕ) (first last : ℕ) (part : List View) → All (IsText kind buffer) part → All (IsInSpan first last) part
    → texts_of ((old ++ slice_range buffer first last) ∷ []) (map (moved_view first (length old)) part) ≡ texts_of (buffer ∷ []) part
moved_texts kind old buffer first last [] are texts = refl
moved_texts kind old buffer first last (v ∷ part) are texts =
    let here = moved_cut old buffer first last v (All-head (IsText kind buffer) v part are).within (All-head (IsInSpan first last) v part texts) in
    let there = moved_texts kind old buffer first last part (All-tail (IsText kind buffer) v part are) (All-tail (IsInSpan first last) v part texts) in
    (λ i. here i ∷ there i)

pub moved_all : (kind : VarBinKind) (old buffer bytes : List ℕ) (own part views : List View) (first last : ℕ) → first ≤ last → last ≤ length buffer → AreCut kind (old ∷ []) own
    → All (IsText kind buffer) part → All (IsInSpan first last) part → bytes ≡ old ++ slice_range buffer first last → views ≡ own ++ map (moved_view first (length old)) part
    → AreMoved kind old buffer bytes own part views
moved_all kind old buffer bytes own part views first last ordered inside cuts are texts grown pushed =
    let span = slice_range buffer first last in
    let whole = old ++ span in
    let moved = map (moved_view first (length old)) part in
    let kept = All-weaker (IsCut kind (old ∷ [])) (IsCut kind (whole ∷ [])) (λ v cut. still_cut kind old span v cut) own cuts in
    let new = All-map (IsCut kind (whole ∷ [])) (moved_view first (length old)) part
    (All-weaker (λ (v : View). IsText kind buffer v × IsInSpan first last v) (λ (v : View). IsCut kind (whole ∷ []) (moved_view first (length old) v))
    (λ v both. moved_sound kind old buffer first last v ordered inside both.0 both.1) part (both_all kind buffer first last part are texts)) in
    record {
      cut = subst (λ (bs : List ℕ). AreCut kind (bs ∷ []) views) (sym grown) (subst (AreCut kind (whole ∷ [])) (sym pushed) (All-append (IsCut kind (whole ∷ [])) own moved kept new));
      texts = (λ i. texts_of (grown i ∷ []) (pushed i)) ∙ map-append (view_bytes (whole ∷ [])) own moved
          ∙ (λ i. maps_agree (view_bytes (whole ∷ [])) (view_bytes (old ∷ [])) own
          (All-weaker (IsCut kind (old ∷ [])) (λ (v : View). view_bytes (whole ∷ []) v ≡ view_bytes (old ∷ []) v) (λ v cut. cut_stays old span v cut.within) own cuts) i
          ++ moved_texts kind old buffer first last part are texts i);
    }

-- the one buffer, as it is read
list_of_one : {X : Type 0} (xs : List X) (x : X) → 1 ≤ length xs → length xs < 2 → x ≡ get_or xs 0 x → xs ≡ x ∷ []
list_of_one [] x some few here = absurd (omega arith)
list_of_one {X} (y ∷ []) x some few here = ap (λ (z : X). z ∷ []) (sym here)
list_of_one (y ∷ z ∷ zs) x some few here = absurd (omega arith)

pub one_buffer : (buffers told : List (List ℕ)) (item buffer : List ℕ) → told ≡ buffers → 1 ≤ length told → length told < 2 → item ≡ get_or told 0 item → buffer ≡ item → buffers ≡ buffer ∷ []
one_buffer buffers told item buffer same some few here read = sym same ∙ list_of_one told item some few here ∙ ap (λ (bytes : List ℕ). bytes ∷ []) (sym read)

-- each row of a column with one buffer has a text of it, null has nothing
zero_text : (kind : VarBinKind) (buffer : List ℕ) → IsText kind buffer zero_view
zero_text Utf8 buffer = record { within = within_one buffer zero_view refl (omega arith); of_kind = IsUtf8-nil }
zero_text Binary buffer = record { within = within_one buffer zero_view refl (omega arith); of_kind = tt }

row_text : (form : VarBinForm) (buffer : List ℕ) → AreVarBins form → IsZeroViewAtNulls form → form.buffers ≡ buffer ∷ [] → (row : ℕ) → row < length form.views → (valid : Bool)
    → get_or (varbin_flags form) row false ≡ valid → IsText form.kind buffer (get_or form.views row zero_view)
row_text form buffer sound blanks one row within true is = record {
  within = subst (λ (bs : List (List ℕ)). IsWithinBuffer bs (get_or form.views row zero_view)) one (sound.within row within is);
  of_kind = subst (λ (bs : List (List ℕ)). IsOfKind form.kind (view_bytes bs (get_or form.views row zero_view))) one (sound.texts row within is);
}
row_text form buffer sound blanks one row within false is =
    let counted = length-flags form.validity (length form.views) sound.counted in
    subst (IsText form.kind buffer) (sym (blank_at zero_view form.views (varbin_flags form) row within blanks (slice_get-get_or (varbin_flags form) row false (omega arith) ∙ ap Some is)))
    (zero_text form.kind buffer)

all_texts : (form : VarBinForm) (buffer : List ℕ) → AreVarBins form → IsZeroViewAtNulls form → form.buffers ≡ buffer ∷ [] → All (IsText form.kind buffer) form.views
all_texts form buffer sound blanks one =
    All-from_get_or (IsText form.kind buffer) form.views zero_view (λ row within. row_text form buffer sound blanks one row within (get_or (varbin_flags form) row false) refl)

-- so have those from one on
pub part_texts : (form : VarBinForm) (kind : VarBinKind) (buffer : List ℕ) (stored : List View) (start : ℕ) → AreVarBins form → IsZeroViewAtNulls form → form.kind ≡ kind → form.buffers ≡ buffer ∷ []
    → stored ≡ form.views → All (IsText kind buffer) (slice_range stored start (length stored))
part_texts form kind buffer stored start sound blanks same one is =
    subst (λ (k : VarBinKind). All (IsText k buffer) (slice_range stored start (length stored))) same
    (subst (All (IsText form.kind buffer)) (sym (range_is_rest stored start ∙ ap (drop start) is)) (All-drop (IsText form.kind buffer) start form.views (all_texts form buffer sound blanks one)))

pub part_within : (form : VarBinForm) (buffer : List ℕ) (stored : List View) (start : ℕ) → AreVarBins form → IsZeroViewAtNulls form → form.buffers ≡ buffer ∷ [] → stored ≡ form.views
    → All (IsWithinBuffer (buffer ∷ [])) (slice_range stored start (length stored))
part_within form buffer stored start sound blanks one is =
    All-weaker (IsText form.kind buffer) (IsWithinBuffer (buffer ∷ [])) (λ v text. text.within) (slice_range stored start (length stored)) (part_texts form form.kind buffer stored start sound blanks refl one is)

-- they are the texts from one on
pub part_shown : (form : VarBinForm) (buffer : List ℕ) (stored : List View) (start : ℕ) → form.buffers ≡ buffer ∷ [] → stored ≡ form.views
    → texts_of (buffer ∷ []) (slice_range stored start (length stored)) ≡ drop start (texts_of form.buffers form.views)
part_shown form buffer stored start one is =
    (λ i. texts_of (sym one i) ((range_is_rest stored start ∙ ap (drop start) is) i)) ∙ sym (drop-map (view_bytes form.buffers) start form.views)

-- what two facts of a call that is not refused give
pub both_ok : {T E : Type 0} (result : Result T E) (P Q R : Type 0) → OnOk result P → OnOk result Q → (P → Q → R) → OnOk result R
both_ok (Ok value) P Q R p q since = since p q
both_ok (Err error) P Q R p q since = tt

-- and of one that may be
pub both_either : {T E : Type 0} (result : Result T E) (P Q S U R : Type 0) → OnOk result P → OnOk result Q → OnErr result S → OnErr result U → (P → Q → R) → (S → U → R) → R
both_either (Ok value) P Q S U R p q s u since kept = since p q
both_either (Err error) P Q S U R p q s u since kept = kept s u
