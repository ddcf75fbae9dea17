-- Texts that are put one after the other into one buffer.
use Rattle.std.proofs.Common.{◌≡◌, ◌∙◌, ◌+◌, ◌-◌, ◌<◌, ◌≤◌, ℕ, zero, suc, List, [], ◌∷◌, ◌++◌, Bool, false, Some, length, map, drop, take, refl, sym, ap, subst, arith, get_or}
use Rattle.std.specs.Prelude.{All, option_map, slice_get, slice_index_or, slice_range}
use Rattle.std.proofs.lemmas.List.{drop-append-le, drop_at, length-append, length-drop, map-append, take-append-le, take_all}
use Rattle.std.proofs.lemmas.List.Elements.{All-head, All-push, All-tail, All-weaker}
use Rattle.std.proofs.lemmas.Option.{slice_get-get_or, slice_get-map}
use Rattle.column_base.proofs.Ranges.{length-slice_range}
use Rattle.column_core.specs.Optionals.{AreBlankAtNulls}
use Rattle.column_core.specs.VarBinForm.{IsOfKind, IsWithinBuffer, view_bytes, zero_view}
use Rattle.column_core.specs.declared.varbinview.VarBinKind.{VarBinKind}
use Rattle.column_core.specs.declared.varbinview.View.{View}
use Rattle.runend_builder.specs.Texts.{AreCut, IsCut, text_view, texts_of}

-- what a view of the one buffer cuts
pub cut_of_one : (bytes : List ℕ) (v : View) → v.buffer ≡ 0 → view_bytes (bytes ∷ []) v ≡ slice_range bytes v.start (v.start + v.size)
cut_of_one bytes v first = ap (λ (n : ℕ). slice_range (slice_index_or (bytes ∷ []) n []) v.start (v.start + v.size)) first

-- a view within the one buffer
pub in_one : (bytes : List ℕ) (v : View) → IsWithinBuffer (bytes ∷ []) v → (v.buffer ≡ 0) × (v.start + v.size ≤ length bytes)
in_one bytes v within =
    let first : v.buffer ≡ 0 = (let below = within.buffer in omega arith) in
    (first, subst (λ (n : ℕ). v.start + v.size ≤ length (slice_index_or (bytes ∷ []) n [])) first within.bytes)

pub within_one : (bytes : List ℕ) (v : View) → v.buffer ≡ 0 → v.start + v.size ≤ length bytes → IsWithinBuffer (bytes ∷ []) v
within_one bytes v first stop = record {
  buffer = omega arith;
  bytes = subst (λ (n : ℕ). v.start + v.size ≤ length (slice_index_or (bytes ∷ []) n [])) (sym first) stop;
}

-- bytes after a range do not change it
range_stays : (bytes more : List ℕ) (start stop : ℕ) → start ≤ stop → stop ≤ length bytes → slice_range (bytes ++ more) start stop ≡ slice_range bytes start stop
range_stays bytes more start stop ordered within =
    let long = length-drop start bytes in
    ap (take (stop - start)) (drop-append-le start bytes more (omega arith)) ∙ take-append-le (stop - start) (drop start bytes) more (omega arith)

-- nor what a view cuts
pub cut_stays : (bytes more : List ℕ) (v : View) → IsWithinBuffer (bytes ∷ []) v → view_bytes ((bytes ++ more) ∷ []) v ≡ view_bytes (bytes ∷ []) v
cut_stays bytes more v within =
    let one = in_one bytes v within in
    cut_of_one (bytes ++ more) v one.0 ∙ range_stays bytes more v.start (v.start + v.size) (omega arith) one.1 ∙ sym (cut_of_one bytes v one.0)

pub still_cut : (kind : VarBinKind) (bytes more : List ℕ) (v : View) → IsCut kind (bytes ∷ []) v → IsCut kind ((bytes ++ more) ∷ []) v
still_cut kind bytes more v cut =
    let one = in_one bytes v cut.within in
    record {
      within = within_one (bytes ++ more) v one.0 (let long = length-append bytes more in let stop = one.1 in omega arith);
      of_kind = subst (IsOfKind kind) (sym (cut_stays bytes more v cut.within)) cut.of_kind;
      empty = cut.empty;
    }

-- the view of a text that is appended cuts it
cut_of_new : (bytes text : List ℕ) → view_bytes ((bytes ++ text) ∷ []) (text_view bytes text) ≡ text
cut_of_new bytes [] = refl
cut_of_new bytes (first ∷ others) =
    let text = first ∷ others in
    ap (take (length bytes + length text - length bytes)) (drop_at bytes text (length bytes) refl) ∙ take_all (length bytes + length text - length bytes) text (omega arith)

view_within : (bytes text : List ℕ) → IsWithinBuffer ((bytes ++ text) ∷ []) (text_view bytes text)
view_within bytes [] = record { buffer = omega arith; bytes = omega arith }
view_within bytes (first ∷ others) = record {
  buffer = omega arith;
  bytes = (let long = length-append bytes (first ∷ others) in omega arith);
}

zero_where_empty : (bytes text : List ℕ) → (text_view bytes text).size ≡ 0 → text_view bytes text ≡ zero_view
zero_where_empty bytes [] none = refl
zero_where_empty bytes (first ∷ others) none = absurd (omega arith)

new_cut : (kind : VarBinKind) (bytes text : List ℕ) → IsOfKind kind text → IsCut kind ((bytes ++ text) ∷ []) (text_view bytes text)
new_cut kind bytes text of_kind = record {
  within = view_within bytes text;
  of_kind = subst (IsOfKind kind) (sym (cut_of_new bytes text)) of_kind;
  empty = zero_where_empty bytes text;
}

-- maps that agree on each item
pub maps_agree : {X Y : Type 0} (f g : X → Y) (xs : List X) → All (λ x. f x ≡ g x) xs → map f xs ≡ map g xs
maps_agree f g [] agree = refl
maps_agree {X} {Y} f g (x ∷ xs) agree =
    let here = All-head (λ (y : X). f y ≡ g y) x xs agree in
    let there = maps_agree f g xs (All-tail (λ (y : X). f y ≡ g y) x xs agree) in
    (λ i. here i ∷ there i)

-- one text more
pub cuts_next : (kind : VarBinKind) (bytes text grown : List ℕ) (views next : List View) → AreCut kind (bytes ∷ []) views → IsOfKind kind text → next ≡ views ++ text_view bytes text ∷ []
    → grown ≡ bytes ++ text → AreCut kind (grown ∷ []) next
cuts_next kind bytes text grown views next cuts of_kind pushed extended =
    subst (λ (bs : List ℕ). AreCut kind (bs ∷ []) next) (sym extended)
    (subst (AreCut kind ((bytes ++ text) ∷ [])) (sym pushed)
    (All-push (IsCut kind ((bytes ++ text) ∷ [])) views (text_view bytes text)
    (All-weaker (IsCut kind (bytes ∷ [])) (IsCut kind ((bytes ++ text) ∷ [])) (λ v cut. still_cut kind bytes text v cut) views cuts) (new_cut kind bytes text of_kind)))

pub texts_next : (kind : VarBinKind) (bytes text grown : List ℕ) (views next : List View) → AreCut kind (bytes ∷ []) views → next ≡ views ++ text_view bytes text ∷ [] → grown ≡ bytes ++ text
    → texts_of (grown ∷ []) next ≡ texts_of (bytes ∷ []) views ++ text ∷ []
texts_next kind bytes text grown views next cuts pushed extended =
    let whole = bytes ++ text in
    (λ i. map (view_bytes (extended i ∷ [])) (pushed i))
    ∙ map-append (view_bytes (whole ∷ [])) views (text_view bytes text ∷ [])
    ∙ (λ i. maps_agree (view_bytes (whole ∷ [])) (view_bytes (bytes ∷ [])) views
    (All-weaker (IsCut kind (bytes ∷ [])) (λ (v : View). view_bytes (whole ∷ []) v ≡ view_bytes (bytes ∷ []) v) (λ v cut. cut_stays bytes text v cut.within) views cuts) i ++ cut_of_new bytes text i ∷ [])

-- the text at a place
pub text_there : (buffers : List (List ℕ)) (views : List View) (k : ℕ) (text : List ℕ) → k < length views → text ≡ view_bytes buffers (get_or views k zero_view)
    → slice_get (texts_of buffers views) k ≡ Some text
text_there buffers views k text within here =
    slice_get-map (view_bytes buffers) views k ∙ ap (option_map (view_bytes buffers)) (slice_get-get_or views k zero_view within) ∙ ap Some (sym here)

-- the blank item is stored where a flag is false
pub blank_at : {X : Type 0} (blank : X) (xs : List X) (bits : List Bool) (k : ℕ) → k < length xs → AreBlankAtNulls blank xs bits → slice_get bits k ≡ Some false → get_or xs k blank ≡ blank
blank_at blank [] bits k within blanks null = absurd (omega arith)
blank_at blank (x ∷ xs) [] k within blanks null = cc
blank_at blank (x ∷ xs) (b ∷ bits) zero within blanks null = blanks.0 (let same = null in cc)
blank_at blank (x ∷ xs) (b ∷ bits) (suc k) within blanks null = blank_at blank xs bits k (omega arith) blanks.1 null

-- nothing is cut under null
pub nothing_there : (buffers : List (List ℕ)) (views : List View) (bits : List Bool) (k : ℕ) → k < length views → AreBlankAtNulls zero_view views bits → slice_get bits k ≡ Some false
    → view_bytes buffers (get_or views k zero_view) ≡ []
nothing_there buffers views bits k within blanks null = ap (view_bytes buffers) (blank_at zero_view views bits k within blanks null)

-- a view within its buffer cuts as many bytes as it says
pub length_of_cut : (buffers : List (List ℕ)) (v : View) → IsWithinBuffer buffers v → length (view_bytes buffers v) ≡ v.size
length_of_cut buffers v within =
    let stop = within.bytes in
    let long = length-slice_range (slice_index_or buffers v.buffer []) v.start (v.start + v.size) (omega arith) stop in
    omega arith
