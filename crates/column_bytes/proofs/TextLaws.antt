-- The fields of texts or bytes are read as they are written, and in no other way.
use Rattle.std.proofs.Common.{◌≡◌, ℕ, ◌+◌, ◌*◌, ◌^◌, ◌<◌, ◌≤◌, List, [], ◌∷◌, ◌++◌, length, sum, refl, sym, ap, subst, ◌∙◌, arith, append_assoc}
use Rattle.std.proofs.lemmas.List.{length-append, length-map}
use Rattle.column_base.specs.ValidityForm.{ValidityForm, HasLength, flags}
use Rattle.column_core.specs.declared.varbinview.View.{View}
use Rattle.column_core.specs.declared.varbinview.VarBinKind.{VarBinKind}
use Rattle.column_core.specs.Optionals.{AreBlankAtNulls}
use Rattle.column_core.specs.VarBinForm.{VarBinForm, AreVarBins, varbin_with}
use Rattle.column_fields.specs.Varint.{varint}
use Rattle.column_fields.specs.Field.{bytes_field, HasNoBytesField, IsNoBytesField}
use Rattle.column_fields.specs.Validity.{validity_field, HasNoValidity}
use Rattle.column_fields.proofs.FieldLaws.{bytes_field_same}
use Rattle.column_fields.proofs.FlatFieldLaws.{last_same}
use Rattle.column_fields.proofs.SizeLaws.{bytes_long}
use Rattle.column_fields.proofs.ValidityLaws.{validity_same}
use Rattle.column_bytes.specs.Texts.{packed_with, sizes_bytes, sizes_in, text_bytes, text_fields, text_items, text_sizes, views_from}
use Rattle.column_bytes.specs.TextReading.{AreTextsOf, AreNoTextsOf, AreNoTextItems, AreViewsOf, AreRowsOf, AreNoRowsOf, AreNoViewsOf, AreTextsOver, HasNoTextsOver, AreTextsIn, AreNoTextsIn}
use Rattle.column_bytes.proofs.TextPieces.{length-views}
use Rattle.column_bytes.proofs.TextPacking.{sizes-packed, bytes-packed, packed-same, count-sizes, blank-own, summed-own}
use Rattle.column_bytes.proofs.TextSizes.{sizes_same}

-- ---- the bytes of sizes, and the bytes that rows show

item_parts : (sizes content : List ℕ) → text_items sizes content ≡ bytes_field 12 sizes ++ bytes_field 13 content
unfolding text_items
item_parts sizes content = refl

pub no_sizes : (bytes : List ℕ) → HasNoBytesField 12 bytes → AreNoTextItems bytes
no_sizes bytes h = record { none = λ sizes content p q e. h.none sizes (bytes_field 13 content) p (e ∙ item_parts sizes content) }

pub no_content : (bytes rest sizes : List ℕ) → length sizes < 2 ^ 64 → bytes ≡ bytes_field 12 sizes ++ rest → IsNoBytesField 13 rest → AreNoTextItems bytes
no_content bytes rest sizes small b h = record {
  none = λ others content p q e. h.none content q (bytes_field_same 12 sizes others rest (bytes_field 13 content) (omega arith) small p (sym b ∙ e ∙ item_parts others content)).1;
}

pub are_items : (bytes rest sizes content : List ℕ) → bytes ≡ bytes_field 12 sizes ++ rest → rest ≡ bytes_field 13 content → bytes ≡ text_items sizes content
are_items bytes rest sizes content b r = b ∙ ap (λ (t : List ℕ). bytes_field 12 sizes ++ t) r ∙ sym (item_parts sizes content)

items_same : (a b c d : List ℕ) → length a < 2 ^ 64 → length b < 2 ^ 64 → length c < 2 ^ 64 → length d < 2 ^ 64 → text_items a b ≡ text_items c d → (a ≡ c) × (b ≡ d)
items_same a b c d p q r s e =
    let one = bytes_field_same 12 a c (bytes_field 13 b) (bytes_field 13 d) (omega arith) p r (sym (item_parts a b) ∙ e ∙ item_parts c d) in
    (one.0, last_same 13 b d (omega arith) q s one.1)

sizes_within : (sizes content : List ℕ) → length sizes ≤ length (text_items sizes content)
unfolding text_items bytes_field
sizes_within sizes content = omega (
  arith,
  length-append (varint (12 * 8 + 2) ++ (varint (length sizes) ++ sizes)) (varint (13 * 8 + 2) ++ (varint (length content) ++ content)),
  length-append (varint (12 * 8 + 2)) (varint (length sizes) ++ sizes),
  length-append (varint (length sizes)) sizes,
)

-- ---- after the validity

field_parts : (v : ValidityForm) (sizes content : List ℕ) → text_fields v sizes content ≡ validity_field v ++ text_items (sizes_bytes sizes) content
unfolding text_fields
field_parts v sizes content = refl

joined : (form : VarBinForm) (old : List ℕ) → old ++ text_fields form.validity (text_sizes form) (text_bytes form) ≡ (((old ++ validity_field form.validity) ++ bytes_field 12 (sizes_bytes (text_sizes form))) ++ (varint (13 * 8 + 2) ++ varint (length (text_bytes form)))) ++ text_bytes form
unfolding text_fields text_items bytes_field
joined form old = simp append_assoc

pub puts_texts : (form : VarBinForm) (v : ValidityForm) (sizes : List ℕ) (total : ℕ) (old a b c new : List ℕ) → v ≡ form.validity → sizes ≡ sizes_bytes (text_sizes form) → total ≡ sum (text_sizes form) → a ≡ old ++ validity_field v → b ≡ a ++ bytes_field 12 sizes → c ≡ b ++ (varint (13 * 8 + 2) ++ varint total) → new ≡ c ++ text_bytes form → new ≡ old ++ text_fields form.validity (text_sizes form) (text_bytes form)
puts_texts form v sizes total old a b c new v-is s-is t-is p q r e = rw (e, r, q, p, v-is, s-is, t-is ∙ summed-own form) (sym (joined form old))

pub text_fields_long : (form : VarBinForm) → length (text_fields form.validity (text_sizes form) (text_bytes form)) ≡ length (validity_field form.validity) + length (bytes_field 12 (sizes_bytes (text_sizes form))) + length (bytes_field 13 (text_bytes form))
unfolding text_fields text_items
text_fields_long form = omega (arith, length-append (validity_field form.validity) (bytes_field 12 (sizes_bytes (text_sizes form)) ++ bytes_field 13 (text_bytes form)), length-append (bytes_field 12 (sizes_bytes (text_sizes form))) (bytes_field 13 (text_bytes form)))

-- how many bytes the fields have
pub text_fields_sum : (form : VarBinForm) (v : ValidityForm) (sizes content a b c : ℕ) → v ≡ form.validity → sizes ≡ length (sizes_bytes (text_sizes form)) → content ≡ sum (text_sizes form) → a ≡ length (validity_field v) → b ≡ length (varint (12 * 8 + 2) ++ varint sizes) → c ≡ length (varint (13 * 8 + 2) ++ varint content) → a + (b + c) + sizes + content ≡ length (text_fields form.validity (text_sizes form) (text_bytes form))
text_fields_sum form v sizes content a b c v-is s-is c-is p q r =
    let shown : content ≡ length (text_bytes form) = c-is ∙ summed-own form in
    let a' : a ≡ length (validity_field form.validity) = p ∙ ap (λ (w : ValidityForm). length (validity_field w)) v-is in
    let b' : b ≡ length (varint (12 * 8 + 2) ++ varint (length (sizes_bytes (text_sizes form)))) = q ∙ ap (λ (n : ℕ). length (varint (12 * 8 + 2) ++ varint n)) s-is in
    let c' : c ≡ length (varint (13 * 8 + 2) ++ varint (length (text_bytes form))) = r ∙ ap (λ (n : ℕ). length (varint (13 * 8 + 2) ++ varint n)) shown in
    omega (arith, text_fields_long form, bytes_long 12 (sizes_bytes (text_sizes form)), bytes_long 13 (text_bytes form), a', b', c', s-is, shown)

pub text_fields_past : (form : VarBinForm) → length (sizes_bytes (text_sizes form)) + sum (text_sizes form) ≤ length (text_fields form.validity (text_sizes form) (text_bytes form))
text_fields_past form = omega (arith, text_fields_long form, bytes_long 12 (sizes_bytes (text_sizes form)), bytes_long 13 (text_bytes form), summed-own form)

-- a column with these fields, after the validity that is read
record At (kind : VarBinKind) (rows : ℕ) (v : ValidityForm) (rest : List ℕ) (form : VarBinForm) : Type 0 where
  pub same : v ≡ form.validity
  pub rest_is : rest ≡ text_items (sizes_bytes (text_sizes form)) (text_bytes form)
  pub sizes_small : length (sizes_bytes (text_sizes form)) < 2 ^ 64

has_rows : (kind : VarBinKind) (rows : ℕ) (bytes : List ℕ) (form : VarBinForm) → AreTextsOf kind rows bytes form → HasLength form.validity rows
has_rows kind rows bytes form h = subst (λ (n : ℕ). HasLength form.validity n) h.counted h.stored.are.counted

at : (kind : VarBinKind) (rows : ℕ) (v : ValidityForm) (bytes rest : List ℕ) (form : VarBinForm) → rows < 2 ^ 64 → length bytes < 2 ^ 64 → HasLength v rows → bytes ≡ validity_field v ++ rest → AreTextsOf kind rows bytes form → At kind rows v rest form
at kind rows v bytes rest form small lt has b h =
    let items : List ℕ = text_items (sizes_bytes (text_sizes form)) (text_bytes form) in
    let spelt : bytes ≡ validity_field form.validity ++ items = h.spelt ∙ field_parts form.validity (text_sizes form) (text_bytes form) in
    let s = validity_same v form.validity rows rest items small has (has_rows kind rows bytes form h) (sym b ∙ spelt) in
    record { same = s.0; rest_is = s.1; sizes_small = omega (arith, ap length spelt, length-append (validity_field form.validity) items, sizes_within (sizes_bytes (text_sizes form)) (text_bytes form)) }

pub no_validity : (kind : VarBinKind) (rows : ℕ) (bytes : List ℕ) → HasNoValidity rows bytes → AreNoTextsOf kind rows bytes
no_validity kind rows bytes absent = record {
  none = λ form h. absent.none form.validity (text_items (sizes_bytes (text_sizes form)) (text_bytes form)) (has_rows kind rows bytes form h) (h.spelt ∙ field_parts form.validity (text_sizes form) (text_bytes form));
}

pub no_items : (kind : VarBinKind) (rows : ℕ) (v : ValidityForm) (bytes rest : List ℕ) → rows < 2 ^ 64 → length bytes < 2 ^ 64 → HasLength v rows → bytes ≡ validity_field v ++ rest → AreNoTextItems rest → AreNoTextsOf kind rows bytes
no_items kind rows v bytes rest small lt has b absent = record {
  none = λ form h.
      let here = at kind rows v bytes rest form small lt has b h in
      absent.none (sizes_bytes (text_sizes form)) (text_bytes form) here.sizes_small h.stored.bytes_small here.rest_is;
}

-- the column is the one of these sizes and this content
in_of : (kind : VarBinKind) (rows : ℕ) (v : ValidityForm) (sizes content bytes : List ℕ) (form : VarBinForm) → AreTextsOf kind rows bytes form → v ≡ form.validity → sizes ≡ sizes_bytes (text_sizes form) → content ≡ text_bytes form → AreTextsIn kind rows v sizes content form
in_of kind rows v sizes content bytes form h v-is s-is c-is = record {
  sizes = text_sizes form;
  is = sym h.packed_is ∙ ap (λ (k : VarBinKind). packed_with k (text_sizes form) (text_bytes form) form.validity) h.kind_is ∙ ap (λ (xs : List ℕ). packed_with kind (text_sizes form) xs form.validity) (sym c-is) ∙ ap (λ (w : ValidityForm). packed_with kind (text_sizes form) content w) (sym v-is);
  are = h.stored.are;
  counted = count-sizes form h.stored.are.counted ∙ h.counted;
  summed = summed-own form ∙ ap length (sym c-is);
  spelt = s-is;
  blank = subst (λ (w : ValidityForm). AreBlankAtNulls 0 (text_sizes form) (flags w rows)) (sym v-is) (subst (λ (n : ℕ). AreBlankAtNulls 0 (text_sizes form) (flags form.validity n)) h.counted (blank-own form h.stored.are.counted));
}

pub no_texts : (kind : VarBinKind) (rows : ℕ) (v : ValidityForm) (bytes rest sizes content : List ℕ) → rows < 2 ^ 64 → length bytes < 2 ^ 64 → HasLength v rows → bytes ≡ validity_field v ++ rest → rest ≡ text_items sizes content → length sizes < 2 ^ 64 → length content < 2 ^ 64 → AreNoTextsIn kind rows v sizes content → AreNoTextsOf kind rows bytes
no_texts kind rows v bytes rest sizes content small lt has b r p q absent = record {
  none = λ form h.
      let here = at kind rows v bytes rest form small lt has b h in
      let s = items_same sizes content (sizes_bytes (text_sizes form)) (text_bytes form) p q here.sizes_small h.stored.bytes_small (sym r ∙ here.rest_is) in
      absent.none form (in_of kind rows v sizes content bytes form h here.same s.0 s.1);
}

packed_of : (kind : VarBinKind) (rows : ℕ) (v : ValidityForm) (bytes rest lengths content sizes : List ℕ) → AreVarBins (packed_with kind sizes content v) → length sizes ≡ rows → sum sizes ≡ length content → lengths ≡ sizes_bytes sizes → AreBlankAtNulls 0 sizes (flags v rows) → rows < 2 ^ 64 → HasLength v rows → bytes ≡ validity_field v ++ rest → rest ≡ text_items lengths content → length content < 2 ^ 64 → AreTextsOf kind rows bytes (packed_with kind sizes content v)
packed_of kind rows v bytes rest lengths content sizes are counted summed spelt blank small has b r q =
    let form : VarBinForm = packed_with kind sizes content v in
    let has' : HasLength v (length sizes) = subst (λ (n : ℕ). HasLength v n) (sym counted) has in
    let blank' : AreBlankAtNulls 0 sizes (flags v (length sizes)) = subst (λ (n : ℕ). AreBlankAtNulls 0 sizes (flags v n)) (sym counted) blank in
    let s = sizes-packed kind sizes content v has' blank' summed in
    let c = bytes-packed kind sizes content v has' blank' summed in
    record {
      kind_is = refl;
      counted = length-views 0 sizes ∙ counted;
      stored = record { are = are; rows_small = omega (arith, length-views 0 sizes, counted); bytes_small = omega (arith, ap length c) };
      packed_is = packed-same kind sizes content v has' blank' summed;
      spelt = b ∙ ap (λ (t : List ℕ). validity_field v ++ t) (r ∙ ap (λ (t : List ℕ). text_items t content) spelt) ∙ sym (field_parts v sizes content) ∙ ap (λ (ns : List ℕ). text_fields v ns content) (sym s) ∙ ap (λ (xs : List ℕ). text_fields v (text_sizes form) xs) (sym c);
    }

pub texts_of : (kind : VarBinKind) (rows : ℕ) (v : ValidityForm) (bytes rest sizes content : List ℕ) (form : VarBinForm) → rows < 2 ^ 64 → HasLength v rows → bytes ≡ validity_field v ++ rest → rest ≡ text_items sizes content → length content < 2 ^ 64 → AreTextsIn kind rows v sizes content form → AreTextsOf kind rows bytes form
texts_of kind rows v bytes rest sizes content form small has b r q h =
    subst (λ (f : VarBinForm). AreTextsOf kind rows bytes f) (sym h.is) (packed_of kind rows v bytes rest sizes content h.sizes (subst (λ (f : VarBinForm). AreVarBins f) h.is h.are) h.counted h.summed h.spelt h.blank small has b r q)

-- bytes are the fields of at most one column
pub texts_one : (kind : VarBinKind) (rows : ℕ) (bytes : List ℕ) (f g : VarBinForm) → rows < 2 ^ 64 → length bytes < 2 ^ 64 → AreTextsOf kind rows bytes f → AreTextsOf kind rows bytes g → f ≡ g
texts_one kind rows bytes f g small lt p q =
    let items : List ℕ = text_items (sizes_bytes (text_sizes f)) (text_bytes f) in
    let spelt : bytes ≡ validity_field f.validity ++ items = p.spelt ∙ field_parts f.validity (text_sizes f) (text_bytes f) in
    let here = at kind rows f.validity bytes items g small lt (has_rows kind rows bytes f p) spelt q in
    let own = at kind rows f.validity bytes items f small lt (has_rows kind rows bytes f p) spelt p in
    let s = items_same (sizes_bytes (text_sizes f)) (text_bytes f) (sizes_bytes (text_sizes g)) (text_bytes g) own.sizes_small p.stored.bytes_small here.sizes_small q.stored.bytes_small here.rest_is in
    let counts : length (text_sizes f) ≡ length (text_sizes g) = count-sizes f p.stored.are.counted ∙ p.counted ∙ sym q.counted ∙ sym (count-sizes g q.stored.are.counted) in
    let sizes : text_sizes f ≡ text_sizes g = sizes_same (text_sizes f) (text_sizes g) (omega (arith, summed-own f, p.stored.bytes_small)) (omega (arith, summed-own g, q.stored.bytes_small)) counts s.0 in
    sym p.packed_is ∙ ap (λ (k : VarBinKind). packed_with k (text_sizes f) (text_bytes f) f.validity) (p.kind_is ∙ sym q.kind_is) ∙ ap (λ (ns : List ℕ). packed_with g.kind ns (text_bytes f) f.validity) sizes ∙ ap (λ (xs : List ℕ). packed_with g.kind (text_sizes g) xs f.validity) s.1 ∙ ap (λ (w : ValidityForm). packed_with g.kind (text_sizes g) (text_bytes g) w) here.same ∙ q.packed_is

-- ---- the rows

pub no_rows : (kind : VarBinKind) (rows : ℕ) (v : ValidityForm) (sizes content : List ℕ) → AreNoRowsOf v rows (length content) sizes → AreNoTextsIn kind rows v sizes content
no_rows kind rows v sizes content absent = record { none = λ form h. absent.none h.sizes h.counted h.summed h.spelt h.blank }

views_same : (rows total : ℕ) (bytes sizes : List ℕ) (views : List View) → total < 2 ^ 64 → AreViewsOf rows total bytes views → length sizes ≡ rows → sum sizes ≡ total → bytes ≡ sizes_bytes sizes → sizes ≡ sizes_in views
views_same rows total bytes sizes views small h counted summed spelt =
    let long : length (sizes_in views) ≡ rows = length-map views (λ (view : View). view.size) ∙ h.counted in
    sizes_same sizes (sizes_in views) (omega (arith, summed)) (omega (arith, h.summed)) (counted ∙ sym long) (sym spelt ∙ h.spelt)

pub no_views : (v : ValidityForm) (rows total : ℕ) (bytes : List ℕ) → AreNoViewsOf rows total bytes → AreNoRowsOf v rows total bytes
no_views v rows total bytes absent = record { none = λ sizes counted summed spelt blank. absent.none sizes counted summed spelt }

pub not_blank : (v : ValidityForm) (rows total : ℕ) (bytes : List ℕ) (views : List View) → total < 2 ^ 64 → AreViewsOf rows total bytes views → ¬ AreBlankAtNulls 0 (sizes_in views) (flags v (length views)) → AreNoRowsOf v rows total bytes
not_blank v rows total bytes views small h not = record {
  none = λ sizes counted summed spelt blank.
      let same = views_same rows total bytes sizes views small h counted summed spelt in
      not (subst (λ (n : ℕ). AreBlankAtNulls 0 (sizes_in views) (flags v n)) (sym h.counted) (subst (λ (ns : List ℕ). AreBlankAtNulls 0 ns (flags v rows)) same blank));
}

pub are_rows : (v : ValidityForm) (rows total : ℕ) (bytes : List ℕ) (views : List View) → AreViewsOf rows total bytes views → AreBlankAtNulls 0 (sizes_in views) (flags v (length views)) → AreRowsOf v rows total bytes views
are_rows v rows total bytes views h blank = record { views_are = h; blank = subst (λ (n : ℕ). AreBlankAtNulls 0 (sizes_in views) (flags v n)) h.counted blank }

-- ---- the column

pub rows_in : (kind : VarBinKind) (rows : ℕ) (v : ValidityForm) (sizes content : List ℕ) (views : List View) (form : VarBinForm) → AreRowsOf v rows (length content) sizes views → AreTextsOver kind views content v form → AreTextsIn kind rows v sizes content form
rows_in kind rows v sizes content views form r h = record {
  sizes = sizes_in views;
  is = h.is ∙ ap (λ (vs : List View). varbin_with kind vs (content ∷ []) v) r.views_are.are;
  are = h.are;
  counted = length-map views (λ (view : View). view.size) ∙ r.views_are.counted;
  summed = r.views_are.summed;
  spelt = r.views_are.spelt;
  blank = r.blank;
}

pub no_texts_over : (kind : VarBinKind) (rows : ℕ) (v : ValidityForm) (sizes content : List ℕ) (views : List View) → length content < 2 ^ 64 → AreRowsOf v rows (length content) sizes views → HasNoTextsOver kind views content v → AreNoTextsIn kind rows v sizes content
no_texts_over kind rows v sizes content views small r absent = record {
  none = λ form h.
      let same : views_from 0 h.sizes ≡ views = ap (views_from 0) (views_same rows (length content) sizes h.sizes views small r.views_are h.counted h.summed h.spelt) ∙ sym r.views_are.are in
      absent.none (subst (λ (f : VarBinForm). AreVarBins f) (h.is ∙ ap (λ (vs : List View). varbin_with kind vs (content ∷ []) v) same) h.are);
}
