-- What a builder holds, once a column is appended, and as a column.
use Rattle.std.proofs.Common.{◌≡◌, ◌∙◌, ℕ, ℤ, List, [], ◌∷◌, ◌++◌, Bool, true, false, length, drop, pos, refl, sym, ap, subst, arith, replicate}
use Rattle.std.specs.Prelude.{All, Err, IfOk, Ok, OnOk, Result, is_err}
use Rattle.std.proofs.lemmas.List.{length-append, length-drop, length-map}
use Rattle.std.proofs.lemmas.List.Elements.{All-append, All-drop, All-head, All-nil, All-replicate, All-tail, All-weaker}
use Rattle.column_base.specs.declared.dtype.DType.{DType}
use Rattle.column_base.specs.declared.dtype.DType.TheVariants as column
use Rattle.column_base.specs.declared.dtype.Nullability.{Nullability}
use Rattle.column_base.specs.declared.dtype.Nullability.TheVariants.{NonNullable}
use Rattle.column_base.specs.Types.{nullability_of, with_nullability}
use Rattle.column_base.specs.ValidityForm.{AllNull, ByBits, HasLength, NeverNull, NoneNull, ValidityForm, flags, nullability_in}
use Rattle.column_base.proofs.ValidityRows.{length-flags}
use Rattle.column_core.specs.Computed.{AreComputed, HasRowIfAllNull, IsComputedLeaf}
use Rattle.column_core.specs.FlatColumn.{leaf_of}
use Rattle.column_core.specs.declared.flat.FlatColumn.{FlatColumn}
use Rattle.column_core.specs.Leaf.{Leaf, OfDecimals, OfNumbers, OfTruths, OfVarBins, leaf_count, leaf_dtype, leaf_validity, single_rows}
use Rattle.column_core.specs.Optionals.{AreBlankAtNulls}
use Rattle.column_core.specs.Value.{DecimalNumber, FlatValue, Number, Truth}
use Rattle.column_core.specs.VarBinForm.{kind_dtype, varbin_value, view_bytes, zero_view}
use Rattle.column_core.specs.declared.varbinview.VarBinKind.{VarBinKind}
use Rattle.column_core.specs.declared.varbinview.VarBinKind.TheVariants.{Binary, Utf8}
use Rattle.column_core.specs.declared.varbinview.View.{View}
use Rattle.runend_builder.specs.Items.{AreAppended, AreBlank, AreSound, IsColumnOf, IsGrown, IsValidityOf, type_with, with_validity}
use Rattle.runend_builder.specs.Texts.{IsCut, texts_of}
use Rattle.runend_builder.proofs.Cuts.{length_of_cut}
use Rattle.runend_builder.proofs.Rows.{blank-append, blank-map, blank-rest, blank-unmap, rows_append, rows_of}

-- a type of texts has null where its nullability says so
null_of_kind : (kind : VarBinKind) (n : Nullability) → nullability_of (kind_dtype kind n) ≡ n
null_of_kind Utf8 n = refl
null_of_kind Binary n = refl

null_of_kind_with : (kind : VarBinKind) (n m : Nullability) → nullability_of (with_nullability (kind_dtype kind n) m) ≡ m
null_of_kind_with Utf8 n m = refl
null_of_kind_with Binary n m = refl

-- whether a type has null is whether its validity may be false
pub null_of_leaf : (leaf : Leaf) → nullability_of (leaf_dtype leaf) ≡ nullability_in (leaf_validity leaf)
null_of_leaf (OfNumbers form) = refl
null_of_leaf (OfTruths form) = refl
null_of_leaf (OfDecimals form) = refl
null_of_leaf (OfVarBins form) = null_of_kind form.kind (nullability_in form.validity)

pub null_of_type : (leaf : Leaf) (n : Nullability) → nullability_of (type_with leaf n) ≡ n
null_of_type (OfNumbers form) n = refl
null_of_type (OfTruths form) n = refl
null_of_type (OfDecimals form) n = refl
null_of_type (OfVarBins form) n = null_of_kind_with form.kind (nullability_in form.validity) n

-- a column of the type of a builder has null where the builder has
pub same_null : (own part : Leaf) (n : Nullability) → leaf_dtype part ≡ type_with own n → nullability_in (leaf_validity part) ≡ n
same_null own part n typed = sym (null_of_leaf part) ∙ ap nullability_of typed ∙ null_of_type own n

pub same_type : (own part : Leaf) (n : Nullability) → leaf_dtype part ≡ type_with own n → type_with own (nullability_in (leaf_validity part)) ≡ leaf_dtype part
same_type own part n typed = ap (type_with own) (same_null own part n typed) ∙ sym typed

-- no flag is false in a type without null
all_true : (n : ℕ) → All (λ bit. bit ≡ true) (replicate n true)
all_true n = All-replicate (λ (bit : Bool). bit ≡ true) n true refl

never_false : (form : ValidityForm) (count : ℕ) → nullability_in form ≡ NonNullable → All (λ bit. bit ≡ true) (flags form count)
never_false NeverNull count required = all_true count
never_false NoneNull count required = cc
never_false AllNull count required = cc
never_false (ByBits bits) count required = cc

pub still_required : (bits : List Bool) (form : ValidityForm) (count start : ℕ) (n : Nullability) → (n ≡ NonNullable → All (λ bit. bit ≡ true) bits) → nullability_in form ≡ n
    → n ≡ NonNullable → All (λ bit. bit ≡ true) (bits ++ drop start (flags form count))
still_required bits form count start n own typed required =
    let P : Bool → Type 0 = λ bit. bit ≡ true in
    All-append P bits (drop start (flags form count)) (own required) (All-drop P start (flags form count) (never_false form count (typed ∙ required)))

-- one kind of texts
same_kinds : (a b : VarBinKind) (n m : Nullability) → with_nullability (kind_dtype a n) m ≡ kind_dtype b m → a ≡ b
same_kinds Utf8 Utf8 n m typed = refl
same_kinds Utf8 Binary n m typed = cc
same_kinds Binary Utf8 n m typed = cc
same_kinds Binary Binary n m typed = refl

pub kind_with : (kind : VarBinKind) (n m wanted : Nullability) → m ≡ wanted → kind_dtype kind m ≡ with_nullability (kind_dtype kind n) wanted
kind_with Utf8 n m wanted same = ap column.Utf8 same
kind_with Binary n m wanted same = ap column.Binary same

-- as many flags as items
counted_next : {X : Type 0} (xs ys grown : List X) (bits cs : List Bool) (k : ℕ) → length bits ≡ length xs → length cs ≡ length ys → grown ≡ xs ++ drop k ys → length (bits ++ drop k cs) ≡ length grown
counted_next xs ys grown bits cs k own others is =
    let sum = length-append bits (drop k cs) in
    let rest = length-drop k cs in
    let items = length-append xs (drop k ys) in
    let items_rest = length-drop k ys in
    let all = ap length is in
    omega arith

-- items after others, with their flags
record Next (own part grown : Leaf) (bits : List Bool) (start : ℕ) : Type 0 where
  counted : length (bits ++ drop start (flags (leaf_validity part) (leaf_count part))) ≡ leaf_count grown
  blank : AreBlank grown (bits ++ drop start (flags (leaf_validity part) (leaf_count part)))
  rows : single_rows (with_validity grown (ByBits (bits ++ drop start (flags (leaf_validity part) (leaf_count part))))) ≡ single_rows (with_validity own (ByBits bits)) ++ drop start (single_rows part)
  typed : (m : Nullability) → type_with grown m ≡ type_with own m

-- so of items of one list
pub record NextItems {X : Type 0} (value : X → FlatValue) (blank : X) (xs ys grown : List X) (bits cs : List Bool) (k : ℕ) : Type 0 where
  pub counted : length (bits ++ drop k cs) ≡ length grown
  pub blanks : AreBlankAtNulls blank grown (bits ++ drop k cs)
  pub rows : rows_of value grown (bits ++ drop k cs) ≡ rows_of value xs bits ++ drop k (rows_of value ys cs)

pub next_items : {X : Type 0} (value : X → FlatValue) (blank : X) (xs ys grown : List X) (bits cs : List Bool) (k : ℕ) → length bits ≡ length xs → length cs ≡ length ys → grown ≡ xs ++ drop k ys
    → AreBlankAtNulls blank xs bits → AreBlankAtNulls blank ys cs → NextItems value blank xs ys grown bits cs k
next_items {X} value blank xs ys grown bits cs k own others is blanks other_blanks = record {
  counted = counted_next xs ys grown bits cs k own others is;
  blanks = subst (λ (zs : List X). AreBlankAtNulls blank zs (bits ++ drop k cs)) (sym is) (blank-append blank xs (drop k ys) bits (drop k cs) own blanks (blank-rest blank ys cs k other_blanks));
  rows = ap (λ (zs : List X). rows_of value zs (bits ++ drop k cs)) is ∙ rows_append value xs ys bits cs k own others;
}

next_of : (own part grown : Leaf) (bits : List Bool) (start : ℕ) (n : Nullability) → IsGrown own bits n → AreAppended own part start grown → IsComputedLeaf part
    → HasLength (leaf_validity part) (leaf_count part) → type_with own n ≡ leaf_dtype part → nullability_in (leaf_validity part) ≡ n → Next own part grown bits start
next_of (OfNumbers o) (OfNumbers p) (OfNumbers g) bits start n held h computed fits typed null =
    let cs = flags p.validity (length p.numbers) in
    let next = next_items (λ (x : ℤ). Number x) (pos 0) o.numbers p.numbers g.numbers bits cs start held.counted (length-flags p.validity (length p.numbers) fits) h.1 held.blank computed.blanked in
    record { counted = next.counted; blank = next.blanks; rows = next.rows; typed = λ m i. column.Primitive (h.0 i) m }
next_of (OfNumbers o) (OfNumbers p) (OfTruths g) bits start n held h computed fits typed null = absurd h
next_of (OfNumbers o) (OfNumbers p) (OfDecimals g) bits start n held h computed fits typed null = absurd h
next_of (OfNumbers o) (OfNumbers p) (OfVarBins g) bits start n held h computed fits typed null = absurd h
next_of (OfNumbers o) (OfTruths p) grown bits start n held h computed fits typed null = absurd h
next_of (OfNumbers o) (OfDecimals p) grown bits start n held h computed fits typed null = absurd h
next_of (OfNumbers o) (OfVarBins p) grown bits start n held h computed fits typed null = absurd h
next_of (OfTruths o) (OfNumbers p) grown bits start n held h computed fits typed null = absurd h
next_of (OfTruths o) (OfTruths p) (OfNumbers g) bits start n held h computed fits typed null = absurd h
next_of (OfTruths o) (OfTruths p) (OfTruths g) bits start n held h computed fits typed null =
    let cs = flags p.validity (length p.bits) in
    let next = next_items (λ (x : Bool). Truth x) (false) o.bits p.bits g.bits bits cs start held.counted (length-flags p.validity (length p.bits) fits) h held.blank computed.blanked in
    record { counted = next.counted; blank = next.blanks; rows = next.rows; typed = λ m. refl }
next_of (OfTruths o) (OfTruths p) (OfDecimals g) bits start n held h computed fits typed null = absurd h
next_of (OfTruths o) (OfTruths p) (OfVarBins g) bits start n held h computed fits typed null = absurd h
next_of (OfTruths o) (OfDecimals p) grown bits start n held h computed fits typed null = absurd h
next_of (OfTruths o) (OfVarBins p) grown bits start n held h computed fits typed null = absurd h
next_of (OfDecimals o) (OfNumbers p) grown bits start n held h computed fits typed null = absurd h
next_of (OfDecimals o) (OfTruths p) grown bits start n held h computed fits typed null = absurd h
next_of (OfDecimals o) (OfDecimals p) (OfNumbers g) bits start n held h computed fits typed null = absurd h
next_of (OfDecimals o) (OfDecimals p) (OfTruths g) bits start n held h computed fits typed null = absurd h
next_of (OfDecimals o) (OfDecimals p) (OfDecimals g) bits start n held h computed fits typed null =
    let cs = flags p.validity (length p.numbers) in
    let next = next_items (λ (x : ℤ). DecimalNumber x) (pos 0) o.numbers p.numbers g.numbers bits cs start held.counted (length-flags p.validity (length p.numbers) fits) h.1 held.blank computed.blanked in
    record { counted = next.counted; blank = next.blanks; rows = next.rows; typed = λ m i. column.Decimal (h.0 i) m }
next_of (OfDecimals o) (OfDecimals p) (OfVarBins g) bits start n held h computed fits typed null = absurd h
next_of (OfDecimals o) (OfVarBins p) grown bits start n held h computed fits typed null = absurd h
next_of (OfVarBins o) (OfNumbers p) grown bits start n held h computed fits typed null = absurd h
next_of (OfVarBins o) (OfTruths p) grown bits start n held h computed fits typed null = absurd h
next_of (OfVarBins o) (OfDecimals p) grown bits start n held h computed fits typed null = absurd h
next_of (OfVarBins o) (OfVarBins p) (OfNumbers g) bits start n held h computed fits typed null = absurd h
next_of (OfVarBins o) (OfVarBins p) (OfTruths g) bits start n held h computed fits typed null = absurd h
next_of (OfVarBins o) (OfVarBins p) (OfDecimals g) bits start n held h computed fits typed null = absurd h
next_of (OfVarBins o) (OfVarBins p) (OfVarBins g) bits start n held h computed fits typed null =
    let cs = flags p.validity (length p.views) in
    let own = texts_of o.buffers o.views in
    let others = texts_of p.buffers p.views in
    let grown = texts_of g.buffers g.views in
    let own_long : length own ≡ length o.views = length-map o.views (view_bytes o.buffers) in
    let others_long : length others ≡ length p.views = length-map p.views (view_bytes p.buffers) in
    let grown_long : length grown ≡ length g.views = length-map g.views (view_bytes g.buffers) in
    let kinds : o.kind ≡ p.kind = same_kinds o.kind p.kind (nullability_in o.validity) n (typed ∙ ap (kind_dtype p.kind) null) in
    let next = next_items (varbin_value o.kind) [] own others grown bits cs start (held.counted ∙ sym own_long) (length-flags p.validity (length p.views) fits ∙ sym others_long) h.1 held.blank
    (blank-map (view_bytes p.buffers) zero_view [] p.views cs refl computed.blanked) in
    record {
      counted = next.counted ∙ grown_long;
      blank = next.blanks;
      rows = ap (λ (k : VarBinKind). rows_of (varbin_value k) grown (bits ++ drop start cs)) h.0 ∙ next.rows
          ∙ ap (λ (k : VarBinKind). rows_of (varbin_value o.kind) own bits ++ drop start (rows_of (varbin_value k) others cs)) kinds;
      typed = λ m. sym (kind_with g.kind (nullability_in g.validity) m m refl) ∙ ap (λ (k : VarBinKind). kind_dtype k m) h.0 ∙ kind_with o.kind (nullability_in o.validity) m m refl;
    }

-- a builder, once a column is appended
pub grown_next : (own part grown : Leaf) (bits next : List Bool) (start : ℕ) (n : Nullability) → IsGrown own bits n → AreAppended own part start grown → AreSound grown → IsComputedLeaf part
    → HasLength (leaf_validity part) (leaf_count part) → leaf_dtype part ≡ type_with own n → next ≡ bits ++ drop start (flags (leaf_validity part) (leaf_count part))
    → IsGrown grown next n × (single_rows (with_validity grown (ByBits next)) ≡ single_rows (with_validity own (ByBits bits)) ++ drop start (single_rows part)) × (type_with grown n ≡ type_with own n)
grown_next own part grown bits next start n held appended sound computed fits typed pushed =
    let null = same_null own part n typed in
    let more = next_of own part grown bits start n held appended computed fits (sym typed) null in
    subst (λ (bs : List Bool). IsGrown grown bs n × (single_rows (with_validity grown (ByBits bs)) ≡ single_rows (with_validity own (ByBits bits)) ++ drop start (single_rows part)) × (type_with grown n ≡ type_with own n)) (sym pushed) (
      record {
        counted = more.counted;
        blank = more.blank;
        required = still_required bits (leaf_validity part) (leaf_count part) start n held.required null;
        sound = sound;
      },
      more.rows,
      more.typed n,
    )

-- nothing is stored for no flag
nothing_blank : {X : Type 0} (blank : X) (xs : List X) → AreBlankAtNulls blank xs []
nothing_blank blank [] = tt
nothing_blank blank (x ∷ xs) = tt

no_blanks : (leaf : Leaf) → AreBlank leaf []
no_blanks (OfNumbers form) = nothing_blank (pos 0) form.numbers
no_blanks (OfTruths form) = nothing_blank false form.bits
no_blanks (OfDecimals form) = nothing_blank (pos 0) form.numbers
no_blanks (OfVarBins form) = nothing_blank [] (texts_of form.buffers form.views)

rows_of_none : {X : Type 0} (value : X → FlatValue) (xs : List X) → length xs ≡ 0 → rows_of value xs [] ≡ []
rows_of_none value [] none = refl
rows_of_none value (x ∷ xs) none = absurd (omega arith)

no_rows : (leaf : Leaf) → leaf_count leaf ≡ 0 → single_rows (with_validity leaf (ByBits [])) ≡ []
no_rows (OfNumbers form) none = rows_of_none (λ (n : ℤ). Number n) form.numbers none
no_rows (OfTruths form) none = rows_of_none (λ (b : Bool). Truth b) form.bits none
no_rows (OfDecimals form) none = rows_of_none (λ (n : ℤ). DecimalNumber n) form.numbers none
no_rows (OfVarBins form) none = rows_of_none (varbin_value form.kind) (texts_of form.buffers form.views) (length-map form.views (view_bytes form.buffers) ∙ none)

-- without items
pub grown_none : (leaf : Leaf) (n : Nullability) → leaf_count leaf ≡ 0 → AreSound leaf → IsGrown leaf [] n × (single_rows (with_validity leaf (ByBits [])) ≡ [])
grown_none leaf n none sound = (
  record {
    counted = sym none;
    blank = no_blanks leaf;
    required = λ required. All-nil (λ (bit : Bool). bit ≡ true);
    sound = sound;
  },
  no_rows leaf none,
)

-- a builder whose items have been taken
pub taken_grown : (own left : Leaf) (bits : List Bool) (n : Nullability) → leaf_count left ≡ 0 → AreSound left → leaf_dtype left ≡ leaf_dtype own → bits ≡ []
    → IsGrown left bits n × (single_rows (with_validity left (ByBits bits)) ≡ []) × (type_with left n ≡ type_with own n)
taken_grown own left bits n none sound typed no_flags =
    let empty = grown_none left n none sound in
    subst (λ (bs : List Bool). IsGrown left bs n × (single_rows (with_validity left (ByBits bs)) ≡ []) × (type_with left n ≡ type_with own n)) (sym no_flags)
    (empty.0, empty.1, ap (λ (dtype : DType). with_nullability dtype n) typed)

-- as a column
marks_of : {X : Type 0} (xs : List X) (bits : List Bool) (form : ValidityForm) → length bits ≡ length xs → flags form (length bits) ≡ bits → flags form (length xs) ≡ bits
marks_of xs bits form counted shows = ap (flags form) (sym counted) ∙ shows

shown_as : {X : Type 0} (value : X → FlatValue) (blank : X) (xs : List X) (bits : List Bool) (n : Nullability) (validity : ValidityForm) → length bits ≡ length xs → IsValidityOf validity bits n
    → AreBlankAtNulls blank xs bits → (rows_of value xs (flags validity (length xs)) ≡ rows_of value xs bits) × AreComputed blank xs validity
shown_as value blank xs bits n validity counted flagged blanks =
    let marks = marks_of xs bits validity counted flagged.shows in (
      ap (rows_of value xs) marks,
      record {
        blanked = subst (AreBlankAtNulls blank xs) (sym marks) blanks;
        normal = flagged.normal;
        some = subst (HasRowIfAllNull validity) counted flagged.some;
      },
    )

-- a view of nothing is the zero view
only_zero : (kind : VarBinKind) (buffers : List (List ℕ)) (view : View) → IsCut kind buffers view → view_bytes buffers view ≡ [] → view ≡ zero_view
only_zero kind buffers view cut none = cut.empty (let size = length_of_cut buffers view cut.within in let no = ap length none in omega arith)

pub record IsShown (leaf : Leaf) (bits : List Bool) (n : Nullability) (column : Leaf) : Type 0 where
  pub rows : single_rows column ≡ single_rows (with_validity leaf (ByBits bits))
  pub typed : leaf_dtype column ≡ type_with leaf n
  pub computed : IsComputedLeaf column

shown_by : (leaf : Leaf) (bits : List Bool) (n : Nullability) (validity : ValidityForm) → IsGrown leaf bits n → IsValidityOf validity bits n → IsShown leaf bits n (with_validity leaf validity)
shown_by (OfNumbers f) bits n validity held flagged =
    let shown = shown_as (λ (x : ℤ). Number x) (pos 0) f.numbers bits n validity held.counted flagged held.blank in
    record { rows = shown.0; typed = ap (column.Primitive f.ptype) flagged.typed; computed = shown.1 }
shown_by (OfTruths f) bits n validity held flagged =
    let shown = shown_as (λ (x : Bool). Truth x) false f.bits bits n validity held.counted flagged held.blank in
    record { rows = shown.0; typed = ap column.Bool flagged.typed; computed = shown.1 }
shown_by (OfDecimals f) bits n validity held flagged =
    let shown = shown_as (λ (x : ℤ). DecimalNumber x) (pos 0) f.numbers bits n validity held.counted flagged held.blank in
    record { rows = shown.0; typed = ap (column.Decimal f.decimal) flagged.typed; computed = shown.1 }
shown_by (OfVarBins f) bits n validity held flagged =
    let texts = texts_of f.buffers f.views in
    let long : length texts ≡ length f.views = length-map f.views (view_bytes f.buffers) in
    let marks = marks_of f.views bits validity held.counted flagged.shows in
    let zeros = blank-unmap (view_bytes f.buffers) zero_view [] f.views bits (All-weaker (IsCut f.kind f.buffers) (λ (v : View). view_bytes f.buffers v ≡ [] → v ≡ zero_view)
    (λ v cut. only_zero f.kind f.buffers v cut) f.views held.sound) held.blank in
    let shown = shown_as (λ (v : View). varbin_value f.kind (view_bytes f.buffers v)) zero_view f.views bits n validity held.counted flagged zeros in
    record {
      rows = ap (rows_of (varbin_value f.kind) texts) marks;
      typed = kind_with f.kind (nullability_in f.validity) (nullability_in validity) n flagged.typed;
      computed = shown.1;
    }

pub shown_of_column : (leaf : Leaf) (bits : List Bool) (n : Nullability) (column : Leaf) → IsGrown leaf bits n → IsColumnOf leaf bits n column → IsShown leaf bits n column
shown_of_column leaf bits n column held is = subst (IsShown leaf bits n) (sym is.stored) (shown_by leaf bits n is.validity held is.flagged)

-- the validity fits the items
pub fits_items : (form : ValidityForm) (bits : List Bool) (count : ℕ) → length bits ≡ count → flags form (length bits) ≡ bits → HasLength form count
fits_items NeverNull bits count counted shows = tt
fits_items NoneNull bits count counted shows = tt
fits_items AllNull bits count counted shows = tt
fits_items (ByBits own) bits count counted shows = ap length shows ∙ counted

-- flags that are all true are those of no null
all_same : (bits : List Bool) → All (λ bit. bit ≡ true) bits → replicate (length bits) true ≡ bits
all_same [] all = refl
all_same (bit ∷ bits) all =
    let P : Bool → Type 0 = λ b. b ≡ true in
    let here = All-head P bit bits all in
    let there = all_same bits (All-tail P bit bits all) in
    let turned = sym here in
    (λ i. turned i ∷ there i)

pub never_null : (bits : List Bool) → All (λ bit. bit ≡ true) bits → IsValidityOf NeverNull bits NonNullable
never_null bits all = record { shows = all_same bits all; normal = tt; some = λ is. cc; typed = refl }

-- what holds of a call that is not refused
pub where_ok : {T E : Type 0} (P : Type 0) (result : Result T E) (told : Bool) → OnOk result P → told ≡ is_err result → told ≡ false → P
where_ok P (Ok value) told holds is unset = holds
where_ok P (Err error) told holds is unset = cc

pub on_any : {T E : Type 0} (P : Type 0) (result : Result T E) → P → OnOk result P
on_any P (Ok value) holds = holds
on_any P (Err error) holds = tt

pub on_column : {A E : Type 0} (P : FlatColumn A → Type 0) (leaf : Leaf) (bits : List Bool) (n : Nullability) (result : Result (FlatColumn A) E) → IsGrown leaf bits n
    → IfOk result (λ column. IsColumnOf leaf bits n (leaf_of column)) → ((column : FlatColumn A) → IsShown leaf bits n (leaf_of column) → P column) → IfOk result P
on_column P leaf bits n (Ok column) held is since = since column (shown_of_column leaf bits n (leaf_of column) held is)
on_column P leaf bits n (Err error) held is since = tt
