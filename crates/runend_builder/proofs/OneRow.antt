-- What a builder holds, once a row is put after it.
use Rattle.std.proofs.Common.{◌≡◌, ◌∙◌, ℤ, List, [], ◌∷◌, ◌++◌, Bool, true, false, Option, Some, None, length, pos, refl, sym, ap, subst}
use Rattle.std.specs.Prelude.{is_some}
use Rattle.std.proofs.lemmas.List.{length-map}
use Rattle.std.proofs.lemmas.List.Elements.{All-push}
use Rattle.column_base.specs.declared.dtype.DType.{DType}
use Rattle.column_base.specs.declared.dtype.DType.TheVariants as column
use Rattle.column_base.specs.declared.dtype.Nullability.{Nullability}
use Rattle.column_base.specs.declared.dtype.Nullability.TheVariants.{NonNullable}
use Rattle.column_base.specs.Types.{nullability_of}
use Rattle.column_base.specs.ValidityForm.{ByBits, nullability_in}
use Rattle.column_core.specs.BoolForm.{BoolForm}
use Rattle.column_core.specs.DecimalForm.{DecimalForm}
use Rattle.column_core.specs.Leaf.{Leaf, OfDecimals, OfNumbers, OfTruths, OfVarBins, leaf_count, single_rows}
use Rattle.column_core.specs.Optionals.{AreBlankAtNulls}
use Rattle.column_core.specs.PrimitiveForm.{PrimitiveForm}
use Rattle.column_core.specs.ScalarView.{IsViewOf, sees}
use Rattle.column_core.specs.Value.{Bytes, DecimalNumber, FlatValue, Items, MayBeNull, Number, Single, Text, Truth, Value}
use Rattle.column_core.specs.VarBinForm.{VarBinForm, kind_dtype, varbin_value, view_bytes}
use Rattle.column_core.specs.declared.view.ScalarView.{ScalarView}
use Rattle.column_core.specs.declared.view.ScalarView.TheVariants as view
use Rattle.column_core.specs.declared.varbinview.VarBinKind.{VarBinKind}
use Rattle.column_core.specs.declared.varbinview.VarBinKind.TheVariants.{Binary, Utf8}
use Rattle.runend_builder.specs.Items.{AreBlank, AreSound, IsGrown, type_with, with_validity}
use Rattle.runend_builder.specs.OneRow.{IsPushed, IsRowFor, bytes_in, number_in, truth_in}
use Rattle.runend_builder.specs.Texts.{texts_of}
use Rattle.runend_builder.proofs.Grown.{NextItems, kind_with, next_items, null_of_type}
use Rattle.runend_builder.proofs.Rows.{rows_of}

-- a row of the type of the items is of their kind
text_for : {A : Type 0} (kind : VarBinKind) (form : VarBinForm) (n : Nullability) (row : ScalarView A) → form.kind ≡ kind → IsViewOf (kind_dtype kind n) row → IsRowFor (OfVarBins form) (sees row)
text_for Utf8 form n view.Null same of_type = tt
text_for Utf8 form n (view.Bool b) same of_type = absurd of_type
text_for Utf8 form n (view.Unsigned k) same of_type = absurd of_type
text_for Utf8 form n (view.Signed z) same of_type = absurd of_type
text_for Utf8 form n (view.Decimal z) same of_type = absurd of_type
text_for Utf8 form n (view.Utf8 s) same of_type = same
text_for Utf8 form n (view.Binary s) same of_type = absurd of_type
text_for Utf8 form n (view.List elements start size) same of_type = absurd of_type
text_for Binary form n view.Null same of_type = tt
text_for Binary form n (view.Bool b) same of_type = absurd of_type
text_for Binary form n (view.Unsigned k) same of_type = absurd of_type
text_for Binary form n (view.Signed z) same of_type = absurd of_type
text_for Binary form n (view.Decimal z) same of_type = absurd of_type
text_for Binary form n (view.Utf8 s) same of_type = absurd of_type
text_for Binary form n (view.Binary s) same of_type = same
text_for Binary form n (view.List elements start size) same of_type = absurd of_type

row_for : {A : Type 0} (own : Leaf) (n : Nullability) (row : ScalarView A) → IsViewOf (type_with own n) row → IsRowFor own (sees row)
row_for (OfNumbers form) n view.Null of_type = tt
row_for (OfNumbers form) n (view.Bool b) of_type = absurd of_type
row_for (OfNumbers form) n (view.Unsigned k) of_type = of_type.1
row_for (OfNumbers form) n (view.Signed z) of_type = of_type.1
row_for (OfNumbers form) n (view.Decimal z) of_type = absurd of_type
row_for (OfNumbers form) n (view.Utf8 s) of_type = absurd of_type
row_for (OfNumbers form) n (view.Binary s) of_type = absurd of_type
row_for (OfNumbers form) n (view.List elements start size) of_type = absurd of_type
row_for (OfTruths form) n view.Null of_type = tt
row_for (OfTruths form) n (view.Bool b) of_type = tt
row_for (OfTruths form) n (view.Unsigned k) of_type = absurd of_type
row_for (OfTruths form) n (view.Signed z) of_type = absurd of_type
row_for (OfTruths form) n (view.Decimal z) of_type = absurd of_type
row_for (OfTruths form) n (view.Utf8 s) of_type = absurd of_type
row_for (OfTruths form) n (view.Binary s) of_type = absurd of_type
row_for (OfTruths form) n (view.List elements start size) of_type = absurd of_type
row_for (OfDecimals form) n view.Null of_type = tt
row_for (OfDecimals form) n (view.Bool b) of_type = absurd of_type
row_for (OfDecimals form) n (view.Unsigned k) of_type = absurd of_type
row_for (OfDecimals form) n (view.Signed z) of_type = absurd of_type
row_for (OfDecimals form) n (view.Decimal z) of_type = tt
row_for (OfDecimals form) n (view.Utf8 s) of_type = absurd of_type
row_for (OfDecimals form) n (view.Binary s) of_type = absurd of_type
row_for (OfDecimals form) n (view.List elements start size) of_type = absurd of_type
row_for {A} (OfVarBins form) n row of_type =
    text_for form.kind form n row refl (subst (λ (t : DType). IsViewOf t row) (sym (kind_with form.kind (nullability_in form.validity) n n refl)) of_type)

pub row_of_view : {A : Type 0} (own : Leaf) (n : Nullability) (dtype : DType) (row : ScalarView A) → dtype ≡ type_with own n → IsViewOf dtype row → IsRowFor own (sees row)
row_of_view {A} own n dtype row typed of_type = row_for own n row (subst (λ (t : DType). IsViewOf t row) typed of_type)

-- null is of a type that has null
null_seen : {A : Type 0} (dtype : DType) (row : ScalarView A) → IsViewOf dtype row → sees row ≡ None → MayBeNull (nullability_of dtype)
null_seen dtype view.Null of_type none = of_type
null_seen dtype (view.Bool b) of_type none = cc
null_seen dtype (view.Unsigned k) of_type none = cc
null_seen dtype (view.Signed z) of_type none = cc
null_seen dtype (view.Decimal z) of_type none = cc
null_seen dtype (view.Utf8 s) of_type none = cc
null_seen dtype (view.Binary s) of_type none = cc
null_seen dtype (view.List elements start size) of_type none = cc

pub null_allowed : {A : Type 0} (own : Leaf) (n : Nullability) (dtype : DType) (row : ScalarView A) → dtype ≡ type_with own n → IsViewOf dtype row → sees row ≡ None → MayBeNull n
null_allowed own n dtype row typed of_type none = subst MayBeNull (ap nullability_of typed ∙ null_of_type own n) (null_seen dtype row of_type none)

-- the flag of a row, and its item, are put after the others
row_next : {X : Type 0} (value : X → FlatValue) (blank item : X) (xs grown : List X) (bits : List Bool) (row : Option Value) → length bits ≡ length xs → grown ≡ xs ++ item ∷ []
    → AreBlankAtNulls blank xs bits → (is_some row ≡ false → item ≡ blank) → NextItems value blank xs (item ∷ []) grown bits (is_some row ∷ []) 0
row_next value blank item xs grown bits row counted is blanks blank_row = next_items value blank xs (item ∷ []) grown bits (is_some row ∷ []) 0 counted refl is blanks (blank_row, tt)

-- what is stored for a row shows it
number_shown : (form : PrimitiveForm) (row : Option Value) → IsRowFor (OfNumbers form) row → rows_of (λ n. Number n) (number_in row ∷ []) (is_some row ∷ []) ≡ row ∷ []
number_shown form None for_row = refl
number_shown form (Some (Single (Number n))) for_row = refl
number_shown form (Some (Single (Truth b))) for_row = absurd for_row
number_shown form (Some (Single (DecimalNumber n))) for_row = absurd for_row
number_shown form (Some (Single (Text bytes))) for_row = absurd for_row
number_shown form (Some (Single (Bytes bytes))) for_row = absurd for_row
number_shown form (Some (Items items)) for_row = absurd for_row

truth_shown : (form : BoolForm) (row : Option Value) → IsRowFor (OfTruths form) row → rows_of (λ b. Truth b) (truth_in row ∷ []) (is_some row ∷ []) ≡ row ∷ []
truth_shown form None for_row = refl
truth_shown form (Some (Single (Truth b))) for_row = refl
truth_shown form (Some (Single (Number n))) for_row = absurd for_row
truth_shown form (Some (Single (DecimalNumber n))) for_row = absurd for_row
truth_shown form (Some (Single (Text bytes))) for_row = absurd for_row
truth_shown form (Some (Single (Bytes bytes))) for_row = absurd for_row
truth_shown form (Some (Items items)) for_row = absurd for_row

decimal_shown : (form : DecimalForm) (row : Option Value) → IsRowFor (OfDecimals form) row → rows_of (λ n. DecimalNumber n) (number_in row ∷ []) (is_some row ∷ []) ≡ row ∷ []
decimal_shown form None for_row = refl
decimal_shown form (Some (Single (DecimalNumber n))) for_row = refl
decimal_shown form (Some (Single (Truth b))) for_row = absurd for_row
decimal_shown form (Some (Single (Number n))) for_row = absurd for_row
decimal_shown form (Some (Single (Text bytes))) for_row = absurd for_row
decimal_shown form (Some (Single (Bytes bytes))) for_row = absurd for_row
decimal_shown form (Some (Items items)) for_row = absurd for_row

text_shown : (form : VarBinForm) (row : Option Value) → IsRowFor (OfVarBins form) row → rows_of (varbin_value form.kind) (bytes_in row ∷ []) (is_some row ∷ []) ≡ row ∷ []
text_shown form None for_row = refl
text_shown form (Some (Single (Text bytes))) for_row = ap (λ (k : VarBinKind). rows_of (varbin_value k) (bytes ∷ []) (true ∷ [])) for_row
text_shown form (Some (Single (Bytes bytes))) for_row = ap (λ (k : VarBinKind). rows_of (varbin_value k) (bytes ∷ []) (true ∷ [])) for_row
text_shown form (Some (Single (Truth b))) for_row = absurd for_row
text_shown form (Some (Single (Number n))) for_row = absurd for_row
text_shown form (Some (Single (DecimalNumber n))) for_row = absurd for_row
text_shown form (Some (Items items)) for_row = absurd for_row

-- and the blank item is stored for null
blank_number : (row : Option Value) → is_some row ≡ false → number_in row ≡ pos 0
blank_number None null = refl
blank_number (Some value) null = cc

blank_truth : (row : Option Value) → is_some row ≡ false → truth_in row ≡ false
blank_truth None null = refl
blank_truth (Some value) null = cc

blank_bytes : (row : Option Value) → is_some row ≡ false → bytes_in row ≡ []
blank_bytes None null = refl
blank_bytes (Some value) null = cc

-- items and flags, once those of a row are put after them
record IsNext (own grown : Leaf) (bits : List Bool) (row : Option Value) : Type 0 where
  counted : length (bits ++ is_some row ∷ []) ≡ leaf_count grown
  blank : AreBlank grown (bits ++ is_some row ∷ [])
  rows : single_rows (with_validity grown (ByBits (bits ++ is_some row ∷ []))) ≡ single_rows (with_validity own (ByBits bits)) ++ row ∷ []
  typed : (m : Nullability) → type_with grown m ≡ type_with own m

next_of : (own grown : Leaf) (bits : List Bool) (n : Nullability) (row : Option Value) → IsGrown own bits n → IsPushed own row grown → IsRowFor own row → IsNext own grown bits row
next_of (OfNumbers o) (OfNumbers g) bits n row held h for_row =
    let next = row_next (λ (x : ℤ). Number x) (pos 0) (number_in row) o.numbers g.numbers bits row held.counted h.1 held.blank (blank_number row) in
    record {
      counted = next.counted;
      blank = next.blanks;
      rows = next.rows ∙ ap (λ (rs : List (Option Value)). rows_of (λ (x : ℤ). Number x) o.numbers bits ++ rs) (number_shown o row for_row);
      typed = λ m i. column.Primitive (h.0 i) m;
    }
next_of (OfNumbers o) (OfTruths g) bits n row held h for_row = absurd h
next_of (OfNumbers o) (OfDecimals g) bits n row held h for_row = absurd h
next_of (OfNumbers o) (OfVarBins g) bits n row held h for_row = absurd h
next_of (OfTruths o) (OfNumbers g) bits n row held h for_row = absurd h
next_of (OfTruths o) (OfTruths g) bits n row held h for_row =
    let next = row_next (λ (x : Bool). Truth x) false (truth_in row) o.bits g.bits bits row held.counted h held.blank (blank_truth row) in
    record {
      counted = next.counted;
      blank = next.blanks;
      rows = next.rows ∙ ap (λ (rs : List (Option Value)). rows_of (λ (x : Bool). Truth x) o.bits bits ++ rs) (truth_shown o row for_row);
      typed = λ m. refl;
    }
next_of (OfTruths o) (OfDecimals g) bits n row held h for_row = absurd h
next_of (OfTruths o) (OfVarBins g) bits n row held h for_row = absurd h
next_of (OfDecimals o) (OfNumbers g) bits n row held h for_row = absurd h
next_of (OfDecimals o) (OfTruths g) bits n row held h for_row = absurd h
next_of (OfDecimals o) (OfDecimals g) bits n row held h for_row =
    let next = row_next (λ (x : ℤ). DecimalNumber x) (pos 0) (number_in row) o.numbers g.numbers bits row held.counted h.1 held.blank (blank_number row) in
    record {
      counted = next.counted;
      blank = next.blanks;
      rows = next.rows ∙ ap (λ (rs : List (Option Value)). rows_of (λ (x : ℤ). DecimalNumber x) o.numbers bits ++ rs) (decimal_shown o row for_row);
      typed = λ m i. column.Decimal (h.0 i) m;
    }
next_of (OfDecimals o) (OfVarBins g) bits n row held h for_row = absurd h
next_of (OfVarBins o) (OfNumbers g) bits n row held h for_row = absurd h
next_of (OfVarBins o) (OfTruths g) bits n row held h for_row = absurd h
next_of (OfVarBins o) (OfDecimals g) bits n row held h for_row = absurd h
next_of (OfVarBins o) (OfVarBins g) bits n row held h for_row =
    let own = texts_of o.buffers o.views in
    let grown = texts_of g.buffers g.views in
    let own_long : length own ≡ length o.views = length-map o.views (view_bytes o.buffers) in
    let grown_long : length grown ≡ length g.views = length-map g.views (view_bytes g.buffers) in
    let next = row_next (varbin_value o.kind) [] (bytes_in row) own grown bits row (held.counted ∙ sym own_long) h.1 held.blank (blank_bytes row) in
    record {
      counted = next.counted ∙ grown_long;
      blank = next.blanks;
      rows = ap (λ (k : VarBinKind). rows_of (varbin_value k) grown (bits ++ is_some row ∷ [])) h.0 ∙ next.rows
          ∙ ap (λ (rs : List (Option Value)). rows_of (varbin_value o.kind) own bits ++ rs) (text_shown o row for_row);
      typed = λ m. sym (kind_with g.kind (nullability_in g.validity) m m refl) ∙ ap (λ (k : VarBinKind). kind_dtype k m) h.0 ∙ kind_with o.kind (nullability_in o.validity) m m refl;
    }

-- a row of a type without null is not null
never_null : (n : Nullability) (row : Option Value) → (row ≡ None → MayBeNull n) → n ≡ NonNullable → is_some row ≡ true
never_null n (Some value) allowed required = refl
never_null n None allowed required = absurd (subst MayBeNull required (allowed refl))

-- a builder, once a row is put after it
pub record GrownRow (own grown : Leaf) (bits next : List Bool) (n : Nullability) (row : Option Value) : Type 0 where
  pub held : IsGrown grown next n
  pub rows : single_rows (with_validity grown (ByBits next)) ≡ single_rows (with_validity own (ByBits bits)) ++ row ∷ []
  pub typed : type_with grown n ≡ type_with own n

pub grown_row : (own grown : Leaf) (bits next : List Bool) (n : Nullability) (row : Option Value) → IsGrown own bits n → IsPushed own row grown → AreSound grown → IsRowFor own row
    → (row ≡ None → MayBeNull n) → next ≡ bits ++ is_some row ∷ [] → GrownRow own grown bits next n row
grown_row own grown bits next n row held pushed sound for_row allowed is =
    let more = next_of own grown bits n row held pushed for_row in
    subst (λ (bs : List Bool). GrownRow own grown bits bs n row) (sym is) (record {
      held = record {
        counted = more.counted;
        blank = more.blank;
        required = λ required. All-push (λ (bit : Bool). bit ≡ true) bits (is_some row) (held.required required) (never_null n row allowed required);
        sound = sound;
      };
      rows = more.rows;
      typed = more.typed n;
    })
