-- Flat columns are read as they are written, and in no other way.
use Rattle.std.proofs.Common.{◌≡◌, ℕ, ◌+◌, ◌*◌, ◌/◌, ◌^◌, ◌<◌, ◌≤◌, Bool, List, ◌++◌, length, ℤ, All, refl, sym, ap, subst, ◌∙◌, arith}
use Rattle.std.specs.List.{AllByRecursion}
use Rattle.std.proofs.lemmas.List.{length-append}
use Rattle.std.proofs.lemmas.List.Elements.{recursion_from_All}
use Rattle.std.specs.Int.{w128}
use Rattle.std.specs.Int.RustNames.{FitsSigned}
use Rattle.column_base.specs.declared.dtype.DecimalDType.{DecimalDType}
use Rattle.column_base.specs.declared.dtype.PType.{PType}
use Rattle.column_base.specs.declared.dtype.PType.TheVariants.{U8, U16, U32, U64, I8, I16, I32, I64}
use Rattle.column_base.specs.Types.{HasNumber}
use Rattle.column_base.specs.declared.dtype.Nullability.{Nullability}
use Rattle.column_base.specs.ValidityForm.{ValidityForm, HasLength, nullability_in}
use Rattle.column_core.specs.PrimitiveForm.{PrimitiveForm, primitive_with}
use Rattle.column_core.specs.BoolForm.{BoolForm, bool_with}
use Rattle.column_core.specs.DecimalForm.{DecimalForm, decimal_with}
use Rattle.column_core.specs.Leaf.{Leaf, OfNumbers, OfTruths, OfDecimals, OfVarBins}
use Rattle.column_core.specs.VarBinForm.{VarBinForm, kind_dtype, varbin_dtype}
use Rattle.column_core.specs.declared.varbinview.VarBinKind.{VarBinKind}
use Rattle.column_core.specs.declared.varbinview.VarBinKind.TheVariants.{Utf8, Binary}
use Rattle.column_bytes.specs.TextReading.{AreTextsOf, AreNoTextsOf}
use Rattle.column_fields.specs.Varint.{varint}
use Rattle.column_fields.specs.Field.{bytes_field}
use Rattle.column_fields.specs.Validity.{validity_field}
use Rattle.column_fields.specs.NumberBytes.{numbers_bytes, size_of}
use Rattle.column_fields.specs.BitBytes.{bit_bytes, HasNoBits}
use Rattle.column_fields.specs.DecimalBytes.{decimals_bytes}
use Rattle.column_fields.specs.DecimalFields.{IsDecimalType, decimal_type, decimal_items, decimal_fields, AreNoDecimalFields}
use Rattle.column_fields.specs.FlatFields.{flat_fields, AreNoFlatFields}
use Rattle.column_fields.specs.Types.{type_number, HasNoType}
use Rattle.column_fields.proofs.DecimalFieldLaws.{decimals_same}
use Rattle.column_fields.proofs.DecimalLaws.{length-decimals_bytes, decimal_numbers_same}
use Rattle.column_fields.proofs.FlatFieldLaws.{flat_same}
use Rattle.column_fields.proofs.NumberSame.{length-numbers_bytes, numbers_same}
use Rattle.column_fields.proofs.BitReading.{bit_bytes_same, length-bit_bytes}
use Rattle.column_fields.proofs.TypeLaws.{type_same}
use Rattle.runend_array.specs.Column.{Column, OfLeaf, OfConstant, OfLists, OfRuns}
use Rattle.column_bytes.specs.Bytes.{kind_number, varbin_number, leaf_fields, column_body}
use Rattle.column_bytes.specs.Stored.{AreNumbers, AreTruths, AreDecimals}
use Rattle.column_bytes.specs.Read.{IsBody, IsNoBody, AreNumbersOf, AreNoNumbersOf, AreTruthsOf, AreNoTruthsOf, AreDecimalsOf, AreNoDecimalsOf}

items_long : (v : ValidityForm) (items : List ℕ) → length items ≤ length (flat_fields v items)
unfolding flat_fields bytes_field
items_long v items = omega (arith, length-append (validity_field v) (varint (7 * 8 + 2) ++ (varint (length items) ++ items)), length-append (varint (7 * 8 + 2)) (varint (length items) ++ items), length-append (varint (length items)) items)

pub items_small : (v : ValidityForm) (items bytes : List ℕ) → length bytes < 2 ^ 64 → bytes ≡ flat_fields v items → length items < 2 ^ 64
items_small v items bytes lt e = omega (arith, items_long v items, ap length e)

-- ---- integers

pub no_numbers_fields : (t : PType) (rows : ℕ) (bytes : List ℕ) → length bytes < 2 ^ 64 → AreNoFlatFields rows bytes → AreNoNumbersOf t rows bytes
no_numbers_fields t rows bytes lt absent = record {
  none = λ form h. absent.none form.validity (numbers_bytes form.ptype form.numbers) (subst (λ (n : ℕ). HasLength form.validity n) h.counted h.stored.counted) (items_small form.validity (numbers_bytes form.ptype form.numbers) bytes lt h.spelt) h.spelt;
}

-- two columns of these bytes have the same validity and the same items
numbers_items : (t : PType) (rows : ℕ) (v : ValidityForm) (items bytes : List ℕ) (form : PrimitiveForm) → rows < 2 ^ 64 → length bytes < 2 ^ 64 → bytes ≡ flat_fields v items → HasLength v rows → AreNumbersOf t rows bytes form → (v ≡ form.validity) × (items ≡ numbers_bytes form.ptype form.numbers)
numbers_items t rows v items bytes form small lt b len h =
    flat_same v form.validity rows items (numbers_bytes form.ptype form.numbers) small len (subst (λ (n : ℕ). HasLength form.validity n) h.counted h.stored.counted) (items_small v items bytes lt b) (items_small form.validity (numbers_bytes form.ptype form.numbers) bytes lt h.spelt) (sym b ∙ h.spelt)

pub other_size : (t : PType) (rows : ℕ) (v : ValidityForm) (items bytes : List ℕ) → rows < 2 ^ 64 → length bytes < 2 ^ 64 → bytes ≡ flat_fields v items → HasLength v rows → (length items ≡ rows * size_of t → ⊥) → AreNoNumbersOf t rows bytes
other_size t rows v items bytes small lt b len ne = record {
  none = λ form h.
      let s = numbers_items t rows v items bytes form small lt b len h in
      ne (ap length s.1 ∙ length-numbers_bytes form.ptype form.numbers ∙ ap (λ (u : PType). length form.numbers * size_of u) h.typed ∙ ap (λ (n : ℕ). n * size_of t) h.counted);
}

pub are_numbers : (form : PrimitiveForm) (t u : PType) (rows : ℕ) (v : ValidityForm) (ns : List ℤ) (items bytes : List ℕ) → form ≡ primitive_with u ns v → u ≡ t → length ns ≡ rows → rows < 2 ^ 64 → All (λ n. HasNumber t n) ns → HasLength v rows → bytes ≡ flat_fields v items → numbers_bytes t ns ≡ items → AreNumbersOf t rows bytes form
are_numbers form t u rows v ns items bytes is typed len small fit counted b shows =
    let form-is : form ≡ primitive_with t ns v = is ∙ ap (λ (x : PType). primitive_with x ns v) typed in
    subst (λ (f : PrimitiveForm). AreNumbersOf t rows bytes f) (sym form-is) (record {
      typed = refl;
      counted = len;
      stored = record { fit = fit; counted = subst (λ (n : ℕ). HasLength v n) (sym len) counted; small = omega (arith, len) };
      spelt = b ∙ ap (λ (x : List ℕ). flat_fields v x) (sym shows);
    })

-- ---- booleans

pub no_truths_fields : (rows : ℕ) (bytes : List ℕ) → length bytes < 2 ^ 64 → AreNoFlatFields rows bytes → AreNoTruthsOf rows bytes
no_truths_fields rows bytes lt absent = record {
  none = λ form h. absent.none form.validity (bit_bytes form.bits) (subst (λ (n : ℕ). HasLength form.validity n) h.counted h.stored.counted) (items_small form.validity (bit_bytes form.bits) bytes lt h.spelt) h.spelt;
}

truths_items : (rows : ℕ) (v : ValidityForm) (items bytes : List ℕ) (form : BoolForm) → rows < 2 ^ 64 → length bytes < 2 ^ 64 → bytes ≡ flat_fields v items → HasLength v rows → AreTruthsOf rows bytes form → (v ≡ form.validity) × (items ≡ bit_bytes form.bits)
truths_items rows v items bytes form small lt b len h =
    flat_same v form.validity rows items (bit_bytes form.bits) small len (subst (λ (n : ℕ). HasLength form.validity n) h.counted h.stored.counted) (items_small v items bytes lt b) (items_small form.validity (bit_bytes form.bits) bytes lt h.spelt) (sym b ∙ h.spelt)

pub other_count : (rows : ℕ) (v : ValidityForm) (items bytes : List ℕ) → rows < 2 ^ 64 → length bytes < 2 ^ 64 → bytes ≡ flat_fields v items → HasLength v rows → (length items ≡ (rows + 7) / 8 → ⊥) → AreNoTruthsOf rows bytes
other_count rows v items bytes small lt b len ne = record {
  none = λ form h. ne (ap length (truths_items rows v items bytes form small lt b len h).1 ∙ length-bit_bytes form.bits ∙ ap (λ (n : ℕ). (n + 7) / 8) h.counted);
}

pub no_bits : (rows : ℕ) (v : ValidityForm) (items bytes : List ℕ) → rows < 2 ^ 64 → length bytes < 2 ^ 64 → bytes ≡ flat_fields v items → HasLength v rows → HasNoBits rows items → AreNoTruthsOf rows bytes
no_bits rows v items bytes small lt b len absent = record {
  none = λ form h. absent.none form.bits h.counted (sym (truths_items rows v items bytes form small lt b len h).1);
}

pub are_truths : (form : BoolForm) (rows : ℕ) (v : ValidityForm) (bits : List Bool) (items bytes : List ℕ) → form ≡ bool_with bits v → length bits ≡ rows → rows < 2 ^ 64 → HasLength v rows → bytes ≡ flat_fields v items → bit_bytes bits ≡ items → AreTruthsOf rows bytes form
are_truths form rows v bits items bytes is len small counted b shows =
    subst (λ (f : BoolForm). AreTruthsOf rows bytes f) (sym is) (record {
      counted = len;
      stored = record { counted = subst (λ (n : ℕ). HasLength v n) (sym len) counted; small = omega (arith, len) };
      spelt = b ∙ ap (λ (x : List ℕ). flat_fields v x) (sym shows);
    })

-- ---- decimals

decimals_long : (v : ValidityForm) (d : DecimalDType) (items : List ℕ) → length items ≤ length (decimal_fields v d items)
unfolding decimal_fields decimal_items bytes_field
decimals_long v d items = omega (
  arith,
  length-append (validity_field v) ((varint (7 * 8 + 2) ++ (varint (length items) ++ items)) ++ decimal_type d),
  length-append (varint (7 * 8 + 2) ++ (varint (length items) ++ items)) (decimal_type d),
  length-append (varint (7 * 8 + 2)) (varint (length items) ++ items),
  length-append (varint (length items)) items,
)

pub decimals_small : (v : ValidityForm) (d : DecimalDType) (items bytes : List ℕ) → length bytes < 2 ^ 64 → bytes ≡ decimal_fields v d items → length items < 2 ^ 64
decimals_small v d items bytes lt e = omega (arith, decimals_long v d items, ap length e)

pub no_decimals_fields : (rows : ℕ) (bytes : List ℕ) → length bytes < 2 ^ 64 → AreNoDecimalFields rows bytes → AreNoDecimalsOf rows bytes
no_decimals_fields rows bytes lt absent = record {
  none = λ form h. absent.none form.validity form.decimal (decimals_bytes form.numbers) (subst (λ (n : ℕ). HasLength form.validity n) h.counted h.stored.counted) h.stored.typed (decimals_small form.validity form.decimal (decimals_bytes form.numbers) bytes lt h.spelt) h.spelt;
}

decimals_items : (rows : ℕ) (v : ValidityForm) (d : DecimalDType) (items bytes : List ℕ) (form : DecimalForm) → rows < 2 ^ 64 → length bytes < 2 ^ 64 → bytes ≡ decimal_fields v d items → HasLength v rows → IsDecimalType d → AreDecimalsOf rows bytes form → (v ≡ form.validity) × (d ≡ form.decimal) × (items ≡ decimals_bytes form.numbers)
decimals_items rows v d items bytes form small lt b len typed h =
    decimals_same v form.validity rows d form.decimal items (decimals_bytes form.numbers) small len (subst (λ (n : ℕ). HasLength form.validity n) h.counted h.stored.counted) typed h.stored.typed (decimals_small v d items bytes lt b) (decimals_small form.validity form.decimal (decimals_bytes form.numbers) bytes lt h.spelt) (sym b ∙ h.spelt)

pub other_decimals : (rows : ℕ) (v : ValidityForm) (d : DecimalDType) (items bytes : List ℕ) → rows < 2 ^ 64 → length bytes < 2 ^ 64 → bytes ≡ decimal_fields v d items → HasLength v rows → IsDecimalType d → (length items ≡ rows * 16 → ⊥) → AreNoDecimalsOf rows bytes
other_decimals rows v d items bytes small lt b len typed ne = record {
  none = λ form h. ne (ap length (decimals_items rows v d items bytes form small lt b len typed h).2 ∙ length-decimals_bytes form.numbers ∙ ap (λ (n : ℕ). n * 16) h.counted);
}

pub are_decimals : (form : DecimalForm) (rows : ℕ) (v : ValidityForm) (d : DecimalDType) (ns : List ℤ) (items bytes : List ℕ) → form ≡ decimal_with d ns v → length ns ≡ rows → rows < 2 ^ 64 → All (λ n. FitsSigned w128 n) ns → HasLength v rows → IsDecimalType d → bytes ≡ decimal_fields v d items → decimals_bytes ns ≡ items → AreDecimalsOf rows bytes form
are_decimals form rows v d ns items bytes is len small fit counted typed b shows =
    subst (λ (f : DecimalForm). AreDecimalsOf rows bytes f) (sym is) (record {
      counted = len;
      stored = record { typed = typed; fit = fit; counted = subst (λ (n : ℕ). HasLength v n) (sym len) counted; small = omega (arith, len) };
      spelt = b ∙ ap (λ (x : List ℕ). decimal_fields v d x) (sym shows);
    })

-- ---- either

pub type_at_most : (t : PType) → type_number t ≤ 8
type_at_most U8 = omega arith
type_at_most U16 = omega arith
type_at_most U32 = omega arith
type_at_most U64 = omega arith
type_at_most I8 = omega arith
type_at_most I16 = omega arith
type_at_most I32 = omega arith
type_at_most I64 = omega arith

pub number_of_varbin : (kind : VarBinKind) (n : Nullability) → kind_number (kind_dtype kind n) ≡ varbin_number kind
number_of_varbin Utf8 n = refl
number_of_varbin Binary n = refl

varbin_at_least : (kind : VarBinKind) → 11 ≤ varbin_number kind
varbin_at_least Utf8 = omega arith
varbin_at_least Binary = omega arith

varbin_same : (a b : VarBinKind) → varbin_number a ≡ varbin_number b → a ≡ b
varbin_same Utf8 Utf8 e = refl
varbin_same Utf8 Binary e = absurd (omega (arith, e))
varbin_same Binary Utf8 e = absurd (omega (arith, e))
varbin_same Binary Binary e = refl

text_kind : (form : VarBinForm) → 11 ≤ kind_number (varbin_dtype form)
text_kind form = omega (arith, number_of_varbin form.kind (nullability_in form.validity), varbin_at_least form.kind)

pub leaf_body : (leaf : Leaf) → column_body (OfLeaf leaf) ≡ leaf_fields leaf
unfolding column_body
leaf_body leaf = refl

pub record NumbersAt (t : PType) (rows : ℕ) (bytes : List ℕ) (c : Column) : Type 0 where
  pub form : PrimitiveForm
  pub is : c ≡ OfLeaf (OfNumbers form)
  pub are : AreNumbersOf t rows bytes form

pub numbers_at : (c : Column) (t : PType) (levels kind rows : ℕ) (bytes : List ℕ) → type_number t ≡ kind → IsBody levels kind 1 rows bytes c → NumbersAt t rows bytes c
numbers_at (OfLeaf (OfNumbers form)) t levels kind rows bytes k h = record {
  form = form;
  is = refl;
  are = record { typed = type_same form.ptype t (h.kind_is ∙ sym k); counted = h.rows_is; stored = h.writable.stored; spelt = h.spelt ∙ leaf_body (OfNumbers form) };
}
numbers_at (OfLeaf (OfTruths form)) t levels kind rows bytes k h = absurd (omega (arith, type_at_most t, k, h.kind_is))
numbers_at (OfLeaf (OfDecimals form)) t levels kind rows bytes k h = absurd (omega (arith, type_at_most t, k, h.kind_is))
numbers_at (OfLeaf (OfVarBins form)) t levels kind rows bytes k h = absurd (omega (arith, type_at_most t, text_kind form, k, h.kind_is))
numbers_at (OfConstant constant) t levels kind rows bytes k h = absurd (omega (arith, h.form_is))
numbers_at (OfLists lists) t levels kind rows bytes k h = absurd (omega (arith, h.form_is))
numbers_at (OfRuns ends_type ends values offset count) t levels kind rows bytes k h = absurd (omega (arith, h.form_is))

pub record TruthsAt (rows : ℕ) (bytes : List ℕ) (c : Column) : Type 0 where
  pub form : BoolForm
  pub is : c ≡ OfLeaf (OfTruths form)
  pub are : AreTruthsOf rows bytes form

pub truths_at : (c : Column) (levels kind rows : ℕ) (bytes : List ℕ) → kind ≡ 9 → IsBody levels kind 1 rows bytes c → TruthsAt rows bytes c
truths_at (OfLeaf (OfNumbers form)) levels kind rows bytes k h = absurd (omega (arith, type_at_most form.ptype, k, h.kind_is))
truths_at (OfLeaf (OfTruths form)) levels kind rows bytes k h = record {
  form = form;
  is = refl;
  are = record { counted = h.rows_is; stored = h.writable.stored; spelt = h.spelt ∙ leaf_body (OfTruths form) };
}
truths_at (OfLeaf (OfDecimals form)) levels kind rows bytes k h = absurd (omega (arith, k, h.kind_is))
truths_at (OfLeaf (OfVarBins form)) levels kind rows bytes k h = absurd (omega (arith, text_kind form, k, h.kind_is))
truths_at (OfConstant constant) levels kind rows bytes k h = absurd (omega (arith, h.form_is))
truths_at (OfLists lists) levels kind rows bytes k h = absurd (omega (arith, h.form_is))
truths_at (OfRuns ends_type ends values offset count) levels kind rows bytes k h = absurd (omega (arith, h.form_is))

pub record DecimalsAt (rows : ℕ) (bytes : List ℕ) (c : Column) : Type 0 where
  pub form : DecimalForm
  pub is : c ≡ OfLeaf (OfDecimals form)
  pub are : AreDecimalsOf rows bytes form

pub decimals_at : (c : Column) (levels kind rows : ℕ) (bytes : List ℕ) → kind ≡ 10 → IsBody levels kind 1 rows bytes c → DecimalsAt rows bytes c
decimals_at (OfLeaf (OfNumbers form)) levels kind rows bytes k h = absurd (omega (arith, type_at_most form.ptype, k, h.kind_is))
decimals_at (OfLeaf (OfTruths form)) levels kind rows bytes k h = absurd (omega (arith, k, h.kind_is))
decimals_at (OfLeaf (OfDecimals form)) levels kind rows bytes k h = record {
  form = form;
  is = refl;
  are = record { counted = h.rows_is; stored = h.writable.stored; spelt = h.spelt ∙ leaf_body (OfDecimals form) };
}
decimals_at (OfLeaf (OfVarBins form)) levels kind rows bytes k h = absurd (omega (arith, text_kind form, k, h.kind_is))
decimals_at (OfConstant constant) levels kind rows bytes k h = absurd (omega (arith, h.form_is))
decimals_at (OfLists lists) levels kind rows bytes k h = absurd (omega (arith, h.form_is))
decimals_at (OfRuns ends_type ends values offset count) levels kind rows bytes k h = absurd (omega (arith, h.form_is))

pub record TextsAt (kind : VarBinKind) (rows : ℕ) (bytes : List ℕ) (c : Column) : Type 0 where
  pub form : VarBinForm
  pub is : c ≡ OfLeaf (OfVarBins form)
  pub are : AreTextsOf kind rows bytes form

pub texts_at : (c : Column) (kind : VarBinKind) (levels number rows : ℕ) (bytes : List ℕ) → number ≡ varbin_number kind → IsBody levels number 1 rows bytes c → TextsAt kind rows bytes c
texts_at (OfLeaf (OfNumbers form)) kind levels number rows bytes k h = absurd (omega (arith, type_at_most form.ptype, varbin_at_least kind, k, h.kind_is))
texts_at (OfLeaf (OfTruths form)) kind levels number rows bytes k h = absurd (omega (arith, varbin_at_least kind, k, h.kind_is))
texts_at (OfLeaf (OfDecimals form)) kind levels number rows bytes k h = absurd (omega (arith, varbin_at_least kind, k, h.kind_is))
texts_at (OfLeaf (OfVarBins form)) kind levels number rows bytes k h = record {
  form = form;
  is = refl;
  are = record { kind_is = varbin_same form.kind kind (sym (number_of_varbin form.kind (nullability_in form.validity)) ∙ h.kind_is ∙ k); counted = h.rows_is; stored = h.writable.stored; packed_is = h.packed; spelt = h.spelt ∙ leaf_body (OfVarBins form) };
}
texts_at (OfConstant constant) kind levels number rows bytes k h = absurd (omega (arith, h.form_is))
texts_at (OfLists lists) kind levels number rows bytes k h = absurd (omega (arith, h.form_is))
texts_at (OfRuns ends_type ends values offset count) kind levels number rows bytes k h = absurd (omega (arith, h.form_is))

-- a number that is none of a flat column's type
pub record IsOther (kind : ℕ) : Type 0 where
  pub truths : kind ≡ 9 → ⊥
  pub decimals : kind ≡ 10 → ⊥
  pub texts : kind ≡ 11 → ⊥
  pub bytes : kind ≡ 12 → ⊥
  pub numbers : HasNoType kind

no_varbin_at : (v : VarBinKind) (kind : ℕ) → IsOther kind → varbin_number v ≡ kind → ⊥
no_varbin_at Utf8 kind other e = other.texts (sym e)
no_varbin_at Binary kind other e = other.bytes (sym e)

no_type_at : (c : Column) (levels kind rows : ℕ) (bytes : List ℕ) → IsOther kind → IsBody levels kind 1 rows bytes c → ⊥
no_type_at (OfLeaf (OfNumbers form)) levels kind rows bytes other h = other.numbers.none form.ptype h.kind_is
no_type_at (OfLeaf (OfTruths form)) levels kind rows bytes other h = other.truths (sym h.kind_is)
no_type_at (OfLeaf (OfDecimals form)) levels kind rows bytes other h = other.decimals (sym h.kind_is)
no_type_at (OfLeaf (OfVarBins form)) levels kind rows bytes other h = no_varbin_at form.kind kind other (sym (number_of_varbin form.kind (nullability_in form.validity)) ∙ h.kind_is)
no_type_at (OfConstant constant) levels kind rows bytes other h = absurd (omega (arith, h.form_is))
no_type_at (OfLists lists) levels kind rows bytes other h = absurd (omega (arith, h.form_is))
no_type_at (OfRuns ends_type ends values offset count) levels kind rows bytes other h = absurd (omega (arith, h.form_is))

pub no_type_body : (kind rows : ℕ) (bytes : List ℕ) → IsOther kind → (levels : ℕ) → IsNoBody levels kind 1 rows bytes
no_type_body kind rows bytes other levels = record { none = λ c h. no_type_at c levels kind rows bytes other h }

pub no_texts_body : (kind : VarBinKind) (number rows : ℕ) (bytes : List ℕ) → number ≡ varbin_number kind → AreNoTextsOf kind rows bytes → (levels : ℕ) → IsNoBody levels number 1 rows bytes
no_texts_body kind number rows bytes k absent levels = record { none = λ c h. let at = texts_at c kind levels number rows bytes k h in absent.none at.form at.are }

pub no_numbers_body : (t : PType) (kind rows : ℕ) (bytes : List ℕ) → type_number t ≡ kind → AreNoNumbersOf t rows bytes → (levels : ℕ) → IsNoBody levels kind 1 rows bytes
no_numbers_body t kind rows bytes k absent levels = record { none = λ c h. let at = numbers_at c t levels kind rows bytes k h in absent.none at.form at.are }

pub no_truths_body : (kind rows : ℕ) (bytes : List ℕ) → kind ≡ 9 → AreNoTruthsOf rows bytes → (levels : ℕ) → IsNoBody levels kind 1 rows bytes
no_truths_body kind rows bytes k absent levels = record { none = λ c h. let at = truths_at c levels kind rows bytes k h in absent.none at.form at.are }

pub no_decimals_body : (kind rows : ℕ) (bytes : List ℕ) → kind ≡ 10 → AreNoDecimalsOf rows bytes → (levels : ℕ) → IsNoBody levels kind 1 rows bytes
no_decimals_body kind rows bytes k absent levels = record { none = λ c h. let at = decimals_at c levels kind rows bytes k h in absent.none at.form at.are }

pub decimals_body : (kind rows : ℕ) (bytes : List ℕ) (form : DecimalForm) → kind ≡ 10 → AreDecimalsOf rows bytes form → IsBody 0 kind 1 rows bytes (OfLeaf (OfDecimals form))
decimals_body kind rows bytes form k h = record {
  writable = record { stored = h.stored; shallow = omega arith };
  packed = tt;
  kind_is = sym k;
  form_is = refl;
  rows_is = h.counted;
  spelt = h.spelt ∙ sym (leaf_body (OfDecimals form));
}

pub numbers_body : (t : PType) (kind rows : ℕ) (bytes : List ℕ) (form : PrimitiveForm) → type_number t ≡ kind → AreNumbersOf t rows bytes form → IsBody 0 kind 1 rows bytes (OfLeaf (OfNumbers form))
numbers_body t kind rows bytes form k h = record {
  writable = record { stored = h.stored; shallow = omega arith };
  packed = tt;
  kind_is = ap type_number h.typed ∙ k;
  form_is = refl;
  rows_is = h.counted;
  spelt = h.spelt ∙ sym (leaf_body (OfNumbers form));
}

pub truths_body : (kind rows : ℕ) (bytes : List ℕ) (form : BoolForm) → kind ≡ 9 → AreTruthsOf rows bytes form → IsBody 0 kind 1 rows bytes (OfLeaf (OfTruths form))
truths_body kind rows bytes form k h = record {
  writable = record { stored = h.stored; shallow = omega arith };
  packed = tt;
  kind_is = sym k;
  form_is = refl;
  rows_is = h.counted;
  spelt = h.spelt ∙ sym (leaf_body (OfTruths form));
}

pub texts_body : (kind : VarBinKind) (number rows : ℕ) (bytes : List ℕ) (form : VarBinForm) → number ≡ varbin_number kind → AreTextsOf kind rows bytes form → IsBody 0 number 1 rows bytes (OfLeaf (OfVarBins form))
texts_body kind number rows bytes form k h = record {
  writable = record { stored = h.stored; shallow = omega arith };
  packed = h.packed_is;
  kind_is = number_of_varbin form.kind (nullability_in form.validity) ∙ ap varbin_number h.kind_is ∙ sym k;
  form_is = refl;
  rows_is = h.counted;
  spelt = h.spelt ∙ sym (leaf_body (OfVarBins form));
}

-- a body of a kind that is known
pub kind_body : (kind known rows : ℕ) (bytes : List ℕ) (c : Column) → kind ≡ known → IsBody 0 known 1 rows bytes c → IsBody 0 kind 1 rows bytes c
kind_body kind known rows bytes c is h = subst (λ (n : ℕ). IsBody 0 n 1 rows bytes c) (sym is) h

pub no_kind_body : (kind known rows : ℕ) (bytes : List ℕ) → kind ≡ known → ((levels : ℕ) → IsNoBody levels known 1 rows bytes) → (levels : ℕ) → IsNoBody levels kind 1 rows bytes
no_kind_body kind known rows bytes is absent levels = subst (λ (n : ℕ). IsNoBody levels n 1 rows bytes) (sym is) (absent levels)

-- ---- one column has these bytes

pub numbers_one : (f g : PrimitiveForm) → AreNumbers f → length (leaf_fields (OfNumbers f)) < 2 ^ 64 → AreNumbersOf f.ptype (length f.numbers) (leaf_fields (OfNumbers f)) g → f ≡ g
numbers_one f g p lt h =
    let s = numbers_items f.ptype (length f.numbers) f.validity (numbers_bytes f.ptype f.numbers) (leaf_fields (OfNumbers f)) g p.small lt refl p.counted h in
    let bytes : numbers_bytes f.ptype f.numbers ≡ numbers_bytes f.ptype g.numbers = s.1 ∙ ap (λ (t : PType). numbers_bytes t g.numbers) h.typed in
    let ps : AllByRecursion (λ n. HasNumber f.ptype n) f.numbers = recursion_from_All (λ n. HasNumber f.ptype n) f.numbers p.fit in
    let qs : AllByRecursion (λ n. HasNumber f.ptype n) g.numbers = subst (λ (t : PType). AllByRecursion (λ n. HasNumber t n) g.numbers) h.typed (recursion_from_All (λ n. HasNumber g.ptype n) g.numbers h.stored.fit) in
    let ns : f.numbers ≡ g.numbers = numbers_same f.ptype f.numbers g.numbers ps qs (sym h.counted) bytes in
    ap (λ (t : PType). primitive_with t f.numbers f.validity) (sym h.typed) ∙ ap (λ (xs : List ℤ). primitive_with g.ptype xs f.validity) ns ∙ ap (λ (w : ValidityForm). primitive_with g.ptype g.numbers w) s.0

pub truths_one : (f g : BoolForm) → AreTruths f → length (leaf_fields (OfTruths f)) < 2 ^ 64 → AreTruthsOf (length f.bits) (leaf_fields (OfTruths f)) g → f ≡ g
truths_one f g p lt h =
    let s = truths_items (length f.bits) f.validity (bit_bytes f.bits) (leaf_fields (OfTruths f)) g p.small lt refl p.counted h in
    let bits : f.bits ≡ g.bits = bit_bytes_same f.bits g.bits (sym h.counted) s.1 in
    ap (λ (xs : List Bool). bool_with xs f.validity) bits ∙ ap (λ (w : ValidityForm). bool_with g.bits w) s.0

pub decimals_one : (f g : DecimalForm) → AreDecimals f → length (leaf_fields (OfDecimals f)) < 2 ^ 64 → AreDecimalsOf (length f.numbers) (leaf_fields (OfDecimals f)) g → f ≡ g
decimals_one f g p lt h =
    let s = decimals_items (length f.numbers) f.validity f.decimal (decimals_bytes f.numbers) (leaf_fields (OfDecimals f)) g p.small lt refl p.counted p.typed h in
    let ns : f.numbers ≡ g.numbers = decimal_numbers_same f.numbers g.numbers (recursion_from_All (λ n. FitsSigned w128 n) f.numbers p.fit) (recursion_from_All (λ n. FitsSigned w128 n) g.numbers h.stored.fit) (sym h.counted) s.2 in
    ap (λ (d : DecimalDType). decimal_with d f.numbers f.validity) s.1 ∙ ap (λ (xs : List ℤ). decimal_with g.decimal xs f.validity) ns ∙ ap (λ (w : ValidityForm). decimal_with g.decimal g.numbers w) s.0
