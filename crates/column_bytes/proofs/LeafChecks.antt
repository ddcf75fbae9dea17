-- Bytes that are found to be those of a flat column are, of one whose items they hold.
use Rattle.std.proofs.Common.{◌≡◌, ℕ, ◌^◌, ◌<◌, List, refl}
use Rattle.column_base.specs.declared.dtype.DecimalDType.{DecimalDType}
use Rattle.column_base.specs.declared.dtype.PType.{PType}
use Rattle.column_base.specs.ValidityForm.{ValidityForm, HasLength}
use Rattle.column_core.specs.PrimitiveForm.{PrimitiveForm, primitive_with}
use Rattle.column_core.specs.BoolForm.{BoolForm, bool_with}
use Rattle.column_core.specs.DecimalForm.{DecimalForm, decimal_with}
use Rattle.column_core.specs.Leaf.{OfNumbers, OfTruths, OfDecimals, OfVarBins}
use Rattle.column_core.specs.declared.varbinview.VarBinKind.{VarBinKind}
use Rattle.column_core.specs.VarBinForm.{VarBinForm}
use Rattle.column_fields.specs.BitBytes.{bits_from}
use Rattle.column_fields.specs.DecimalFields.{IsDecimalType, decimal_fields}
use Rattle.column_fields.specs.FlatFields.{flat_fields}
use Rattle.column_fields.specs.Held.{HeldNumbers, HeldDecimals, AreHeldBits}
use Rattle.column_fields.specs.Types.{type_number}
use Rattle.runend_array.specs.Column.{Column, OfLeaf}
use Rattle.column_bytes.specs.TextReading.{AreTextsOf}
use Rattle.column_bytes.specs.Bytes.{varbin_number}
use Rattle.column_bytes.specs.Read.{IsBody, AreNumbersOf, AreTruthsOf, AreDecimalsOf}
use Rattle.column_bytes.proofs.Leaves.{are_numbers, are_truths, are_decimals, numbers_body, truths_body, decimals_body, texts_body}

pub numbers_held : (t : PType) (rows : ℕ) (v : ValidityForm) (items bytes : List ℕ) → rows < 2 ^ 64 → HasLength v rows → bytes ≡ flat_fields v items → HeldNumbers t rows items → (form : PrimitiveForm) × AreNumbersOf t rows bytes form
numbers_held t rows v items bytes small counted b h =
    (primitive_with t h.numbers v, are_numbers (primitive_with t h.numbers v) t t rows v h.numbers items bytes refl refl h.counted small h.fit counted b h.shows)

pub truths_held : (rows : ℕ) (v : ValidityForm) (items bytes : List ℕ) → rows < 2 ^ 64 → HasLength v rows → bytes ≡ flat_fields v items → AreHeldBits rows items → (form : BoolForm) × AreTruthsOf rows bytes form
truths_held rows v items bytes small counted b h =
    (bool_with (bits_from rows items) v, are_truths (bool_with (bits_from rows items) v) rows v (bits_from rows items) items bytes refl h.counted small counted b h.shows)

pub decimals_held : (rows : ℕ) (v : ValidityForm) (d : DecimalDType) (items bytes : List ℕ) → rows < 2 ^ 64 → HasLength v rows → IsDecimalType d → bytes ≡ decimal_fields v d items → HeldDecimals rows items → (form : DecimalForm) × AreDecimalsOf rows bytes form
decimals_held rows v d items bytes small counted typed b h =
    (decimal_with d h.numbers v, are_decimals (decimal_with d h.numbers v) rows v d h.numbers items bytes refl h.counted small h.fit counted typed b h.shows)

pub numbers_column : (t : PType) (kind rows : ℕ) (bytes : List ℕ) → type_number t ≡ kind → (form : PrimitiveForm) × AreNumbersOf t rows bytes form → (c : Column) × IsBody 0 kind 1 rows bytes c
numbers_column t kind rows bytes k h = (OfLeaf (OfNumbers h.0), numbers_body t kind rows bytes h.0 k h.1)

pub truths_column : (kind rows : ℕ) (bytes : List ℕ) → kind ≡ 9 → (form : BoolForm) × AreTruthsOf rows bytes form → (c : Column) × IsBody 0 kind 1 rows bytes c
truths_column kind rows bytes k h = (OfLeaf (OfTruths h.0), truths_body kind rows bytes h.0 k h.1)

pub decimals_column : (kind rows : ℕ) (bytes : List ℕ) → kind ≡ 10 → (form : DecimalForm) × AreDecimalsOf rows bytes form → (c : Column) × IsBody 0 kind 1 rows bytes c
decimals_column kind rows bytes k h = (OfLeaf (OfDecimals h.0), decimals_body kind rows bytes h.0 k h.1)

pub texts_column : (t : VarBinKind) (kind rows : ℕ) (bytes : List ℕ) → kind ≡ varbin_number t → (form : VarBinForm) × AreTextsOf t rows bytes form → (c : Column) × IsBody 0 kind 1 rows bytes c
texts_column t kind rows bytes k h = (OfLeaf (OfVarBins h.0), texts_body t kind rows bytes h.0 k h.1)
