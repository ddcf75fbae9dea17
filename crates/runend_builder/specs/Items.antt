-- Items that grow, as those of a flat column.
use Rattle.std.specs.Prelude.{◌≡◌, ◌++◌, ℕ, ℤ, List, [], ◌∷◌, All, Bool, true, false, drop, map, pos, length}
use Rattle.column_base.specs.declared.dtype.DType.{DType}
use Rattle.column_base.specs.declared.dtype.Nullability.{Nullability}
use Rattle.column_base.specs.declared.dtype.Nullability.TheVariants.{NonNullable}
use Rattle.column_base.specs.declared.dtype.PType.{PType}
use Rattle.column_base.specs.declared.dtype.PType.TheVariants.{U8, U16, U32, U64, I8, I16, I32, I64}
use Rattle.column_base.specs.Types.{with_nullability}
use Rattle.column_base.specs.ValidityForm.{ByBits, IsNormal, NeverNull, ValidityForm, flags, nullability_in}
use Rattle.column_core.specs.BoolForm.{bool_with}
use Rattle.column_core.specs.Computed.{HasRowIfAllNull}
use Rattle.column_core.specs.DecimalForm.{decimal_with}
use Rattle.column_core.specs.Leaf.{Leaf, OfDecimals, OfNumbers, OfTruths, OfVarBins, leaf_count, leaf_dtype, single_rows}
use Rattle.column_core.specs.Optionals.{AreBlankAtNulls}
use Rattle.column_core.specs.PrimitiveForm.{primitive_with}
use Rattle.column_core.specs.Value.{PlainColumn}
use Rattle.column_core.specs.VarBinForm.{varbin_with}
use Rattle.runend_builder.specs.Texts.{AreCut, texts_of}
use Rattle.runend_builder.specs.declared.items.Items.{Items}
use Rattle.runend_builder.specs.declared.items.Items.TheVariants as kind
use Rattle.runend_builder.specs.declared.numbers.NumberItems.{NumberItems}
use Rattle.runend_builder.specs.declared.numbers.NumberItems.TheVariants as items

-- the numbers, in order
abbrev pub numbers_in : {A : Type 0} → NumberItems A → List ℤ
numbers_in (items.U8 stored) = map (λ n. pos n) stored.items
numbers_in (items.U16 stored) = map (λ n. pos n) stored.items
numbers_in (items.U32 stored) = map (λ n. pos n) stored.items
numbers_in (items.U64 stored) = map (λ n. pos n) stored.items
numbers_in (items.I8 stored) = stored.items
numbers_in (items.I16 stored) = stored.items
numbers_in (items.I32 stored) = stored.items
numbers_in (items.I64 stored) = stored.items

-- the type of the numbers
abbrev pub ptype_in : {A : Type 0} → NumberItems A → PType
ptype_in (items.U8 stored) = U8
ptype_in (items.U16 stored) = U16
ptype_in (items.U32 stored) = U32
ptype_in (items.U64 stored) = U64
ptype_in (items.I8 stored) = I8
ptype_in (items.I16 stored) = I16
ptype_in (items.I32 stored) = I32
ptype_in (items.I64 stored) = I64

-- the items as a flat column without null
abbrev pub stored_in : {A : Type 0} → Items A → Leaf
stored_in (kind.Numbers stored) = OfNumbers (primitive_with (ptype_in stored) (numbers_in stored) NeverNull)
stored_in (kind.Truths stored) = OfTruths (bool_with stored.items NeverNull)
stored_in (kind.Decimals decimal stored) = OfDecimals (decimal_with decimal stored.items NeverNull)
stored_in (kind.VarBins stored) = OfVarBins (varbin_with stored.kind stored.views.items (stored.bytes.items ∷ []) NeverNull)

-- the same items, null where the validity says so
abbrev pub with_validity : Leaf → ValidityForm → Leaf
with_validity (OfNumbers form) validity = OfNumbers (primitive_with form.ptype form.numbers validity)
with_validity (OfTruths form) validity = OfTruths (bool_with form.bits validity)
with_validity (OfDecimals form) validity = OfDecimals (decimal_with form.decimal form.numbers validity)
with_validity (OfVarBins form) validity = OfVarBins (varbin_with form.kind form.views form.buffers validity)

-- the type of these items, with null or without
abbrev pub type_with : Leaf → Nullability → DType
type_with leaf nullability = with_nullability (leaf_dtype leaf) nullability

-- items that are appended to items of the same kind, from this one on
abbrev pub AreAppended : Leaf → Leaf → ℕ → Leaf → Type 0
AreAppended (OfNumbers old) (OfNumbers part) start (OfNumbers grown) = (grown.ptype ≡ old.ptype) × (grown.numbers ≡ old.numbers ++ drop start part.numbers)
AreAppended (OfTruths old) (OfTruths part) start (OfTruths grown) = grown.bits ≡ old.bits ++ drop start part.bits
AreAppended (OfDecimals old) (OfDecimals part) start (OfDecimals grown) = (grown.decimal ≡ old.decimal) × (grown.numbers ≡ old.numbers ++ drop start part.numbers)
AreAppended (OfVarBins old) (OfVarBins part) start (OfVarBins grown) =
    (grown.kind ≡ old.kind) × (texts_of grown.buffers grown.views ≡ texts_of old.buffers old.views ++ drop start (texts_of part.buffers part.views))
AreAppended old part start grown = ⊥

-- 0, false or nothing is stored where a bit is false
abbrev pub AreBlank : Leaf → List Bool → Type 0
AreBlank (OfNumbers form) bits = AreBlankAtNulls (pos 0) form.numbers bits
AreBlank (OfTruths form) bits = AreBlankAtNulls false form.bits bits
AreBlank (OfDecimals form) bits = AreBlankAtNulls (pos 0) form.numbers bits
AreBlank (OfVarBins form) bits = AreBlankAtNulls [] (texts_of form.buffers form.views) bits

-- texts are cut by views of their own
abbrev pub AreSound : Leaf → Type 0
AreSound (OfNumbers form) = Unit {0}
AreSound (OfTruths form) = Unit {0}
AreSound (OfDecimals form) = Unit {0}
AreSound (OfVarBins form) = AreCut form.kind form.buffers form.views

-- what a builder holds: a flag for each item, and none that is false in a type without null
pub record IsGrown (leaf : Leaf) (bits : List Bool) (nullability : Nullability) : Type 0 where
  pub counted : length bits ≡ leaf_count leaf
  pub blank : AreBlank leaf bits
  pub required : nullability ≡ NonNullable → All (λ bit. bit ≡ true) bits
  pub sound : AreSound leaf

-- the type and the rows of what a builder holds
abbrev pub grown_column : Leaf → List Bool → Nullability → PlainColumn
grown_column leaf bits nullability = record { dtype = type_with leaf nullability; rows = single_rows (with_validity leaf (ByBits bits)) }

-- the validity that has these flags, as a call computes it
pub record IsValidityOf (validity : ValidityForm) (bits : List Bool) (nullability : Nullability) : Type 0 where
  pub shows : flags validity (length bits) ≡ bits
  pub normal : IsNormal validity
  pub some : HasRowIfAllNull validity (length bits)
  pub typed : nullability_in validity ≡ nullability

-- a column of these items and flags
pub record IsColumnOf (leaf : Leaf) (bits : List Bool) (nullability : Nullability) (column : Leaf) : Type 0 where
  pub validity : ValidityForm
  pub flagged : IsValidityOf validity bits nullability
  pub stored : column ≡ with_validity leaf validity
