-- One row that is put after others.
use Rattle.std.specs.Prelude.{◌≡◌, ℕ, ℤ, List, [], ◌∷◌, ◌++◌, Bool, false, Option, Some, None, pos}
use Rattle.column_base.specs.Types.{HasNumber}
use Rattle.column_core.specs.Leaf.{Leaf, OfDecimals, OfNumbers, OfTruths, OfVarBins}
use Rattle.column_core.specs.Value.{Bytes, DecimalNumber, Number, Single, Text, Truth, Value}
use Rattle.column_core.specs.declared.varbinview.VarBinKind.TheVariants.{Binary, Utf8}
use Rattle.runend_builder.specs.Texts.{texts_of}

-- the number that is stored for a row: 0 for null
abbrev pub number_in : Option Value → ℤ
number_in (Some (Single (Number n))) = n
number_in (Some (Single (DecimalNumber n))) = n
number_in value = pos 0

-- the bit that is stored for a row: false for null
abbrev pub truth_in : Option Value → Bool
truth_in (Some (Single (Truth b))) = b
truth_in value = false

-- the bytes that are stored for a row: none for null
abbrev pub bytes_in : Option Value → List ℕ
bytes_in (Some (Single (Text bytes))) = bytes
bytes_in (Some (Single (Bytes bytes))) = bytes
bytes_in value = []

-- the row is null, or its value is of the kind of the items
abbrev pub IsRowFor : Leaf → Option Value → Type 0
IsRowFor leaf None = Unit {0}
IsRowFor (OfNumbers form) (Some (Single (Number n))) = HasNumber form.ptype n
IsRowFor (OfTruths form) (Some (Single (Truth b))) = Unit {0}
IsRowFor (OfDecimals form) (Some (Single (DecimalNumber n))) = Unit {0}
IsRowFor (OfVarBins form) (Some (Single (Text bytes))) = form.kind ≡ Utf8
IsRowFor (OfVarBins form) (Some (Single (Bytes bytes))) = form.kind ≡ Binary
IsRowFor leaf value = ⊥

-- the item of a row is put after items of the same kind
abbrev pub IsPushed : Leaf → Option Value → Leaf → Type 0
IsPushed (OfNumbers old) value (OfNumbers grown) = (grown.ptype ≡ old.ptype) × (grown.numbers ≡ old.numbers ++ number_in value ∷ [])
IsPushed (OfTruths old) value (OfTruths grown) = grown.bits ≡ old.bits ++ truth_in value ∷ []
IsPushed (OfDecimals old) value (OfDecimals grown) = (grown.decimal ≡ old.decimal) × (grown.numbers ≡ old.numbers ++ number_in value ∷ [])
IsPushed (OfVarBins old) value (OfVarBins grown) =
    (grown.kind ≡ old.kind) × (texts_of grown.buffers grown.views ≡ texts_of old.buffers old.views ++ bytes_in value ∷ [])
IsPushed old value grown = ⊥
