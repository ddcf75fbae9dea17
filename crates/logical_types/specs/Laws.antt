-- What holds of all formats.
use Rattle.std.specs.Prelude.{◌≡◌, ℕ, List}
use Rattle.logical_types.specs.declared.types.LogicalType.{LogicalType}
use Rattle.logical_types.specs.Formats.{IsNamed, IsReadAs, Names, format_of}

-- a word is a format of at most one type and zone
abbrev pub NamesAreUnique : Type 0
NamesAreUnique =
    (word : List ℕ) (t u : LogicalType) (zone other : List ℕ) → Names word t zone → Names word u other → (t ≡ u) × (zone ≡ other)

-- what is written of a type that a format names is read as it
abbrev pub WrittenFormatsAreRead : Type 0
WrittenFormatsAreRead = (t : LogicalType) (zone : List ℕ) → IsNamed t zone → IsReadAs (format_of t zone) t zone

-- only such a type has a format
abbrev pub OnlyNamedAreRead : Type 0
OnlyNamedAreRead = (word : List ℕ) (t : LogicalType) (zone : List ℕ) → Names word t zone → IsNamed t zone
