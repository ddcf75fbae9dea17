-- The scalars that words mean.
use Rattle.std.specs.Prelude.{◌≡◌, ◌≢◌, ◌⊎◌, ℕ, List, Option, Some, None, codes, pos}
use Rattle.column_base.specs.declared.dtype.PType.{PType}
use Rattle.column_base.specs.declared.dtype.Nullability.TheVariants.{Nullable}
use Rattle.column_base.specs.declared.dtype.DType.{DType}
use Rattle.column_base.specs.declared.dtype.DType.TheVariants as column
use Rattle.column_base.specs.Types.{IsUnsigned}
use Rattle.column_core.specs.ScalarForm.{ScalarForm}
use Rattle.column_core.specs.Value.{Number}
use Rattle.column_core.specs.declared.scalar.ScalarValue.{ScalarValue}
use Rattle.column_core.specs.declared.scalar.ScalarValue.TheVariants as owned
use Rattle.column_words.specs.Numbers.{IsWholeNumber, whole_number}
use Rattle.runend_script.specs.Rows.{IsNumberOf}

-- an owned value of the word's number, spelled with or without a sign as the type's numbers are; there is one wherever the type has the number
abbrev pub ReadsOwned : {A : Type 0} → PType → List ℕ → Option (ScalarValue A) → Type 0
ReadsOwned ptype word None = ¬ (IsNumberOf ptype word)
ReadsOwned ptype word (Some (owned.Unsigned k)) = IsUnsigned ptype × IsWholeNumber word × (pos k ≡ whole_number word)
ReadsOwned ptype word (Some (owned.Signed z)) = (¬ IsUnsigned ptype) × IsWholeNumber word × (z ≡ whole_number word)
ReadsOwned ptype word (Some value) = ⊥

-- the scalar that a word means next to rows of the type: null of the nullable type by the word `null`, and otherwise
-- the word's number in the type itself
abbrev pub ReadsScalar : DType → List ℕ → Option ScalarForm → Type 0
ReadsScalar (column.Primitive ptype n) word None = (word ≢ codes "null") × ¬ (IsNumberOf ptype word)
ReadsScalar (column.Primitive ptype n) word (Some scalar) =
    ((word ≡ codes "null") × (scalar ≡ record { dtype = column.Primitive ptype Nullable; value = None }))
    ⊎ (IsNumberOf ptype word × (scalar ≡ record { dtype = column.Primitive ptype n; value = Some (Number (whole_number word)) }))
ReadsScalar t word None = Unit {0}
ReadsScalar t word (Some scalar) = ⊥
