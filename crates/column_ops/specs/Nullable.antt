-- Types with and without null.
use Rattle.column_base.specs.declared.dtype.Nullability.{Nullability}
use Rattle.column_base.specs.declared.dtype.Nullability.TheVariants.{NonNullable, Nullable}
use Rattle.column_base.specs.declared.dtype.DType.{DType}
use Rattle.column_base.specs.Types.{nullability_of, with_nullability}

-- with null where either has null
abbrev pub either_nullable : Nullability → Nullability → Nullability
either_nullable NonNullable n = n
either_nullable Nullable n = Nullable

-- the type of what is taken from a column by indices: with null where the column or the indices have null
abbrev pub take_dtype : DType → DType → DType
take_dtype column indices = with_nullability column (either_nullable (nullability_of column) (nullability_of indices))
