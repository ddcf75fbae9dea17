-- Dictionaries over which runs of codes are kept.
use Rattle.std.specs.Prelude.{Bool, true, false}
use Rattle.column_base.specs.declared.dtype.DType.{DType}
use Rattle.column_base.specs.declared.dtype.DType.TheVariants as column

-- whether the runs of the codes are kept: over integers and booleans
abbrev pub keeps_runs : DType → Bool
keeps_runs (column.Bool n) = true
keeps_runs (column.Primitive t n) = true
keeps_runs (column.Decimal d n) = false
keeps_runs (column.Utf8 n) = false
keeps_runs (column.Binary n) = false
keeps_runs (column.List e n) = false
