-- What a handle owns.
use Rattle.std.specs.Prelude.{ℕ, List, [], Option, None, Some}
use Rattle.std.specs.Coded.{Coded, coded_option}
use base.Fml.{Fml, feq}
use denote.RattleType.{RattleType}
use denote.RawPtr.{Ptr, null_ptr}
use Rattle.std.specs.Global.{Global}
use Rattle.std.specs.contracts.alloc.Global as heap
use Rattle.std.specs.contracts.impls.GlobalAllocator.TheImpl.{ghosts}
use Rattle.std_alloc.specs.Box.Ownership.{box_owns}
use Rattle.runend_array.specs.declared.array_ref.ArrayRef.{ArrayRef}
use Rattle.typed_columns.specs.Typed.{format_of}
use Rattle.typed_columns.specs.declared.typed_column.TypedColumn.{TypedColumn}
use Rattle.typed_columns.specs.contracts.typed_column.TypedColumn as typed

-- the type of columns with a format
abbrev pub column_row : RattleType
column_row = typed.the_row heap.the_row ghosts

-- how the logic stores a column, or none
abbrev pub column_code : Coded (Option (TypedColumn Global))
column_code = coded_option column_row.coded

-- the block at a pointer, and the column in it; without a column nothing, and the pointer is null
abbrev pub holds : Global → Ptr → Option (TypedColumn Global) → Fml
holds alloc at None = feq Ptr at null_ptr
holds alloc at (Some column) = box_owns (ghosts.dealloc_token alloc) column_row at column

-- the rows that a handle holds, whatever they mean
abbrev pub array_in : Option (TypedColumn Global) → Option (ArrayRef Global)
array_in None = None
array_in (Some column) = Some column.array

-- the format of a column that a handle holds: empty for an empty handle
abbrev pub format_in : Option (TypedColumn Global) → List ℕ
format_in None = []
format_in (Some column) = format_of column
