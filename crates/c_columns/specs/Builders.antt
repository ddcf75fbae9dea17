-- Builders in handles, and columns of encodings.
use Rattle.std.specs.Prelude.{◌≡◌, ◌⊎◌, ◌++◌, [], ℕ, ℤ, pos, List, length, Option, Some, None, option_map}
use Rattle.std.specs.Global.{Global}
use Rattle.std.specs.Coded.{Coded, coded_option}
use base.Fml.{Fml, feq}
use denote.RattleType.{RattleType}
use denote.RawPtr.{Ptr, null_ptr}
use Rattle.std.specs.contracts.alloc.Global as heap
use Rattle.std.specs.contracts.impls.GlobalAllocator.TheImpl.{ghosts}
use Rattle.std_alloc.specs.Box.Ownership.{box_owns}
use Rattle.column_base.specs.declared.dtype.DType.{DType}
use Rattle.column_base.specs.declared.error.VortexError.{VortexError}
use Rattle.column_core.specs.Kinds.{list_fault}
use Rattle.column_core.specs.Value.{Single, Value}
use Rattle.runend_array.specs.Array.{column_of, dtype_of, rows}
use Rattle.runend_array.specs.Column.{Column, Runs, column_dtype, column_of_runs}
use Rattle.runend_array.specs.declared.array_ref.ArrayRef.{ArrayRef}
use Rattle.runend_builder.specs.Encoded.{IsEncodedRows}
use Rattle.runend_builder.specs.Builder.{Built, append_fault, built_with}
use Rattle.runend_builder.specs.contracts.builder.RunBuilder as builder
use Rattle.c_columns.specs.Ending.{EndsBy, EndsUnless}
use Rattle.c_columns.specs.Makers.{ConstantFault}
use Rattle.c_columns.specs.Values.{value_in}
use Rattle.c_columns.specs.declared.error_fields.ErrorFields.{ErrorFields}
use Rattle.c_columns.specs.declared.row_value.RowValue.{RowValue}

-- the type of builders
abbrev pub builder_row : RattleType
builder_row = builder.the_row heap.the_row ghosts

-- how the logic stores a builder, or none
abbrev pub builder_code : Coded (Option Built)
builder_code = coded_option builder_row.coded

-- the block at a pointer, and the builder in it; without a builder nothing, and the pointer is null
abbrev pub holds_builder : Global → Ptr → Option Built → Fml
holds_builder alloc at None = feq Ptr at null_ptr
holds_builder alloc at (Some built) = box_owns (ghosts.dealloc_token alloc) builder_row at built

-- the run column that is the encoding of these rows, of this type
pub record IsEncodingOf (rows : List (Option Value)) (dtype : DType) (c : ArrayRef Global) : Type 0 where
  pub runs : Runs
  pub encoded : IsEncodedRows rows dtype runs
  pub is : column_of c ≡ column_of_runs runs

-- the second column is the run column that encodes the rows of the first; and a column is the one that encodes the rows
-- of a builder
abbrev pub AreEncoded : ArrayRef Global → ArrayRef Global → Type 0
AreEncoded c d = IsEncodingOf (rows c) (dtype_of c) d

abbrev pub AreBuilt : Built → ArrayRef Global → Type 0
AreBuilt built d = IsEncodingOf built.rows built.dtype d

-- rows that have no encoding
abbrev pub encoding_fault : Column → Option VortexError
encoding_fault c = list_fault (column_dtype c)

-- the builder with these rows after its own
abbrev pub with_rows : Built → List (Option Value) → Built
with_rows built more = built_with built.dtype (built.rows ++ more)

-- the builder of its type, without rows
abbrev pub IsEmptied : Built → Built → Type 0
IsEmptied built after = after ≡ built_with built.dtype []

-- the row of a value that is passed
abbrev pub passed_row : RowValue → List ℕ → Option Value
passed_row value text = option_map Single (value_in value.kind value text)

-- why the rows of a column are not appended to those of a builder
abbrev pub column_append_fault : Built → ArrayRef Global → Option VortexError
column_append_fault built c = append_fault built.dtype (dtype_of c) (length built.rows) (length (rows c))

-- why `count` rows of a value that is passed are not: it is not of the type; or it is, and there were too many rows
abbrev pub PassedAppendFault : Built → RowValue → List ℕ → ℕ → VortexError → Type 0
PassedAppendFault built value text count error =
    ConstantFault built.dtype value text error
    ⊎ (((other : VortexError) → ¬ (ConstantFault built.dtype value text other)) × (append_fault built.dtype built.dtype (length built.rows) count ≡ Some error))

-- how a call on a builder ends: with 22 where the handle is empty
abbrev pub EndsOnBuilder : (Built → VortexError → Type 0) → Option Built → ℤ → ErrorFields → Type 0
EndsOnBuilder Fault None code fields = code ≡ pos 22
EndsOnBuilder Fault (Some built) code fields = EndsUnless (Fault built) code fields

-- how a call on a builder ends that has no fault: with 22 where the handle is empty
abbrev pub EndsOnBuilt : Option Built → ℤ → ErrorFields → Type 0
EndsOnBuilt None code fields = code ≡ pos 22
EndsOnBuilt (Some built) code fields = EndsBy None code fields

-- how a call on a builder and a column ends: with 22 where one of the two handles is empty
abbrev pub EndsOnAppend : Option Built → Option (ArrayRef Global) → ℤ → ErrorFields → Type 0
EndsOnAppend None c code fields = code ≡ pos 22
EndsOnAppend (Some built) None code fields = code ≡ pos 22
EndsOnAppend (Some built) (Some c) code fields = EndsBy (column_append_fault built c) code fields
