-- What operations that work row by row answer for joined rows.
use Rattle.std.specs.Prelude.{◌≡◌, ◌≤◌, ◌-◌, ◌++◌, ℕ, ℤ, Bool, List, Option, None, length, min, slice_range}
use Rattle.std.specs.Option.{option_or}
use Rattle.column_base.specs.declared.dtype.DType.{DType}
use Rattle.column_core.specs.Value.{PlainColumn, Value}
use Rattle.column_ops.specs.Cast.{cast_fault}
use Rattle.column_ops.specs.Codes.{code_fault, code_rows}
use Rattle.column_ops.specs.Fill.{fill_rows}
use Rattle.column_ops.specs.Filter.{filter_fault, filter_rows}
use Rattle.column_ops.specs.Take.{take_rows}
use Rattle.column_ops.specs.Comparing.{compare_with}
use Rattle.column_ops.specs.declared.operator.CompareOperator.{CompareOperator}

-- the plain column of this type and these rows
abbrev pub column_with : DType → List (Option Value) → PlainColumn
column_with dtype rows = record { dtype = dtype; rows = rows }

-- masks that fit the parts select from joined rows what they select from the parts, and fit the joined rows
abbrev pub FilterOfJoined : Type 0
FilterOfJoined = (mask mask' : List Bool) (rows rows' : List (Option Value))
    → filter_fault (length mask) (length rows) ≡ None → filter_fault (length mask') (length rows') ≡ None
    → (filter_rows (mask ++ mask') (rows ++ rows') ≡ filter_rows mask rows ++ filter_rows mask' rows')
    × (filter_fault (length (mask ++ mask')) (length (rows ++ rows')) ≡ None)

-- a range of joined rows is a range of the first part and a range of the second
abbrev pub SliceOfJoined : Type 0
SliceOfJoined = (rows rows' : List (Option Value)) (start stop : ℕ) → start ≤ stop
    → slice_range (rows ++ rows') start stop
    ≡ slice_range rows (min start (length rows)) (min stop (length rows)) ++ slice_range rows' (start - length rows) (stop - length rows)

-- filled joined rows
abbrev pub FillOfJoined : Type 0
FillOfJoined = (rows rows' : List (Option Value)) (value : Value) → fill_rows (rows ++ rows') value ≡ fill_rows rows value ++ fill_rows rows' value

-- the fault of a cast of joined rows is that of the first part that has one
abbrev pub CastOfJoined : Type 0
CastOfJoined = (from to : DType) (rows rows' : List (Option Value))
    → cast_fault (column_with from (rows ++ rows')) to ≡ option_or (cast_fault (column_with from rows) to) (cast_fault (column_with from rows') to)

-- joined codes are looked up in a dictionary as the parts are, and are refused as the first part that is refused
abbrev pub CodesOfJoined : Type 0
CodesOfJoined = (dtype : DType) (dictionary codes codes' : List (Option Value)) (count : ℕ)
    → (code_rows dictionary (codes ++ codes') ≡ code_rows dictionary codes ++ code_rows dictionary codes')
    × (code_fault (column_with dtype (codes ++ codes')) count ≡ option_or (code_fault (column_with dtype codes) count) (code_fault (column_with dtype codes') count))

-- joined rows compared with one optional value
abbrev pub ComparisonOfJoined : Type 0
ComparisonOfJoined = (operator : CompareOperator) (rows rows' : List (Option Value)) (right : Option Value)
    → compare_with operator (rows ++ rows') right ≡ compare_with operator rows right ++ compare_with operator rows' right

-- rows taken by indices that come in parts
abbrev pub TakeOfParts : Type 0
TakeOfParts = (rows : List (Option Value)) (indices indices' : List (Option ℤ))
    → take_rows rows (indices ++ indices') ≡ take_rows rows indices ++ take_rows rows indices'
