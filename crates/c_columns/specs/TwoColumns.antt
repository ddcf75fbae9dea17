-- Commands that are made of a second column, which may have any form: why they are refused, and what they leave.
use Rattle.std.specs.Prelude.{◌≡◌, ◌<◌, ◌-◌, ℕ, ℤ, pos, List, Bool, true, false, bit_and, cond, count_by, length, map, slice_index, slice_index_or, Option, Some, None}
use Rattle.std.specs.Option.{option_or}
use Rattle.std.specs.Global.{Global}
use Rattle.column_base.specs.Mask.{mask_bits}
use Rattle.column_base.specs.declared.error.VortexError.{VortexError}
use Rattle.column_base.specs.declared.mask.Mask.{Mask}
use Rattle.column_core.specs.Leaf.{OfNumbers}
use Rattle.column_core.specs.Value.{PlainColumn, Value}
use Rattle.column_ops.specs.Codes.{code_fault, code_rows}
use Rattle.column_ops.specs.Filter.{filter_fault, filter_rows}
use Rattle.column_ops.specs.Nullable.{take_dtype}
use Rattle.column_ops.specs.CompareFault.{compare_column_fault}
use Rattle.column_ops.specs.Comparing.{compare_dtype, compare_rows}
use Rattle.column_ops.specs.declared.operator.CompareOperator.{CompareOperator}
use Rattle.runend_array.specs.Array.{column_of, dtype_of, rows}
use Rattle.runend_array.specs.Column.{Column, OfLeaf, Runs, column_rows}
use Rattle.runend_array.specs.declared.array_ref.ArrayRef.{ArrayRef}
use Rattle.runend_commands.specs.declared.command.Command.TheVariants.{Filter, Take, TakeFrom, CompareColumn}
use Rattle.runend_select.specs.MaskRuns.{is_true, mask_fault}
use Rattle.runend_commands.specs.Meaning.{plain}
use Rattle.c_columns.specs.Ending.{EndsBy}
use Rattle.c_columns.specs.Forms.{IsLeastIfRuns, LeavesFormIn}
use Rattle.c_columns.specs.RunReads.{start_of, stop_of}
use Rattle.c_columns.specs.declared.error_fields.ErrorFields.{ErrorFields}
use Rattle.c_columns.specs.declared.sessions.Session.{Session}

-- how many rows are true
abbrev pub true_rows : List (Option Value) → ℕ
true_rows rows = count_by (λ bit. bit) (map is_true rows)

-- how many rows show a run of booleans, where its value is true, and else none
abbrev pub true_rows_in : Runs → ℕ → ℕ
true_rows_in r run = cond (is_true (slice_index_or (column_rows r.values) run None)) (stop_of r run - start_of r run) 0

-- each bit that is true is true in the other list too
abbrev pub AreWithin : List Bool → List Bool → Type 0
AreWithin bits others = (i : ℕ) → i < length bits → slice_index_or bits i false ≡ true → slice_index_or others i false ≡ true

-- n words, each with the bits that both of the others have
pub record AreOfBoth (words others both : List ℕ) (n : ℕ) : Type 0 where
  pub len : length both ≡ n
  pub word : (k : ℕ) → k < n → slice_index both k ≡ bit_and (slice_index words k) (slice_index others k)

-- a filter by the rows of a mask
abbrev pub mask_filter_fault : ArrayRef Global → ArrayRef Global → Option VortexError
mask_filter_fault mask c = option_or (mask_fault (dtype_of mask)) (filter_fault (length (map is_true (rows mask))) (length (rows c)))

abbrev pub filtered_by : ArrayRef Global → ArrayRef Global → PlainColumn
filtered_by mask c = record { dtype = dtype_of c; rows = filter_rows (map is_true (rows mask)) (rows c) }

-- rows of a column, looked up by codes, which number them from 0
abbrev pub code_look_up_fault : ArrayRef Global → ArrayRef Global → Option VortexError
code_look_up_fault codes c = code_fault (plain codes) (length (rows c))

abbrev pub looked_up_by : ArrayRef Global → ArrayRef Global → PlainColumn
looked_up_by codes c = record { dtype = take_dtype (dtype_of c) (dtype_of codes); rows = code_rows (rows c) (rows codes) }

-- a comparison with a column on the right
abbrev pub beside_fault : ArrayRef Global → ArrayRef Global → Option VortexError
beside_fault c right = compare_column_fault (dtype_of c) (dtype_of right) (length (rows c)) (length (rows right))

abbrev pub compared_by : CompareOperator → ArrayRef Global → ArrayRef Global → PlainColumn
compared_by operator c right = record { dtype = compare_dtype (dtype_of c) (dtype_of right); rows = compare_rows operator (rows c) (rows right) }

-- the form in which a filter by the rows of a mask leaves a column: that of a filter by such bits
pub record IsFilteredIn (s : Session) (mask c d : ArrayRef Global) : Type 0 where
  pub selected : Mask Global
  pub bits : mask_bits selected ≡ map is_true (rows mask)
  pub form : LeavesFormIn s (Filter selected) c d

-- that of rows that are looked up by codes
abbrev pub IsLookedUpIn : Session → ArrayRef Global → ArrayRef Global → ArrayRef Global → Type 0
IsLookedUpIn s codes dictionary d = LeavesFormIn s (TakeFrom dictionary) codes d

-- that of rows at indices: where these lie flat the rows are taken, else they are looked up as by codes
abbrev pub IsTakenBy : Column → Session → ArrayRef Global → ArrayRef Global → ArrayRef Global → Type 0
IsTakenBy (OfLeaf (OfNumbers numbers)) s indices c d = LeavesFormIn s (Take numbers) c d
IsTakenBy lies s indices c d = IsLookedUpIn s indices c d

abbrev pub IsTakenIn : Session → ArrayRef Global → ArrayRef Global → ArrayRef Global → Type 0
IsTakenIn s indices c d = IsTakenBy (column_of indices) s indices c d

-- that of rows that are compared with those of another column
abbrev pub IsComparedIn : CompareOperator → Session → ArrayRef Global → ArrayRef Global → ArrayRef Global → Type 0
IsComparedIn operator s c right d = LeavesFormIn s (CompareColumn operator right) c d

-- the column has these rows, of this type, and lies in this form
pub record HasPlain (wanted : PlainColumn) (Form : ArrayRef Global → Type 0) (d : ArrayRef Global) : Type 0 where
  pub rows : rows d ≡ wanted.rows
  pub dtype : dtype_of d ≡ wanted.dtype
  pub form : Form d
  pub least : IsLeastIfRuns (column_of d)

-- what is made of two columns has these rows, of this type, and lies in this form
abbrev pub LeavesPlain : (ArrayRef Global → ArrayRef Global → PlainColumn) → (ArrayRef Global → ArrayRef Global → ArrayRef Global → Type 0) → ArrayRef Global → ArrayRef Global → ArrayRef Global → Type 0
LeavesPlain wanted Form c other d = HasPlain (wanted c other) (Form c other) d

-- how a call on two columns ends: with 22 where one of the two handles is empty
abbrev pub EndsOnTwo : (ArrayRef Global → ArrayRef Global → Option VortexError) → Option (ArrayRef Global) → Option (ArrayRef Global) → ℤ → ErrorFields → Type 0
EndsOnTwo fault None other code fields = code ≡ pos 22
EndsOnTwo fault (Some c) None code fields = code ≡ pos 22
EndsOnTwo fault (Some c) (Some other) code fields = EndsBy (fault c other) code fields
