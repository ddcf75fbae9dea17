-- The bytes of a column: one message, which docs/column.proto declares.
use Rattle.std.specs.Prelude.{ℕ, pos, List, ◌++◌, map}
use Rattle.column_base.specs.declared.dtype.DType.{DType}
use Rattle.column_base.specs.declared.dtype.DType.TheVariants as column
use Rattle.column_core.specs.declared.varbinview.VarBinKind.{VarBinKind}
use Rattle.column_core.specs.declared.varbinview.VarBinKind.TheVariants.{Utf8, Binary}
use Rattle.column_base.specs.declared.dtype.PType.{PType}
use Rattle.column_base.specs.declared.dtype.PType.TheVariants.{U64}
use Rattle.column_base.specs.ValidityForm.{NeverNull}
use Rattle.column_core.specs.BoolForm.{bool_with}
use Rattle.column_core.specs.PrimitiveForm.{PrimitiveForm, primitive_with}
use Rattle.column_core.specs.Leaf.{Leaf, OfNumbers, OfTruths, OfDecimals, OfVarBins, leaf_count, leaf_dtype}
use Rattle.column_fields.specs.BitBytes.{bit_bytes}
use Rattle.column_fields.specs.DecimalBytes.{decimals_bytes}
use Rattle.column_fields.specs.DecimalFields.{decimal_fields}
use Rattle.column_fields.specs.FlatFields.{flat_fields}
use Rattle.column_fields.specs.Field.{number_field, bytes_field}
use Rattle.column_fields.specs.Header.{header_bytes}
use Rattle.column_fields.specs.ListFields.{list_fields}
use Rattle.column_fields.specs.Validity.{validity_field}
use Rattle.column_fields.specs.Lengths.{lengths_bytes}
use Rattle.column_fields.specs.NumberBytes.{numbers_bytes}
use Rattle.column_fields.specs.RunFields.{run_fields}
use Rattle.column_fields.specs.Types.{type_number}
use Rattle.runend_array.specs.Column.{Column, OfLeaf, OfConstant, OfLists, OfRuns, column_dtype}
use Rattle.runend_array.specs.Lists.{Index, PlainIndex, RunIndex, RowValidityForm, ByRows, ByRuns, Lists, list_count}
use Rattle.column_bytes.specs.Texts.{text_bytes, text_fields, text_sizes}
use Rattle.column_bytes.specs.Values.{constant_fields}

-- the number of a type: 1 to 8 the native types, then booleans, decimals, texts, bytes and lists
abbrev pub kind_number : DType → ℕ
kind_number (column.Primitive t n) = type_number t
kind_number (column.Bool n) = 9
kind_number (column.Decimal d n) = 10
kind_number (column.Utf8 n) = 11
kind_number (column.Binary n) = 12
kind_number (column.List e n) = 13

-- the number of texts, and that of bytes
abbrev pub varbin_number : VarBinKind → ℕ
varbin_number Utf8 = 11
varbin_number Binary = 12

-- the number of a form
abbrev pub form_number : Column → ℕ
form_number (OfLeaf leaf) = 1
form_number (OfRuns ends_type ends values offset count) = 2
form_number (OfConstant constant) = 3
form_number (OfLists lists) = 4

-- how many rows
abbrev pub column_count : Column → ℕ
column_count (OfLeaf leaf) = leaf_count leaf
column_count (OfRuns ends_type ends values offset count) = count
column_count (OfConstant constant) = constant.count
column_count (OfLists lists) = list_count lists

-- what a flat column's message says after its header: which rows are null, and the items, stored under null too; of
-- texts and bytes what the rows show
abbrev pub leaf_fields : Leaf → List ℕ
leaf_fields (OfNumbers form) = flat_fields form.validity (numbers_bytes form.ptype form.numbers)
leaf_fields (OfTruths form) = flat_fields form.validity (bit_bytes form.bits)
leaf_fields (OfDecimals form) = decimal_fields form.validity form.decimal (decimals_bytes form.numbers)
leaf_fields (OfVarBins form) = text_fields form.validity (text_sizes form) (text_bytes form)

-- the message of a flat column
abbrev pub leaf_message : Leaf → List ℕ
leaf_message leaf = header_bytes (kind_number (leaf_dtype leaf)) 1 (leaf_count leaf) ++ leaf_fields leaf

-- the message of runs over a flat column
abbrev pub leaf_runs_message : PType → List ℕ → Leaf → ℕ → ℕ → List ℕ
leaf_runs_message ends_type ends leaf offset count = header_bytes (kind_number (leaf_dtype leaf)) 2 count ++ run_fields offset ends_type (lengths_bytes 0 ends) (leaf_message leaf)

-- numbers of 64 bits without null, as those of offsets and of sizes
abbrev pub index_form : List ℕ → PrimitiveForm
index_form numbers = primitive_with U64 (map (λ (n : ℕ). pos n) numbers) NeverNull

-- the message of a column of offsets, or of one of sizes
abbrev pub index_message : Index → List ℕ
index_message (PlainIndex numbers) = leaf_message (OfNumbers (index_form numbers))
index_message (RunIndex ends_type ends numbers offset count) = leaf_runs_message ends_type ends (OfNumbers (index_form numbers)) offset count

-- the fields that say which lists are valid: those of flat rows, or 5 and a message of runs of booleans
abbrev pub row_validity_field : RowValidityForm → List ℕ
row_validity_field (ByRows form) = validity_field form
row_validity_field (ByRuns ends_type ends bits offset count) = number_field 5 5 ++ bytes_field 16 (leaf_runs_message ends_type ends (OfTruths (bool_with bits NeverNull)) offset count)

-- what the message of lists says after its header: elements, offsets and sizes are messages of their own
abbrev pub lists_body : Lists → List ℕ
lists_body lists = row_validity_field lists.validity ++ list_fields (leaf_message lists.elements) (index_message lists.offsets) (index_message lists.sizes)

abbrev pub column_header : Column → List ℕ
column_header c = header_bytes (kind_number (column_dtype c)) (form_number c) (column_count c)

-- what a message says after its header; the values of runs are a message of their own
unfoldable pub column_body : Column → List ℕ
column_body (OfLeaf leaf) = leaf_fields leaf
column_body (OfConstant constant) = constant_fields constant.dtype constant.value
column_body (OfLists lists) = lists_body lists
column_body (OfRuns ends_type ends values offset count) = run_fields offset ends_type (lengths_bytes 0 ends) (column_header values ++ column_body values)

-- the message
abbrev pub column_bytes : Column → List ℕ
column_bytes c = column_header c ++ column_body c
