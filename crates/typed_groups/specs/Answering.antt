-- How what is asked of the groups of a column is answered, by what its rows are worked as.
use Rattle.std.specs.Prelude.{◌≡◌, ⊤, true, Option, None, Some, IsSome, option_map, if◌then◌else◌}
use Rattle.column_base.specs.declared.dtype.DType.{DType}
use Rattle.column_core.specs.Kinds.{is_list, is_numbers}
use Rattle.float_bits.specs.declared.formats.FloatFormat.{FloatFormat}
use Rattle.runend_array.specs.Column.{column_dtype}
use Rattle.runend_pairs.specs.declared.group_fold.GroupFold.{GroupFold}
use Rattle.runend_pairs.specs.declared.group_fold.GroupFold.TheVariants as fold
use Rattle.typed_columns.specs.Typed.{TypedForm}
use Rattle.typed_kernels.specs.Served.{served}
use Rattle.typed_kernels.specs.Sums.{summand_of}
use Rattle.typed_kernels.specs.declared.meanings.Served.{Served}
use Rattle.typed_kernels.specs.declared.meanings.Served.TheVariants as served_as
use Rattle.typed_kernels.specs.declared.sums.Summand.{Summand}
use Rattle.typed_kernels.specs.declared.sums.Summand.TheVariants as summed
use Rattle.typed_groups.specs.declared.answering.Answering.{Answering}
use Rattle.typed_groups.specs.declared.answering.Answering.TheVariants.{Rows, Numbers, Each}
use Rattle.typed_groups.specs.declared.question.Question.{Question}
use Rattle.typed_groups.specs.declared.question.Question.TheVariants.{Count, FloatSum, DecimalSum, LeastNumber, GreatestNumber, Least, Greatest, First, Last}
use Rattle.typed_groups.specs.Questions.{IsAskedOf}

-- integers by their runs, other rows group by group
abbrev pub numbers_or : Question → DType → Answering
numbers_or question t = if is_numbers t then Numbers else Each question

-- of lists nothing
abbrev pub value_or : Question → DType → Option Answering
value_or question t = if is_list t then None else Some (numbers_or question t)

-- floats by the numbers among them
abbrev pub bound_or : (FloatFormat → Question) → Question → Served → DType → Option Answering
bound_or number question served_as.Stored t = value_or question t
bound_or number question (served_as.Floats f) t = Some (Each (number f))
bound_or number question (served_as.Times time) t = value_or question t

-- sums, by what rows are added as
abbrev pub sum_answering : Summand → Answering
sum_answering summed.Integers = Numbers
sum_answering summed.Decimals = Each DecimalSum
sum_answering (summed.Floats f) = Each (FloatSum f)

-- how the groups of a column are answered, if they are
abbrev pub answering_of : GroupFold → TypedForm → Option Answering
answering_of fold.Rows c = Some Rows
answering_of fold.Count c = Some (numbers_or Count (column_dtype c.column))
answering_of fold.Sum c = option_map sum_answering (summand_of c)
answering_of fold.Least c = bound_or LeastNumber Least (served c) (column_dtype c.column)
answering_of fold.Greatest c = bound_or GreatestNumber Greatest (served c) (column_dtype c.column)
answering_of fold.First c = value_or First (column_dtype c.column)
answering_of fold.Last c = value_or Last (column_dtype c.column)

-- they are
abbrev pub IsAnswered : GroupFold → TypedForm → Type 0
IsAnswered asks c = IsSome (answering_of asks c)

-- rows of a type are answered so
abbrev pub IsPossible : DType → Answering → Type 0
IsPossible t Rows = ⊤
IsPossible t Numbers = is_numbers t ≡ true
IsPossible t (Each question) = IsAskedOf question t
