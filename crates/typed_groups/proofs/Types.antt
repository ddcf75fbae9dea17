-- The types of answers.
use Rattle.std.proofs.Common.{◌≡◌, true}
use Rattle.column_base.specs.declared.dtype.DType.{DType}
use Rattle.column_base.specs.declared.dtype.DType.TheVariants as column
use Rattle.column_base.specs.declared.dtype.Nullability.TheVariants.{Nullable}
use Rattle.column_base.specs.Types.{with_nullability}
use Rattle.column_core.specs.Value.{IsLists}
use Rattle.column_floats.specs.Formats.{is_floats}
use Rattle.runend_decimals.specs.Rows.{is_decimals}
use Rattle.typed_groups.specs.declared.question.Question.{Question}
use Rattle.typed_groups.specs.declared.question.Question.TheVariants as asks
use Rattle.typed_groups.specs.Questions.{IsAskedOf, decimal_sum_dtype, question_dtype}

single_nullable : (t : DType) → ¬ IsLists t → ¬ IsLists (with_nullability t Nullable)
single_nullable (column.Bool n) single lists = lists
single_nullable (column.Primitive t n) single lists = lists
single_nullable (column.Decimal d n) single lists = lists
single_nullable (column.Utf8 n) single lists = lists
single_nullable (column.Binary n) single lists = lists
single_nullable (column.List e n) single lists = single lists

single_floats : (t : DType) → is_floats t ≡ true → ¬ IsLists t
single_floats (column.Bool n) floats lists = lists
single_floats (column.Primitive t n) floats lists = lists
single_floats (column.Decimal d n) floats lists = lists
single_floats (column.Utf8 n) floats lists = lists
single_floats (column.Binary n) floats lists = lists
single_floats (column.List e n) floats lists = absurd (cc)

single_decimals : (t : DType) → is_decimals t ≡ true → ¬ IsLists (decimal_sum_dtype t)
single_decimals (column.Bool n) decimals lists = lists
single_decimals (column.Primitive t n) decimals lists = lists
single_decimals (column.Decimal d n) decimals lists = lists
single_decimals (column.Utf8 n) decimals lists = lists
single_decimals (column.Binary n) decimals lists = lists
single_decimals (column.List e n) decimals lists = absurd (cc)

-- no answer is a list
pub single_answers : (question : Question) (t : DType) → IsAskedOf question t → ¬ IsLists (question_dtype question t)
single_answers asks.Count t asked lists = lists
single_answers (asks.FloatSum f) t asked lists = lists
single_answers asks.DecimalSum t asked lists = single_decimals t asked lists
single_answers (asks.LeastNumber f) t asked lists = single_nullable t (single_floats t asked.0) lists
single_answers (asks.GreatestNumber f) t asked lists = single_nullable t (single_floats t asked.0) lists
single_answers asks.Least t asked lists = single_nullable t asked lists
single_answers asks.Greatest t asked lists = single_nullable t asked lists
single_answers asks.First t asked lists = single_nullable t asked lists
single_answers asks.Last t asked lists = single_nullable t asked lists
