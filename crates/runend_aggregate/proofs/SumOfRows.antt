-- The answer of the numbers of a column's rows is that of the rows.
use Rattle.std.proofs.Common.{◌≡◌, ◌∙◌, ℤ, List, Option, map, ap}
use Rattle.column_base.specs.declared.dtype.DType.{DType}
use Rattle.column_base.specs.declared.dtype.DType.TheVariants as column
use Rattle.column_core.specs.Value.{Value}
use Rattle.column_sums.specs.SumAnswer.{IsSumAnswer, answer_of, number_in}
use Rattle.column_sums.specs.SumRange.{SumRange, SignedRange, UnsignedRange}
use Rattle.column_sums.specs.declared.answer.SumAnswer.{SumAnswer}
use Rattle.column_sums.proofs.SingleRows.{sum_range-signed, sum_range-unsigned}
use Rattle.runend_aggregate.specs.SignOf.{IsSignedType, IsUnsignedType}

pub signed_answer : (t : DType) (rows : List (Option Value)) (numbers : List (Option ℤ)) (answer : SumAnswer) → IsSignedType t
    → answer ≡ answer_of SignedRange numbers → numbers ≡ map number_in rows → IsSumAnswer t rows answer
signed_answer (column.Primitive t n) rows numbers answer signed summed same =
    summed ∙ ap (answer_of SignedRange) same ∙ ap (λ (range : SumRange). answer_of range (map number_in rows)) (sum_range-signed t signed)
signed_answer (column.Bool n) rows numbers answer signed summed same = absurd signed
signed_answer (column.Decimal d n) rows numbers answer signed summed same = absurd signed
signed_answer (column.Utf8 n) rows numbers answer signed summed same = absurd signed
signed_answer (column.Binary n) rows numbers answer signed summed same = absurd signed
signed_answer (column.List e n) rows numbers answer signed summed same = absurd signed

pub unsigned_answer : (t : DType) (rows : List (Option Value)) (numbers : List (Option ℤ)) (answer : SumAnswer) → IsUnsignedType t
    → answer ≡ answer_of UnsignedRange numbers → numbers ≡ map number_in rows → IsSumAnswer t rows answer
unsigned_answer (column.Primitive t n) rows numbers answer unsigned summed same =
    summed ∙ ap (answer_of UnsignedRange) same ∙ ap (λ (range : SumRange). answer_of range (map number_in rows)) (sum_range-unsigned t unsigned)
unsigned_answer (column.Bool n) rows numbers answer unsigned summed same = absurd unsigned
unsigned_answer (column.Decimal d n) rows numbers answer unsigned summed same = absurd unsigned
unsigned_answer (column.Utf8 n) rows numbers answer unsigned summed same = absurd unsigned
unsigned_answer (column.Binary n) rows numbers answer unsigned summed same = absurd unsigned
unsigned_answer (column.List e n) rows numbers answer unsigned summed same = absurd unsigned
