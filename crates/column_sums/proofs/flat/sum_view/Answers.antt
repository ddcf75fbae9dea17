use Rattle.std.proofs.Common.{◌∙◌, sym, ap}
use Rattle.column_core.specs.PrimitiveForm.{optional_numbers}
use Rattle.column_sums.specs.SumRange.{sum_range}
use Rattle.column_sums.specs.SumAnswer.{answer_of}
use Rattle.column_sums.proofs.SingleRows.{numbers-of_rows}
use Rattle.column_sums.proofs.flat.sum_view.Goals as goal

pub returns-in-Primitive-clause-answer : goal.returns-in-Primitive-clause-answer
returns-in-Primitive-clause-answer g c =
    let form = c.in-Primitive.array.now in
    rw c.in-Primitive.is (c.sum_numbers.ensures ∙ sym (ap (answer_of (sum_range form.ptype)) (numbers-of_rows (optional_numbers form))))
