use Rattle.std.proofs.Common.{rules, ◌∙◌, ap}
use Rattle.column_base.specs.Types.{IsUnsigned}
use Rattle.column_core.specs.PrimitiveForm.{optional_numbers}
use Rattle.column_sums.specs.SumRange.{SignedRange, UnsignedRange}
use Rattle.column_sums.specs.SumAnswer.{answer_of}
use Rattle.column_sums.proofs.SingleRows.{rows_of_runs-runs_of_rows, sum_range-signed, sum_range-unsigned}
use Rattle.column_sums.proofs.flat.sum_numbers.Goals as goal

pub returns-then-is_unsigned_int : goal.returns-then-is_unsigned_int
returns-then-is_unsigned_int g c =
    let form = c.args.array.now in
    let unsigned : IsUnsigned form.ptype = search rules in
    c.sum_in_runs.ensures.answer ∙ ap (answer_of UnsignedRange) (rows_of_runs-runs_of_rows (optional_numbers form))
    ∙ ap (λ range. answer_of range (optional_numbers form)) (sum_range-unsigned form.ptype unsigned)

pub returns-else-is_unsigned_int : goal.returns-else-is_unsigned_int
returns-else-is_unsigned_int g c =
    let form = c.args.array.now in
    let signed : IsUnsigned form.ptype → ⊥ = search rules in
    c.sum_in_runs-else-is_unsigned_int.ensures.answer ∙ ap (answer_of SignedRange) (rows_of_runs-runs_of_rows (optional_numbers form))
    ∙ ap (λ range. answer_of range (optional_numbers form)) (sum_range-signed form.ptype signed)
