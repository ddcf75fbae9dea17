use Rattle.std.proofs.Common.{false, true}
use Rattle.c_kernels.proofs.FloatEndings.{truths_boxed}
use Rattle.c_kernels.proofs.float_columns.compared.Goals as goal

pub returns-in_ok-compare_numbers-clause-made : goal.returns-in_ok-compare_numbers-clause-made
returns-in_ok-compare_numbers-clause-made c =
    let truths = c.in_ok-compare_numbers in
    truths_boxed c.args.is_ieee true c.args.operator c.args.bits c.args.floats.now truths.field-0 c.boxed_runs.result (λ made. made.value.array) c.if-is_ieee.true truths.ensures.compared c.boxed_runs.ensures.form

pub returns-in_ok-compare_total-clause-made : goal.returns-in_ok-compare_total-clause-made
returns-in_ok-compare_total-clause-made c =
    let truths = c.in_ok-compare_total in
    let boxed = c.boxed_runs-else-is_ieee in
    truths_boxed c.args.is_ieee false c.args.operator c.args.bits c.args.floats.now truths.field-0 boxed.result (λ made. made.value.array) c.if-is_ieee.false truths.ensures.compared boxed.ensures.form
