use Rattle.runend_script.specs.Lengthened.{IsRepeated}
use Rattle.runend_script.proofs.RowsBehind.{passed_on, repeated_refused}
use Rattle.runend_script.proofs.scripts.repeat_reply.Goals as goal

pub returns-in_err-whole-clause-repeated : goal.returns-in_err-whole-clause-repeated
returns-in_err-whole-clause-repeated g c =
    let before = c.args.column.now in
    passed_on (λ result. IsRepeated before c.args.word.now c.args.count result before) c.in_err-whole.field-0.0 c.from_residual.result c.from_residual.ensures.1
    (repeated_refused before before c.args.word.now c.args.count c.in-Some.value c.in_err-whole.field-0.0 (rw c.dtype.ensures at c.in-Some.ensures) c.in_err-whole.ensures.refused)
