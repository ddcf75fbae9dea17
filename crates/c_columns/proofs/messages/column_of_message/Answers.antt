use Rattle.std.proofs.Common.{Err, ap}
use Rattle.std.proofs.lemmas.Result.{IfErr-weaker}
use Rattle.runend_array.specs.Array.{column_of}
use Rattle.c_columns.proofs.MessageEndings.{read_fault, read_short}
use Rattle.c_columns.proofs.messages.column_of_message.Goals as goal

pub returns-in-Ok-clause-refused : goal.returns-in-Ok-clause-refused
returns-in-Ok-clause-refused c =
    IfErr-weaker c.boxed_under.result _ _ (λ error h. read_short c.args.bytes.now c.in-Ok.format.now (column_of c.in-Ok.array) error c.in-Ok.ensures.found h) c.boxed_under.ensures.only

pub returns-in-Err-clause-refused : goal.returns-in-Err-clause-refused
returns-in-Err-clause-refused c =
    let e = c.in-Err.ensures in
    read_fault c.args.bytes.now c.in-Err.error e.only (λ h. e.bad (ap Err h)) (λ h. e.short (ap Err h))
