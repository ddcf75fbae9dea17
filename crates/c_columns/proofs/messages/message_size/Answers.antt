use Rattle.std.proofs.Common.{Err, ap}
use Rattle.typed_columns.specs.Typed.{typed_of}
use Rattle.c_columns.proofs.MessageEndings.{size_refused, size_told}
use Rattle.c_columns.proofs.messages.message_size.Goals as goal

pub returns-in-Ok-clause-told : goal.returns-in-Ok-clause-told
returns-in-Ok-clause-told c = size_told c.args.column.now c.as_str.result.now c.in-Ok.size c.as_str.ensures.value c.in-Ok.ensures.writable c.in-Ok.ensures.size

pub returns-in-Err-clause-refused : goal.returns-in-Err-clause-refused
returns-in-Err-clause-refused c =
    let e = c.in-Err.ensures in
    size_refused (typed_of c.args.column.now) c.as_str.result.now c.as_str.ensures.value c.in-Err.error e.only (λ h. e.deep (ap Err h)) (λ h. e.refused (ap Err h)) (λ h. let same = e.exact h in cc) (λ h. e.past (ap Err h))
