use Rattle.std.proofs.Common.{arith}
use Rattle.column_fields.proofs.EndReading.{shorter}
use Rattle.column_bytes.specs.declared.run_cursors.RunCursor.{RunCursor}
use Rattle.column_bytes.proofs.RunCursors.{not_over, read_more, reads}
use Rattle.column_bytes.proofs.run_cursors.RunCursor.past_run.Goals as goal

pub returns-in_err-length-clause-found : goal.returns-in_err-length-clause-found
returns-in_err-length-clause-found c = λ ends position h ended before. absurd (not_over ends position c.args.self c.in_err-length.ensures.none h ended before)

pub returns-in_err-checked_add-2-clause-found : goal.returns-in_err-checked_add-2-clause-found
returns-in_err-checked_add-2-clause-found c = λ ends position h ended before.
    let r = reads ends position c.args.self c.in_ok-length.length c.in_ok-length.rest.now c.in_ok-length.ensures.small c.in_ok-length.ensures.found h ended before in
    absurd (omega (arith, c.in_err-checked_add-2.ensures, r.small))

pub returns-clause-shorter : goal.returns-clause-shorter
returns-clause-shorter c = shorter c.in_ok-length.length c.args.self.rest.now c.in_ok-length.rest.now c.in_ok-length.ensures.small c.in_ok-length.ensures.found

pub returns-clause-found : goal.returns-clause-found
returns-clause-found c = λ ends position h ended before.
    let next : RunCursor = record { count = c.in_ok-checked_add.field-0; end = c.in_ok-checked_add-2.field-0; rest = c.in_ok-length.rest } in
    let r = reads ends position c.args.self c.in_ok-length.length c.in_ok-length.rest.now c.in_ok-length.ensures.small c.in_ok-length.ensures.found h ended before in
    read_more ends position c.in_ok-length.length c.args.self next r h ended (omega (arith, c.in_ok-checked_add.ensures)) (omega (arith, c.in_ok-checked_add-2.ensures))
