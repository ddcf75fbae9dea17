use Rattle.std.proofs.Common.{ap, arith, length}
use Rattle.std.proofs.lemmas.List.{nil_from_length}
use Rattle.column_bytes.proofs.constant_checks.is_empty.Goals as goal

pub returns-then-bytes-ne0-clause-no : goal.returns-then-bytes-ne0-clause-no
returns-then-bytes-ne0-clause-no c = λ e. c.if-bytes-ne0.true (omega (arith, ap length e))

pub returns-clause-yes : goal.returns-clause-yes
returns-clause-yes c = nil_from_length c.args.bytes.now (omega (arith, c.if-bytes-ne0.false))
