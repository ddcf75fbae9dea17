use Rattle.std.proofs.Common.{arith}
use Rattle.column_bytes.proofs.ConstantReads.{bytes_of_null, no_null_type, null_of}
use Rattle.column_bytes.proofs.constants.read_null.Goals as goal

pub returns-then-bytes-ne0-clause-bad : goal.returns-then-bytes-ne0-clause-bad
returns-then-bytes-ne0-clause-bad g c = λ _. bytes_of_null c.args.kind c.args.bytes.now (λ e. c.if-bytes-ne0.true (omega (arith, e)))

pub returns-in-None-clause-bad : goal.returns-in-None-clause-bad
returns-in-None-clause-bad g c = λ _. no_null_type c.args.kind c.args.bytes.now c.in-None.ensures.none

pub returns-in-Some-clause-found : goal.returns-in-Some-clause-found
returns-in-Some-clause-found g c =
    null_of c.args.kind c.args.bytes.now c.in-Some.dtype c.unwrap.result (omega arith) c.in-Some.ensures.plain c.in-Some.ensures.found c.in-Some.ensures.nullability (rw c.unwrap.ensures at c.try_new.ensures.ok)
