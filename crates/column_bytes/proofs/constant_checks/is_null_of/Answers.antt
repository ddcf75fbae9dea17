use Rattle.std.proofs.Common.{arith}
use Rattle.column_bytes.proofs.ConstantChecks.{null_type_found}
use Rattle.column_bytes.proofs.ConstantReads.{bytes_of_null, no_null_type}
use Rattle.column_bytes.proofs.constant_checks.is_null_of.Goals as goal

pub returns-then-bytes-ne0-clause-no : goal.returns-then-bytes-ne0-clause-no
returns-then-bytes-ne0-clause-no c = bytes_of_null c.args.kind c.args.bytes.now (λ e. c.if-bytes-ne0.true (omega (arith, e)))

pub returns-in-None-clause-no : goal.returns-in-None-clause-no
returns-in-None-clause-no c = no_null_type c.args.kind c.args.bytes.now c.in-None.ensures.none

pub returns-in-Some-clause-yes : goal.returns-in-Some-clause-yes
returns-in-Some-clause-yes c =
    null_type_found c.args.kind c.args.bytes.now c.in-Some._dtype (omega (arith, c.if-bytes-ne0.false)) c.in-Some.ensures.plain c.in-Some.ensures.found c.in-Some.ensures.nullability
