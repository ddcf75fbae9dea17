use Rattle.std.proofs.Common.{◌∙◌, ap, arith, ℕ, ◌++◌}
use Rattle.column_fields.specs.Varint.{varint}
use Rattle.column_fields.proofs.LengthBytes.{one_byte, two_bytes}
use Rattle.column_fields.proofs.ends.read_length.Goals as goal

pub returns-then-first-lt128-clause-found : goal.returns-then-first-lt128-clause-found
returns-then-first-lt128-clause-found c =
    one_byte c.in-Some.first.now c.args.bytes.now c.in-Some.after_first.now c.if-first-lt128.true c.in-Some.ensures.cases.0 ∙ ap (λ (n : ℕ). varint n ++ c.in-Some.after_first.now) (omega (arith, c.from.ensures))

pub returns-clause-found : goal.returns-clause-found
returns-clause-found c =
    two_bytes c.in-Some.first.now c.in-Some-split_first.second.now _ c.args.bytes.now c.in-Some.after_first.now c.in-Some-split_first.after_second.now (omega arith) (omega arith) (omega arith) (omega arith) (omega (arith, c.from-2.ensures, c.from-3.ensures)) c.in-Some.ensures.cases.0 c.in-Some-split_first.ensures.cases.0
