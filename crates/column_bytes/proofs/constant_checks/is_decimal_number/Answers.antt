use Rattle.std.proofs.Common.{ap, arith, length}
use Rattle.column_fields.proofs.DecimalLaws.{length-decimal_bytes}
use Rattle.column_fields.proofs.HeldNumbers.{held_decimal}
use Rattle.column_bytes.proofs.constant_checks.is_decimal_number.Goals as goal

pub returns-then-bytes-ne-DECIMAL_SIZE-clause-no : goal.returns-then-bytes-ne-DECIMAL_SIZE-clause-no
returns-then-bytes-ne-DECIMAL_SIZE-clause-no c = λ z e. c.if-bytes-ne-DECIMAL_SIZE.true (omega (arith, ap length e, length-decimal_bytes z))

pub returns-clause-yes : goal.returns-clause-yes
returns-clause-yes c =
    let h = held_decimal c.args.bytes.now (λ i. omega (arith, c.type_inv.bytes i)) (omega (arith, c.if-bytes-ne-DECIMAL_SIZE.false)) in
    (h.number, h.fits, h.shows)
