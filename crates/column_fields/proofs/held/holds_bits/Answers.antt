use Rattle.std.proofs.Common.{arith}
use Rattle.column_fields.proofs.BitWords.{not_padded}
use Rattle.column_fields.proofs.HeldNumbers.{held_bits, other_length}
use Rattle.column_fields.proofs.held.holds_bits.Goals as goal

pub returns-clause-yes : goal.returns-clause-yes
returns-clause-yes c = held_bits c.args.count c.args.bytes.now (omega (arith, c.bytes_for.ensures)) (c.is_padded.ensures.0 c.if-not-is_padded.false)

pub returns-then-bytes-bytes_for-clause-no : goal.returns-then-bytes-bytes_for-clause-no
returns-then-bytes-bytes_for-clause-no c = other_length c.args.count c.args.bytes.now (λ e. c.if-bytes-bytes_for.true (omega (arith, e, c.bytes_for.ensures)))

pub returns-then-not-is_padded-clause-no : goal.returns-then-not-is_padded-clause-no
returns-then-not-is_padded-clause-no c = not_padded c.args.count c.args.bytes.now (λ h. absurd (cc (c.is_padded.ensures.1 h, c.if-not-is_padded.true)))
