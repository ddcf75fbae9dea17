use Rattle.std.proofs.Common.{arith, rules}
use Rattle.column_fields.proofs.Varints.{if_none}
use Rattle.column_fields.proofs.VarintReading.{bits_fit, bytes_end, last_byte, more_bytes, tenth_byte, tenth_too_large}
use Rattle.column_fields.proofs.varint.read_varint.Goals as goal

pub returns-in_err-byte-clause-none : goal.returns-in_err-byte-clause-none
returns-in_err-byte-clause-none c =
    if_none _ _ (bytes_end _ c.loop-shift.rest.now _ _ c.loop-shift.invariant c.in_err-byte.ensures.none)

pub with_bits-value-requires-clause-fits : goal.with_bits-value-requires-clause-fits
with_bits-value-requires-clause-fits c =
    let h = c.loop-shift.invariant in
    bits_fit _ _ _ (omega arith) h.small (omega (arith, h.shift_is))

pub returns-then-byte-lt128-clause-found : goal.returns-then-byte-lt128-clause-found
returns-then-byte-lt128-clause-found c =
    rw c.with_bits-value.ensures (last_byte _ c.loop-shift.rest.now _ c.in_ok-byte.byte _ _ c.loop-shift.invariant (omega arith) c.in_ok-byte.ensures.found (omega arith))

pub loop-shift-preserved : goal.loop-shift-preserved
loop-shift-preserved c =
    rw c.with_bits-value.ensures (more_bytes _ c.loop-shift.rest.now _ c.in_ok-byte.byte _ _ c.loop-shift.invariant (omega arith) c.in_ok-byte.ensures.found (omega arith) (search rules))

pub returns-in_err-last-clause-none : goal.returns-in_err-last-clause-none
returns-in_err-last-clause-none c =
    if_none _ _ (bytes_end _ c.loop-shift.rest.now _ _ c.loop-shift.invariant c.in_err-last.ensures.none)

pub returns-then-last-gt1-clause-none : goal.returns-then-last-gt1-clause-none
returns-then-last-gt1-clause-none c =
    tenth_too_large _ c.loop-shift.rest.now _ c.in_ok-last.last _ _ c.loop-shift.invariant (omega arith) c.in_ok-last.ensures.found (omega arith)

pub returns-clause-found : goal.returns-clause-found
returns-clause-found c =
    rw c.with_bits.ensures (tenth_byte _ c.loop-shift.rest.now _ c.in_ok-last.last _ _ c.loop-shift.invariant (omega arith) c.in_ok-last.ensures.found (omega arith))
